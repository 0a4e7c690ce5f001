use Rattle.jn_events.proofs.Common.{ServerNo, DeviceState, coming_up, Task, ComesUp, StoreView, standing_of, ◌<◌, ℕ, ◌+◌, length, Ok, Err, refl, ◌∙◌, arith}
use Rattle.jn_events.proofs.Calls.{server-turn, servers-cut, servers-end, does-nothing}
use Rattle.jn_events.proofs.Calm.{risen-none, risen-more, risen-all, still-down}
use Rattle.jn_events.proofs.Turns.{does-exit}
use Rattle.jn_events.proofs.starting.bring_all_up.Goals as goal

pub loop-s-init : goal.loop-s-init
loop-s-init g c =
    let look : g.row.S.Denot → StoreView = λ s. g.S.StableStore.view s in
    let device : g.row.S.Denot → DeviceState = λ s. g.S.Powered.device s in
    let when = c.args.when in
    let w = standing_of c.args.world.now in
    let first = c.args.lines.now.items in
    record { world = c.requires.world; risen = risen-none look c.args.world.now.places.items; as_many = refl; clients = refl; does = does-nothing look device when {A = ℕ} 0 w first }

pub loop-s-preserved : goal.loop-s-preserved
loop-s-preserved g c =
    let look : g.row.S.Denot → StoreView = λ s. g.S.StableStore.view s in
    let device : g.row.S.Denot → DeviceState = λ s. g.S.Powered.device s in
    let when = c.args.when in
    let w = standing_of c.args.world.now in
    let first = c.args.lines.now.items in
    let f : ServerNo → Task = λ (q : ServerNo). ComesUp q in
    let v = standing_of c.loop-s.world in
    let u = standing_of c.bring_up_at_once.new.world in
    let now = c.loop-s.lines.items in
    let later = c.bring_up_at_once.new.lines.items in
    let e = c.in_ok-bring_up_at_once.ensures in
    let end = c.servers-s-end.ensures in
    let test = c.loop-s-test.true in
    let many = c.loop-s.invariant.as_many in
    let within : c.loop-s.s < length c.loop-s.world.places.items = omega (arith, c.loop-s.world.places.ok.0) in
    record {
      world = e.world;
      risen = risen-more look c.loop-s.s c.args.world.now.places.items c.loop-s.world.places.items c.bring_up_at_once.new.world.places.items within c.loop-s.invariant.risen e.calm;
      as_many = e.as_many ∙ c.loop-s.invariant.as_many;
      clients = e.clients ∙ c.loop-s.invariant.clients;
      does = server-turn look device when f (λ q. refl) {A = ℕ} {B = ℕ} c.loop-s.s 0 (Ok 0) w v u first now later c.loop-s.invariant.does
          (e.does);
    }

pub returns-in_err-bring_up_at_once-clause-does : goal.returns-in_err-bring_up_at_once-clause-does
returns-in_err-bring_up_at_once-clause-does g c =
    let look : g.row.S.Denot → StoreView = λ s. g.S.StableStore.view s in
    let device : g.row.S.Denot → DeviceState = λ s. g.S.Powered.device s in
    let when = c.args.when in
    let w = standing_of c.args.world.now in
    let first = c.args.lines.now.items in
    let f : ServerNo → Task = λ (q : ServerNo). ComesUp q in
    let v = standing_of c.loop-s.world in
    let u = standing_of c.bring_up_at_once.new.world in
    let now = c.loop-s.lines.items in
    let later = c.bring_up_at_once.new.lines.items in
    let fails = c.in_err-bring_up_at_once.ensures in
    let e = c.in_err-bring_up_at_once.field-0.0 in
    does-exit look device when ℕ _ c.from_residual.result e coming_up w u u first later c.from_residual.ensures.0 c.from_residual.ensures.1
    (servers-cut look device when f (λ q. refl) ℕ ℕ (c.loop-s.s + 1) e w u u first later (omega (arith, c.args.world.now.places.ok.0))
    (server-turn look device when f (λ q. refl) {A = ℕ} {B = ℕ} c.loop-s.s 0 (Err e) w v u first now later c.loop-s.invariant.does
    (fails.does)))

pub returns-clause-does : goal.returns-clause-does
returns-clause-does g c =
    let look : g.row.S.Denot → StoreView = λ s. g.S.StableStore.view s in
    let device : g.row.S.Denot → DeviceState = λ s. g.S.Powered.device s in
    let when = c.args.when in
    let w = standing_of c.args.world.now in
    let first = c.args.lines.now.items in
    let f : ServerNo → Task = λ (q : ServerNo). ComesUp q in
    servers-end look device when f (λ q. refl) {A = ℕ} c.loop-s.s (Ok 0) w (standing_of c.loop-s.world) first c.loop-s.lines.items (omega (arith, c.args.world.now.places.ok.0)) c.loop-s.invariant.does

pub bring_up_at_once-requires-clause-down : goal.bring_up_at_once-requires-clause-down
bring_up_at_once-requires-clause-down g c =
    let look : g.row.S.Denot → StoreView = λ s. g.S.StableStore.view s in
    still-down look c.loop-s.s c.args.world.now.places.items c.loop-s.world.places.items c.loop-s.invariant.risen c.requires.all_down

pub returns-clause-calm : goal.returns-clause-calm
returns-clause-calm g c =
    let look : g.row.S.Denot → StoreView = λ s. g.S.StableStore.view s in
    let many = c.loop-s.invariant.as_many in
    risen-all look c.loop-s.s c.args.world.now.places.items c.loop-s.world.places.items (omega (arith, c.args.world.now.places.ok.0, c.loop-s.world.places.ok.0)) c.loop-s.invariant.risen

use Rattle.jn_events.proofs.Common.{ServerNo, DeviceState, going_down, Task, GoesDown, End, StoreView, standing_of, ℕ, ◌+◌, Ok, Err, refl, ◌∙◌, arith}
use Rattle.jn_events.proofs.Calls.{server-turn, servers-cut, servers-end, does-nothing}
use Rattle.jn_events.proofs.Calm.{down-none, down-more, down-all}
use Rattle.jn_events.proofs.Turns.{goes-down-does, does-exit}
use Rattle.jn_events.proofs.ending.crash_all.Goals as goal

pub loop-s-init : goal.loop-s-init
loop-s-init g c =
    let look : g.row.S.Denot → StoreView = λ s. g.S.StableStore.view s in
    let device : g.row.S.Denot → DeviceState = λ s. g.S.Powered.device s in
    let when = End in
    let w = standing_of c.args.world.now in
    let first = c.args.lines.now.items in
    record { world = c.requires.world; down = down-none c.args.world.now.places.items; quiet = λ all. all; as_many = refl; clients = refl; does = does-nothing look device when {A = ℕ} 0 w first }

pub loop-s-preserved : goal.loop-s-preserved
loop-s-preserved g c =
    let look : g.row.S.Denot → StoreView = λ s. g.S.StableStore.view s in
    let device : g.row.S.Denot → DeviceState = λ s. g.S.Powered.device s in
    let when = End in
    let w = standing_of c.args.world.now in
    let first = c.args.lines.now.items in
    let f : ServerNo → Task = λ (q : ServerNo). GoesDown q in
    let v = standing_of c.loop-s.world in
    let u = standing_of c.take_down.new.world in
    let now = c.loop-s.lines.items in
    let later = c.take_down.new.lines.items in
    let e = c.in_ok-take_down.ensures in
    record {
      world = e.world;
      down = down-more c.loop-s.s c.loop-s.world.places.items c.take_down.new.world.places.items c.loop-s.invariant.down e.down;
      quiet = λ all. e.quiet (c.loop-s.invariant.quiet all);
      as_many = e.as_many ∙ c.loop-s.invariant.as_many;
      clients = e.clients ∙ c.loop-s.invariant.clients;
      does = server-turn look device when f (λ q. refl) {A = ℕ} {B = ℕ} c.loop-s.s 0 (Ok 0) w v u first now later c.loop-s.invariant.does
          (goes-down-does look device when {A = ℕ} (record { 0 = c.loop-s.s }) (Ok 0) v u now later e.does);
    }

pub returns-in_err-take_down-clause-does : goal.returns-in_err-take_down-clause-does
returns-in_err-take_down-clause-does g c =
    let look : g.row.S.Denot → StoreView = λ s. g.S.StableStore.view s in
    let device : g.row.S.Denot → DeviceState = λ s. g.S.Powered.device s in
    let when = End in
    let w = standing_of c.args.world.now in
    let first = c.args.lines.now.items in
    let f : ServerNo → Task = λ (q : ServerNo). GoesDown q in
    let v = standing_of c.loop-s.world in
    let u = standing_of c.take_down.new.world in
    let now = c.loop-s.lines.items in
    let later = c.take_down.new.lines.items in
    let fails = c.in_err-take_down.ensures in
    let e = c.in_err-take_down.field-0.0 in
    does-exit look device when ℕ _ c.from_residual.result e going_down w u u first later c.from_residual.ensures.0 c.from_residual.ensures.1
    (servers-cut look device when f (λ q. refl) ℕ ℕ (c.loop-s.s + 1) e w u u first later (omega (arith, c.args.world.now.places.ok.0))
    (server-turn look device when f (λ q. refl) {A = ℕ} {B = ℕ} c.loop-s.s 0 (Err e) w v u first now later c.loop-s.invariant.does
    (goes-down-does look device when {A = ℕ} (record { 0 = c.loop-s.s }) (Err e) v u now later fails.does)))

pub returns-clause-does : goal.returns-clause-does
returns-clause-does g c =
    let look : g.row.S.Denot → StoreView = λ s. g.S.StableStore.view s in
    let device : g.row.S.Denot → DeviceState = λ s. g.S.Powered.device s in
    let when = End in
    let w = standing_of c.args.world.now in
    let first = c.args.lines.now.items in
    let f : ServerNo → Task = λ (q : ServerNo). GoesDown q in
    servers-end look device when f (λ q. refl) {A = ℕ} c.loop-s.s (Ok 0) w (standing_of c.loop-s.world) first c.loop-s.lines.items (omega (arith, c.args.world.now.places.ok.0)) c.loop-s.invariant.does

pub returns-clause-all_down : goal.returns-clause-all_down
returns-clause-all_down g c =
    let many = c.loop-s.invariant.as_many in
    down-all c.loop-s.s c.loop-s.world.places.items (omega (arith, c.args.world.now.places.ok.0, c.loop-s.world.places.ok.0)) c.loop-s.invariant.down

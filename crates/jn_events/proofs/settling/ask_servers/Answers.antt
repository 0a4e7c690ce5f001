use Rattle.jn_events.proofs.Common.{ServerNo, DeviceState, asking_servers, Task, Acts, Nudge, StoreView, standing_of, ℕ, ◌+◌, Ok, Err, refl, ◌∙◌, arith}
use Rattle.jn_events.proofs.Calls.{server-turn, servers-cut, servers-end, does-nothing}
use Rattle.jn_events.proofs.Turns.{acts-does, does-exit}
use Rattle.jn_events.proofs.settling.ask_servers.Goals as goal

pub loop-s-init : goal.loop-s-init
loop-s-init g c =
    let look : g.row.S.Denot → StoreView = λ s. g.S.StableStore.view s in
    let device : g.row.S.Denot → DeviceState = λ s. g.S.Powered.device s in
    let when = c.args.when in
    let w = standing_of c.args.world.now in
    let first = c.args.lines.now.items in
    record { world = c.requires.world; calm = λ all. all; as_many = refl; does = does-nothing look device when {A = ℕ} 0 w first }

pub loop-s-preserved : goal.loop-s-preserved
loop-s-preserved g c =
    let look : g.row.S.Denot → StoreView = λ s. g.S.StableStore.view s in
    let device : g.row.S.Denot → DeviceState = λ s. g.S.Powered.device s in
    let when = c.args.when in
    let w = standing_of c.args.world.now in
    let first = c.args.lines.now.items in
    let f : ServerNo → Task = λ q. Acts (Nudge q) in
    let v = standing_of c.loop-s.world in
    let u = standing_of c.ask_server.new.world in
    let now = c.loop-s.lines.items in
    let later = c.ask_server.new.lines.items in
    let e = c.in_ok-ask_server.ensures in
    record {
      world = e.world;
      calm = λ all. e.calm (c.loop-s.invariant.calm all);
      as_many = e.as_many ∙ c.loop-s.invariant.as_many;
      does = server-turn look device when f (λ q. refl) {A = ℕ} {B = ℕ} c.loop-s.s 0 (Ok 0) w v u first now later c.loop-s.invariant.does
          (acts-does look device when {A = ℕ} (Nudge (record { 0 = c.loop-s.s })) (Ok 0) v u now later refl e.does);
    }

pub returns-in_err-ask_server-clause-does : goal.returns-in_err-ask_server-clause-does
returns-in_err-ask_server-clause-does g c =
    let look : g.row.S.Denot → StoreView = λ s. g.S.StableStore.view s in
    let device : g.row.S.Denot → DeviceState = λ s. g.S.Powered.device s in
    let when = c.args.when in
    let w = standing_of c.args.world.now in
    let first = c.args.lines.now.items in
    let f : ServerNo → Task = λ q. Acts (Nudge q) in
    let v = standing_of c.loop-s.world in
    let u = standing_of c.ask_server.new.world in
    let now = c.loop-s.lines.items in
    let later = c.ask_server.new.lines.items in
    let fails = c.in_err-ask_server.ensures in
    let e = c.in_err-ask_server.field-0.0 in
    does-exit look device when ℕ _ c.from_residual.result e asking_servers w u u first later c.from_residual.ensures.0 c.from_residual.ensures.1
    (servers-cut look device when f (λ q. refl) ℕ ℕ (c.loop-s.s + 1) e w u u first later (omega (arith, c.args.world.now.places.ok.0))
    (server-turn look device when f (λ q. refl) {A = ℕ} {B = ℕ} c.loop-s.s 0 (Err e) w v u first now later c.loop-s.invariant.does
    (acts-does look device when {A = ℕ} (Nudge (record { 0 = c.loop-s.s })) (Err e) v u now later refl fails.does)))

pub returns-clause-does : goal.returns-clause-does
returns-clause-does g c =
    let look : g.row.S.Denot → StoreView = λ s. g.S.StableStore.view s in
    let device : g.row.S.Denot → DeviceState = λ s. g.S.Powered.device s in
    let when = c.args.when in
    let w = standing_of c.args.world.now in
    let first = c.args.lines.now.items in
    let f : ServerNo → Task = λ q. Acts (Nudge q) in
    servers-end look device when f (λ q. refl) {A = ℕ} c.loop-s.s (Ok 0) w (standing_of c.loop-s.world) first c.loop-s.lines.items (omega (arith, c.args.world.now.places.ok.0)) c.loop-s.invariant.does

use Rattle.jn_events.proofs.Common.{ClientNo, DeviceState, asking_clients, DoesTasks, Task, Acts, Again, StoreView, standing_of, ◌≡◌, ℕ, ◌+◌, Ok, Err, refl, subst, arith}
use Rattle.jn_events.proofs.Calls.{at_clients, client-turn, clients-cut, does-nothing}
use Rattle.jn_events.proofs.Turns.{acts-does, does-exit}
use Rattle.jn_events.proofs.settling.ask_clients.Goals as goal

pub loop-c-init : goal.loop-c-init
loop-c-init g c =
    let look : g.row.S.Denot → StoreView = λ s. g.S.StableStore.view s in
    let device : g.row.S.Denot → DeviceState = λ s. g.S.Powered.device s in
    let when = c.args.when in
    let w = standing_of c.args.world.now in
    let first = c.args.lines.now.items in
    record { world = c.requires.world; calm = λ all. all; does = does-nothing look device when {A = ℕ} 0 w first }

pub loop-c-preserved : goal.loop-c-preserved
loop-c-preserved g c =
    let look : g.row.S.Denot → StoreView = λ s. g.S.StableStore.view s in
    let device : g.row.S.Denot → DeviceState = λ s. g.S.Powered.device s in
    let when = c.args.when in
    let w = standing_of c.args.world.now in
    let first = c.args.lines.now.items in
    let f : ClientNo → Task = λ q. Acts (Again q) in
    let v = standing_of c.loop-c.world in
    let u = standing_of c.again.new.self in
    let now = c.loop-c.lines.items in
    let later = c.again.new.lines.items in
    let e = c.in_ok-again.ensures in
    record {
      world = e.world;
      calm = λ all. e.calm (c.loop-c.invariant.calm all);
      does = client-turn look device when f (λ q. refl) {A = ℕ} {B = ℕ} c.loop-c.c 0 (Ok 0) w v u first now later c.loop-c.invariant.does
          (acts-does look device when {A = ℕ} (Again (record { 0 = c.loop-c.c + 1 })) (Ok 0) v u now later refl e.does);
    }

pub returns-in_err-again-clause-does : goal.returns-in_err-again-clause-does
returns-in_err-again-clause-does g c =
    let look : g.row.S.Denot → StoreView = λ s. g.S.StableStore.view s in
    let device : g.row.S.Denot → DeviceState = λ s. g.S.Powered.device s in
    let when = c.args.when in
    let w = standing_of c.args.world.now in
    let first = c.args.lines.now.items in
    let f : ClientNo → Task = λ q. Acts (Again q) in
    let v = standing_of c.loop-c.world in
    let u = standing_of c.again.new.self in
    let now = c.loop-c.lines.items in
    let later = c.again.new.lines.items in
    let fails = c.in_err-again.ensures in
    let e = c.in_err-again.field-0.0 in
    does-exit look device when ℕ _ c.from_residual.result e asking_clients w u u first later c.from_residual.ensures.0 c.from_residual.ensures.1
    (clients-cut look device when f (λ q. refl) ℕ ℕ (c.loop-c.c + 1) 8 e w u u first later (omega arith)
    (client-turn look device when f (λ q. refl) {A = ℕ} {B = ℕ} c.loop-c.c 0 (Err e) w v u first now later c.loop-c.invariant.does
    (acts-does look device when {A = ℕ} (Again (record { 0 = c.loop-c.c + 1 })) (Err e) v u now later refl fails.does)))

pub returns-clause-does : goal.returns-clause-does
returns-clause-does g c =
    let look : g.row.S.Denot → StoreView = λ s. g.S.StableStore.view s in
    let device : g.row.S.Denot → DeviceState = λ s. g.S.Powered.device s in
    let when = c.args.when in
    let w = standing_of c.args.world.now in
    let first = c.args.lines.now.items in
    let f : ClientNo → Task = λ q. Acts (Again q) in
    let all : c.loop-c.c ≡ 8 = omega arith in
    subst (λ (n : ℕ). DoesTasks {A = ℕ} look device (at_clients f n) when w (Ok 0) (standing_of c.loop-c.world) first c.loop-c.lines.items) all c.loop-c.invariant.does

use Rattle.jn_events.proofs.Common.{ServerNo, DeviceState, TellsFirst, Step, StoreView, standing_of, ℕ, Bool, false, Option, Ok, Err, subst}
use Rattle.jn_events.proofs.Busy.{works-next}
use Rattle.jn_events.proofs.Resting.{turn-kept}
use Rattle.jn_events.proofs.Turns.{turns-none, turns-exit}
use Rattle.jn_events.proofs.Waits.{none-waits}
use Rattle.jn_events.proofs.settling.carries_on.Goals as goal

pub returns-in_err-make_step-clause-turn : goal.returns-in_err-make_step-clause-turn
returns-in_err-make_step-clause-turn g c =
    let look : g.row.S.Denot → StoreView = λ s. g.S.StableStore.view s in
    let device : g.row.S.Denot → DeviceState = λ s. g.S.Powered.device s in
    let seen = g.met.S.Powered.seen in
    let when = c.args.when in
    let w = standing_of c.args.world.now in
    let first = c.args.lines.now.items in
    let busy = subst (λ (o : Option ServerNo). TellsFirst look device w.places o) c.in-Some.is c.first_busy.ensures.first in
    let q = c.in-Some.server in
    let none = none-waits c.args.world.now.net c.waiting.result c.is_some.result c.waiting.ensures c.is_some.ensures c.if-is_some.false in
    let u = standing_of c.make_step.new.self in
    let later = c.make_step.new.lines.items in
    let fails = c.in_err-make_step.ensures in
    let e = c.in_err-make_step.field-0.0 in
    turns-exit look device when ℕ _ c.from_residual.result e w u u first later c.from_residual.ensures.0 c.from_residual.ensures.1
    (turn-kept look device seen when w {A = ℕ} (Step q) (Err e) u first later (works-next look device seen w none q busy) fails.does)

pub returns-in-Some-clause-turn : goal.returns-in-Some-clause-turn
returns-in-Some-clause-turn g c =
    let look : g.row.S.Denot → StoreView = λ s. g.S.StableStore.view s in
    let device : g.row.S.Denot → DeviceState = λ s. g.S.Powered.device s in
    let seen = g.met.S.Powered.seen in
    let when = c.args.when in
    let w = standing_of c.args.world.now in
    let first = c.args.lines.now.items in
    let busy = subst (λ (o : Option ServerNo). TellsFirst look device w.places o) c.in-Some.is c.first_busy.ensures.first in
    let q = c.in-Some.server in
    let none = none-waits c.args.world.now.net c.waiting.result c.is_some.result c.waiting.ensures c.is_some.ensures c.if-is_some.false in
    let u = standing_of c.make_step.new.self in
    let later = c.make_step.new.lines.items in
    let went = c.in_ok-make_step.ensures in
    turn-kept look device seen when w {A = ℕ} (Step q) (Ok 0) u first later (works-next look device seen w none q busy) went.does

pub returns-then-is_some-clause-turn : goal.returns-then-is_some-clause-turn
returns-then-is_some-clause-turn g c =
    let look : g.row.S.Denot → StoreView = λ s. g.S.StableStore.view s in
    let device : g.row.S.Denot → DeviceState = λ s. g.S.Powered.device s in
    turns-none look device c.args.when {A = Bool} false (standing_of c.args.world.now) c.args.lines.now.items

pub returns-clause-turn : goal.returns-clause-turn
returns-clause-turn g c =
    let look : g.row.S.Denot → StoreView = λ s. g.S.StableStore.view s in
    let device : g.row.S.Denot → DeviceState = λ s. g.S.Powered.device s in
    turns-none look device c.args.when {A = Bool} false (standing_of c.args.world.now) c.args.lines.now.items

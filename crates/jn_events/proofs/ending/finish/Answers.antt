use Rattle.jn_events.proofs.Common.{DeviceState, turning, thanking, telling, finishing, End, StoreView, standing_of, ℕ, ◌++◌, Ok, Err}
use Rattle.jn_events.proofs.Calls.{does-then, does-cut}
use Rattle.jn_events.proofs.Finishing.{turning-quiet, thanking-quiet, both-quiet}
use Rattle.jn_events.proofs.Turns.{does-exit}
use Rattle.jn_events.proofs.ending.finish.Goals as goal

pub returns-in_err-turn_over-clause-does : goal.returns-in_err-turn_over-clause-does
returns-in_err-turn_over-clause-does g c =
    let look : g.row.S.Denot → StoreView = λ s. g.S.StableStore.view s in
    let device : g.row.S.Denot → DeviceState = λ s. g.S.Powered.device s in
    let w = standing_of c.args.world.now in
    let first = c.args.lines.now.items in
    let u = standing_of c.turn_over.new.world in
    let later = c.turn_over.new.lines.items in
    let e = c.in_err-turn_over.field-0.0 in
    let fails = c.in_err-turn_over.ensures in
    does-exit look device End ℕ _ c.from_residual.result e finishing w u u first later c.from_residual.ensures.0 c.from_residual.ensures.1
    (does-cut look device End ℕ ℕ (λ x. turning x ++ thanking x) telling e w u u first later (does-cut look device End ℕ ℕ turning thanking e w u u first later fails.does))

pub returns-in_err-thank_all-clause-does : goal.returns-in_err-thank_all-clause-does
returns-in_err-thank_all-clause-does g c =
    let look : g.row.S.Denot → StoreView = λ s. g.S.StableStore.view s in
    let device : g.row.S.Denot → DeviceState = λ s. g.S.Powered.device s in
    let w = standing_of c.args.world.now in
    let first = c.args.lines.now.items in
    let v = standing_of c.turn_over.new.world in
    let u = standing_of c.thank_all.new.world in
    let now = c.turn_over.new.lines.items in
    let later = c.thank_all.new.lines.items in
    let e = c.in_err-thank_all.field-0.0 in
    let went = c.in_ok-turn_over.ensures in
    let fails = c.in_err-thank_all.ensures in
    does-exit look device End ℕ _ c.from_residual-in_err-thank_all.result e finishing w u u first later c.from_residual-in_err-thank_all.ensures.0 c.from_residual-in_err-thank_all.ensures.1
    (does-cut look device End ℕ ℕ (λ x. turning x ++ thanking x) telling e w u u first later
    (does-then look device End {B = ℕ} turning thanking c.in_ok-turn_over.field-0 (Err e) w v u first now later turning-quiet went.does fails.does))

pub returns-clause-does : goal.returns-clause-does
returns-clause-does g c =
    let look : g.row.S.Denot → StoreView = λ s. g.S.StableStore.view s in
    let device : g.row.S.Denot → DeviceState = λ s. g.S.Powered.device s in
    let w = standing_of c.args.world.now in
    let first = c.args.lines.now.items in
    let v = standing_of c.turn_over.new.world in
    let u = standing_of c.thank_all.new.world in
    let z = standing_of c.tell_all.new.world in
    let now = c.turn_over.new.lines.items in
    let again = c.thank_all.new.lines.items in
    let later = c.tell_all.new.lines.items in
    let went = c.in_ok-turn_over.ensures in
    let on = c.in_ok-thank_all.ensures in
    does-then look device End (λ x. turning x ++ thanking x) telling c.in_ok-thank_all.field-0 c.tell_all.result w u z first again later (λ x. both-quiet (turning x) (thanking x) (turning-quiet x) (thanking-quiet x))
    (does-then look device End turning thanking c.in_ok-turn_over.field-0 (Ok c.in_ok-thank_all.field-0) w v u first now again turning-quiet went.does on.does) c.tell_all.ensures.does

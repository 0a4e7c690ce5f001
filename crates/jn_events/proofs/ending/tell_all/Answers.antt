use Rattle.jn_events.proofs.Common.{DeviceState, showing_all, scrubbing_all, telling, CountsCommits, End, StoreView, standing_of, ℕ, ◌∷◌, [], ◌++◌, Ok, Err}
use Rattle.jn_events.proofs.Calls.{does-then, does-cut}
use Rattle.jn_events.proofs.Finishing.{showing-quiet, scrubbing-quiet, both-quiet}
use Rattle.jn_events.proofs.Turns.{does-exit}
use Rattle.jn_events.proofs.ending.tell_all.Goals as goal

pub returns-in_err-show_all-clause-does : goal.returns-in_err-show_all-clause-does
returns-in_err-show_all-clause-does g c =
    let look : g.row.S.Denot → StoreView = λ s. g.S.StableStore.view s in
    let device : g.row.S.Denot → DeviceState = λ s. g.S.Powered.device s in
    let w = standing_of c.args.world.now in
    let first = c.args.lines.now.items in
    let u = standing_of c.show_all.new.world in
    let later = c.show_all.new.lines.items in
    let e = c.in_err-show_all.field-0.0 in
    let fails = c.in_err-show_all.ensures in
    does-exit look device End ℕ _ c.from_residual.result e telling w u u first later c.from_residual.ensures.0 c.from_residual.ensures.1
    (does-cut look device End ℕ ℕ (λ x. showing_all x ++ scrubbing_all x) (λ x. CountsCommits ∷ []) e w u u first later (does-cut look device End ℕ ℕ showing_all scrubbing_all e w u u first later fails.does))

pub returns-in_err-scrub_all-clause-does : goal.returns-in_err-scrub_all-clause-does
returns-in_err-scrub_all-clause-does g c =
    let look : g.row.S.Denot → StoreView = λ s. g.S.StableStore.view s in
    let device : g.row.S.Denot → DeviceState = λ s. g.S.Powered.device s in
    let w = standing_of c.args.world.now in
    let first = c.args.lines.now.items in
    let v = standing_of c.show_all.new.world in
    let u = standing_of c.scrub_all.new.world in
    let now = c.show_all.new.lines.items in
    let later = c.scrub_all.new.lines.items in
    let e = c.in_err-scrub_all.field-0.0 in
    let went = c.in_ok-show_all.ensures in
    let fails = c.in_err-scrub_all.ensures in
    does-exit look device End ℕ _ c.from_residual-in_err-scrub_all.result e telling w u u first later c.from_residual-in_err-scrub_all.ensures.0 c.from_residual-in_err-scrub_all.ensures.1
    (does-cut look device End ℕ ℕ (λ x. showing_all x ++ scrubbing_all x) (λ x. CountsCommits ∷ []) e w u u first later
    (does-then look device End {B = ℕ} showing_all scrubbing_all c.in_ok-show_all.field-0 (Err e) w v u first now later showing-quiet went.does fails.does))

pub returns-clause-does : goal.returns-clause-does
returns-clause-does g c =
    let look : g.row.S.Denot → StoreView = λ s. g.S.StableStore.view s in
    let device : g.row.S.Denot → DeviceState = λ s. g.S.Powered.device s in
    let w = standing_of c.args.world.now in
    let first = c.args.lines.now.items in
    let v = standing_of c.show_all.new.world in
    let u = standing_of c.scrub_all.new.world in
    let z = u in
    let now = c.show_all.new.lines.items in
    let again = c.scrub_all.new.lines.items in
    let later = c.tell_count.new.lines.items in
    let went = c.in_ok-show_all.ensures in
    let on = c.in_ok-scrub_all.ensures in
    does-then look device End (λ x. showing_all x ++ scrubbing_all x) (λ x. CountsCommits ∷ []) c.in_ok-scrub_all.field-0 c.tell_count.result w u z first again later (λ x. both-quiet (showing_all x) (scrubbing_all x) (showing-quiet x) (scrubbing-quiet x))
    (does-then look device End showing_all scrubbing_all c.in_ok-show_all.field-0 (Ok c.in_ok-scrub_all.field-0) w v u first now again showing-quiet went.does on.does) c.tell_count.ensures.does

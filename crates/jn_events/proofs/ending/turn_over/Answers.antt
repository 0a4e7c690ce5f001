use Rattle.jn_events.proofs.Common.{DeviceState, going_down, coming_up, End, StoreView, standing_of, ℕ, ◌++◌}
use Rattle.jn_events.proofs.Calls.{does-then, does-cut}
use Rattle.jn_events.proofs.Calm.{rise-to}
use Rattle.jn_events.proofs.Finishing.{going-quiet}
use Rattle.jn_events.proofs.Turns.{does-exit}
use Rattle.jn_events.proofs.ending.turn_over.Goals as goal

pub returns-in_err-crash_all-clause-does : goal.returns-in_err-crash_all-clause-does
returns-in_err-crash_all-clause-does g c =
    let look : g.row.S.Denot → StoreView = λ s. g.S.StableStore.view s in
    let device : g.row.S.Denot → DeviceState = λ s. g.S.Powered.device s in
    let w = standing_of c.args.world.now in
    let first = c.args.lines.now.items in
    let u = standing_of c.crash_all.new.world in
    let later = c.crash_all.new.lines.items in
    let e = c.in_err-crash_all.field-0.0 in
    let fails = c.in_err-crash_all.ensures in
    does-exit look device End ℕ _ c.from_residual.result e (λ x. going_down x ++ coming_up x) w u u first later c.from_residual.ensures.0 c.from_residual.ensures.1
    (does-cut look device End ℕ ℕ going_down coming_up e w u u first later fails.does)

pub returns-clause-does : goal.returns-clause-does
returns-clause-does g c =
    let look : g.row.S.Denot → StoreView = λ s. g.S.StableStore.view s in
    let device : g.row.S.Denot → DeviceState = λ s. g.S.Powered.device s in
    let w = standing_of c.args.world.now in
    let first = c.args.lines.now.items in
    let e = c.in_ok-crash_all.ensures in
    does-then look device End going_down coming_up c.in_ok-crash_all.field-0 c.bring_all_up.result w (standing_of c.crash_all.new.world) (standing_of c.bring_all_up.new.world)
    first c.crash_all.new.lines.items c.bring_all_up.new.lines.items going-quiet e.does c.bring_all_up.ensures.does

pub returns-clause-calm : goal.returns-clause-calm
returns-clause-calm g c =
    let look : g.row.S.Denot → StoreView = λ s. g.S.StableStore.view s in
    let e = c.in_ok-crash_all.ensures in
    rise-to look c.crash_all.new.world.places.items c.bring_all_up.new.world.places.items c.bring_all_up.result (e.quiet c.requires.quiet) c.bring_all_up.ensures.calm

pub bring_all_up-requires-clause-all_down : goal.bring_all_up-requires-clause-all_down
bring_all_up-requires-clause-all_down g c = let e = c.in_ok-crash_all.ensures in e.all_down

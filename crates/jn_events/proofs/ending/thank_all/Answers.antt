use Rattle.jn_events.proofs.Common.{DeviceState, closing_clients, settling, End, StoreView, standing_of, ℕ, ◌++◌}
use Rattle.jn_events.proofs.Calls.{does-then, does-cut}
use Rattle.jn_events.proofs.Calm.{stay-to}
use Rattle.jn_events.proofs.Finishing.{closing-quiet}
use Rattle.jn_events.proofs.Images.{rested-clean}
use Rattle.jn_events.proofs.Turns.{does-exit}
use Rattle.jn_events.proofs.ending.thank_all.Goals as goal

pub returns-in_err-close_all_clients-clause-does : goal.returns-in_err-close_all_clients-clause-does
returns-in_err-close_all_clients-clause-does g c =
    let look : g.row.S.Denot → StoreView = λ s. g.S.StableStore.view s in
    let device : g.row.S.Denot → DeviceState = λ s. g.S.Powered.device s in
    let w = standing_of c.args.world.now in
    let first = c.args.lines.now.items in
    let u = standing_of c.close_all_clients.new.world in
    let later = c.close_all_clients.new.lines.items in
    let e = c.in_err-close_all_clients.field-0.0 in
    let fails = c.in_err-close_all_clients.ensures in
    does-exit look device End ℕ _ c.from_residual.result e (λ x. closing_clients x ++ settling x) w u u first later c.from_residual.ensures.0 c.from_residual.ensures.1
    (does-cut look device End ℕ ℕ closing_clients settling e w u u first later fails.does)

pub returns-clause-does : goal.returns-clause-does
returns-clause-does g c =
    let look : g.row.S.Denot → StoreView = λ s. g.S.StableStore.view s in
    let device : g.row.S.Denot → DeviceState = λ s. g.S.Powered.device s in
    let w = standing_of c.args.world.now in
    let first = c.args.lines.now.items in
    let e = c.in_ok-close_all_clients.ensures in
    does-then look device End closing_clients settling c.in_ok-close_all_clients.field-0 c.settle_at.result w (standing_of c.close_all_clients.new.world) (standing_of c.settle_at.new.world)
    first c.close_all_clients.new.lines.items c.settle_at.new.lines.items closing-quiet e.does c.settle_at.ensures.does

pub returns-clause-calm : goal.returns-clause-calm
returns-clause-calm g c =
    let look : g.row.S.Denot → StoreView = λ s. g.S.StableStore.view s in
    let e = c.in_ok-close_all_clients.ensures in
    stay-to look c.close_all_clients.new.world.places.items c.settle_at.new.world.places.items c.settle_at.result e.calm c.settle_at.ensures.calm

pub returns-clause-clean : goal.returns-clause-clean
returns-clause-clean g c =
    let look : g.row.S.Denot → StoreView = λ s. g.S.StableStore.view s in
    let device : g.row.S.Denot → DeviceState = λ s. g.S.Powered.device s in
    rested-clean look device c.settle_at.result c.settle_at.new.world.net c.settle_at.new.world.places.items c.settle_at.ensures.rests

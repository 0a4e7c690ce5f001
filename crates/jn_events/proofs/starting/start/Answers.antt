use Rattle.jn_events.proofs.Common.{DeviceState, StoreView, standing_of, ℕ}
use Rattle.jn_events.proofs.Finishing.{starts-at, starts-not, starts-without}
use Rattle.jn_events.proofs.starting.start.Goals as goal

pub returns-in_err-world-clause-written : goal.returns-in_err-world-clause-written
returns-in_err-world-clause-written g c =
    let look : g.row.S.Denot → StoreView = λ s. g.S.StableStore.view s in
    let device : g.row.S.Denot → DeviceState = λ s. g.S.Powered.device s in
    starts-without look device g.met.S.Powered.seen c.from_residual.result c.args.stores.items c.args.trace c.args.lines.now.items c.args.lines.now.items c.from_residual.ensures.0 c.from_residual.ensures.1

pub returns-in_err-bring_all_up-clause-written : goal.returns-in_err-bring_all_up-clause-written
returns-in_err-bring_all_up-clause-written g c =
    let look : g.row.S.Denot → StoreView = λ s. g.S.StableStore.view s in
    let device : g.row.S.Denot → DeviceState = λ s. g.S.Powered.device s in
    let made = c.in_ok-world.ensures in
    let fails = c.in_err-bring_all_up.ensures in
    starts-not look device g.met.S.Powered.seen ℕ c.in_err-bring_all_up.field-0.0 c.from_residual-in_err-bring_all_up.result c.args.stores.items c.args.trace (standing_of c.in_ok-world.world) (standing_of c.bring_all_up.new.world)
    c.args.lines.now.items c.bring_all_up.new.lines.items c.from_residual-in_err-bring_all_up.ensures.0 c.from_residual-in_err-bring_all_up.ensures.1 made.opens fails.does

pub returns-clause-written : goal.returns-clause-written
returns-clause-written g c =
    let look : g.row.S.Denot → StoreView = λ s. g.S.StableStore.view s in
    let device : g.row.S.Denot → DeviceState = λ s. g.S.Powered.device s in
    let made = c.in_ok-world.ensures in
    let went = c.in_ok-bring_all_up.ensures in
    starts-at look device g.met.S.Powered.seen _ c.in_ok-bring_all_up.field-0 c.args.stores.items c.args.trace (standing_of c.in_ok-world.world) c.bring_all_up.new.world
    c.args.lines.now.items c.bring_all_up.new.lines.items made.opens went.does

pub bring_all_up-requires-clause-all_down : goal.bring_all_up-requires-clause-all_down
bring_all_up-requires-clause-all_down g c = let made = c.in_ok-world.ensures in made.all_down

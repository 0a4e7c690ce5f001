use Rattle.jn_events.proofs.Common.{DeviceState, AreIdle, StoreView, standing_of, Standing, ℕ, sym, subst, ap}
use Rattle.jn_events.proofs.Closing.{are-idle}
use Rattle.jn_events.proofs.Finishing.{closes, closes-not, closes-without}
use Rattle.jn_events.proofs.Images.{given-image}
use Rattle.jn_events.proofs.ending.close.Goals as goal

pub finish-requires-clause-idle : goal.finish-requires-clause-idle
finish-requires-clause-idle g c =
    subst (λ (cs : _). AreIdle cs) (sym (ap (λ (w : Standing g.row.S.Denot). w.clients) c.dismiss.ensures.dismissed)) (are-idle c.args.world.clients.items)

pub returns-in_err-finish-clause-written : goal.returns-in_err-finish-clause-written
returns-in_err-finish-clause-written g c =
    let look : g.row.S.Denot → StoreView = λ s. g.S.StableStore.view s in
    let device : g.row.S.Denot → DeviceState = λ s. g.S.Powered.device s in
    let w = standing_of c.args.world in
    let v = standing_of c.dismiss.new.world in
    let u = standing_of c.finish.new.world in
    let fails = c.in_err-finish.ensures in
    let limit = c.requires.world.limit in
    λ x m stands tasks stage. closes-not look device g.met.S.Powered.seen x w v u m c.args.lines.now.items c.finish.new.lines.items ℕ (λ stores. stores.items) c.in_err-finish.field-0.0
    c.from_residual.result c.from_residual.ensures.0 c.from_residual.ensures.1 stands tasks stage c.dismiss.ensures.disarmed c.dismiss.ensures.dismissed limit fails.does

pub returns-in_err-into_stores-clause-written : goal.returns-in_err-into_stores-clause-written
returns-in_err-into_stores-clause-written g c =
    let look : g.row.S.Denot → StoreView = λ s. g.S.StableStore.view s in
    let device : g.row.S.Denot → DeviceState = λ s. g.S.Powered.device s in
    λ x m stands tasks stage. closes-without look device g.met.S.Powered.seen (λ stores. stores.items) x m c.from_residual-in_err-into_stores.result c.args.lines.now.items c.finish.new.lines.items
    c.from_residual-in_err-into_stores.ensures.0 c.from_residual-in_err-into_stores.ensures.1

pub returns-clause-written : goal.returns-clause-written
returns-clause-written g c =
    let look : g.row.S.Denot → StoreView = λ s. g.S.StableStore.view s in
    let device : g.row.S.Denot → DeviceState = λ s. g.S.Powered.device s in
    let w = standing_of c.args.world in
    let v = standing_of c.dismiss.new.world in
    let u = standing_of c.finish.new.world in
    let went = c.in_ok-finish.ensures in
    let given = c.in_ok-into_stores.ensures in
    let limit = c.requires.world.limit in
    λ x m stands tasks stage. closes look device g.met.S.Powered.seen x w v u m c.args.lines.now.items c.finish.new.lines.items _ c.in_ok-finish.field-0 (λ stores. stores.items) c.in_ok-into_stores.field-0 given.theirs given.as_many
    (λ last there n s e. let t = given.theirs n s e in given-image look device g.met.S.Powered.seen x u last there n t.place s t.at t.its (went.images n t.place t.at))
    stands tasks stage c.dismiss.ensures.disarmed c.dismiss.ensures.dismissed limit went.does

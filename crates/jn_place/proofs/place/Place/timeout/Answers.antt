use Rattle.jn_place.proofs.Common.{DeviceState, StoreView}
use Rattle.jn_place.proofs.Befalling.{timeout-exact}
use Rattle.jn_place.proofs.place.Place.timeout.Goals as goal

pub returns-clause-timed_out : goal.returns-clause-timed_out
returns-clause-timed_out g c =
    let look : g.row.S.Denot → StoreView = λ s. g.S.StableStore.view s in
    let device : g.row.S.Denot → DeviceState = λ s. g.S.Powered.device s in
    timeout-exact look device c.args.tid c.args.self.now.slot c.in-Up.server c.timeout-live.new.self c.timeout-live.result c.in-Up.is c.timeout-live.ensures.times_out c.timeout-live.ensures.storage

use Rattle.jn_place.proofs.Common.{view_with, memory_of, state, DeviceState, StoreView}
use Rattle.jn_place.proofs.Befalling.{again-exact}
use Rattle.jn_place.proofs.Served.{again-sent}
use Rattle.jn_place.proofs.place.Place.again.Goals as goal

pub returns : goal.returns
returns g c =
    let look : g.row.S.Denot → StoreView = λ s. g.S.StableStore.view s in
    let device : g.row.S.Denot → DeviceState = λ s. g.S.Powered.device s in
    let v = view_with look c.in-Up.server in
    let h = c.in_ok-again.ensures in
    record {
      sent = again-sent c.args.out c.again.new.out (memory_of v) (state v.storage) c.requires.empty h.sent;
      asks = again-exact look device c.args.self.now.slot c.in-Up.server c.args.out c.again.new.out c.in-Up.is c.requires.empty h.sent;
    }

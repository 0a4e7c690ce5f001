use Rattle.jn_place.proofs.Common.{StoreView, same_recoverable, counts_by, DeviceState, powered_off}
use Rattle.jn_place.proofs.Befalling.{stays-down}
use Rattle.jn_place.proofs.Devices.{down-at}
use Rattle.jn_place.proofs.place.Place.power_off.Goals as goal

pub returns-clause-down : goal.returns-clause-down
returns-clause-down g c =
    let look : g.row.S.Denot → StoreView = λ s. g.S.StableStore.view s in
    let n = counts_by c.args.self.now.counts in
    λ server h. same_recoverable (look c.in-Down.store) (look c.power_off.new.self) c.power_off.ensures.pages server n (down-at look server n c.args.self.now.slot c.in-Down.store c.in-Down.is h)

pub returns-clause-off : goal.returns-clause-off
returns-clause-off g c =
    let look : g.row.S.Denot → StoreView = λ s. g.S.StableStore.view s in
    let device : g.row.S.Denot → DeviceState = λ s. g.S.Powered.device s in
    stays-down look device powered_off c.args.self.now.slot c.in-Down.store c.power_off.new.self c.in-Down.is c.power_off.ensures.pages c.power_off.ensures.off

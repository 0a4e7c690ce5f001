use Rattle.jn_place.proofs.Common.{DeviceState, StoreView, same_recoverable}
use Rattle.jn_place.proofs.Befalling.{same-says}
use Rattle.jn_place.proofs.place.unpowered.Goals as goal

pub returns : goal.returns
returns g c =
    let look : g.row.S.Denot → StoreView = λ s. g.S.StableStore.view s in
    let device : g.row.S.Denot → DeviceState = λ s. g.S.Powered.device s in
    record {
      recoverable = λ server n h. same_recoverable (look c.args.store) (look c.power_off.new.self) c.power_off.ensures.pages server n h;
      off = c.power_off.ensures.off;
      same = same-says look device c.args.store c.power_off.new.self c.power_off.ensures.pages;
    }

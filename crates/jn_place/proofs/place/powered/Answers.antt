use Rattle.jn_place.proofs.Common.{DeviceState, StoreView, same_recoverable}
use Rattle.jn_place.proofs.Befalling.{same-says}
use Rattle.jn_place.proofs.place.powered.Goals as goal

pub returns : goal.returns
returns g c =
    let look : g.row.S.Denot → StoreView = λ s. g.S.StableStore.view s in
    let device : g.row.S.Denot → DeviceState = λ s. g.S.Powered.device s in
    record {
      recoverable = λ server n h. same_recoverable (look c.args.store) (look c.power_up.new.self) c.power_up.ensures.pages server n h;
      up = c.power_up.ensures.up;
      same = same-says look device c.args.store c.power_up.new.self c.power_up.ensures.pages;
    }

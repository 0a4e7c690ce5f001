use Rattle.jn_place.proofs.Common.{◌∙◌, true, DeviceState, counts_by, StoreView}
use Rattle.jn_place.proofs.Befalling.{crash-exact}
use Rattle.jn_place.proofs.Devices.{crashed}
use Rattle.jn_place.proofs.place.Place.crash.Goals as goal

pub returns : goal.returns
returns g c =
    let look : g.row.S.Denot → StoreView = λ s. g.S.StableStore.view s in
    let device : g.row.S.Denot → DeviceState = λ s. g.S.Powered.device s in
    let p = c.args.self.now in
    record {
      place = λ server most h. crashed look server most c.args.self.now c.go_down.new.self c.power_off.new.self h c.go_down.ensures.store
          (c.go_down.ensures.down server most true) c.go_down.ensures.counts (c.power_off.ensures.down server) c.power_off.ensures.told c.power_off.ensures.counts;
      crashed = λ server most h. crash-exact look device server (counts_by p.counts) most p.slot c.go_down.new.self.slot c.power_off.new.self.slot h.stands c.go_down.ensures.store c.power_off.ensures.off;
      counts = c.power_off.ensures.counts ∙ c.go_down.ensures.counts;
    }

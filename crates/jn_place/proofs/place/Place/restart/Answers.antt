use Rattle.jn_place.proofs.Common.{sym, ◌∙◌, counts_by, StoreView, DeviceState}
use Rattle.jn_place.proofs.Devices.{down-at}
use Rattle.jn_place.proofs.Rising.{lifted-ok}
use Rattle.jn_place.proofs.place.Place.restart.Goals as goal

pub recover-requires : goal.recover-requires
recover-requires g c =
    let look : g.row.S.Denot → StoreView = λ s. g.S.StableStore.view s in
    let n = counts_by c.args.self.now.counts in
    let (server, h) = c.requires.down in
    record { recoverable = (server, c.powered.ensures.recoverable server n (down-at look server n c.args.self.now.slot c.in-Down.store (sym c.replace.ensures.value ∙ c.in-Down.is) h)) }

pub returns-clause-came : goal.returns-clause-came
returns-clause-came g c =
    let look : g.row.S.Denot → StoreView = λ s. g.S.StableStore.view s in
    let n = counts_by c.args.self.now.counts in
    λ server h. c.recover.ensures.came server (c.powered.ensures.recoverable server n (down-at look server n c.args.self.now.slot c.in-Down.store (sym c.replace.ensures.value ∙ c.in-Down.is) h))

pub returns-clause-lifts : goal.returns-clause-lifts
returns-clause-lifts g c =
    let look : g.row.S.Denot → StoreView = λ s. g.S.StableStore.view s in
    let device : g.row.S.Denot → DeviceState = λ s. g.S.Powered.device s in
    let n = counts_by c.args.self.now.counts in
    let is = sym c.replace.ensures.value ∙ c.in-Down.is in
    λ server h. lifted-ok look device g.met.S.Powered.seen server n c.args.self.now.slot c.in-Down.store c.powered.result c.recover.result c.recover.new.self.slot is c.powered.ensures.up c.powered.ensures.same
    (c.recover.ensures.rises server (c.powered.ensures.recoverable server n (down-at look server n c.args.self.now.slot c.in-Down.store is h)))

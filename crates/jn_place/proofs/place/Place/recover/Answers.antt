use Rattle.jn_place.proofs.Common.{DeviceState, counts_by, view_with, StoreView}
use Rattle.jn_place.proofs.Rising.{risen-ok, came-ok, cut-up, at-last}
use Rattle.jn_place.proofs.Slots.{restarted-held}
use Rattle.jn_place.proofs.place.Place.recover.Goals as goal

pub returns-in-Ok-clause-came : goal.returns-in-Ok-clause-came
returns-in-Ok-clause-came g c =
    let look : g.row.S.Denot → StoreView = λ s. g.S.StableStore.view s in
    let device : g.row.S.Denot → DeviceState = λ s. g.S.Powered.device s in
    let h = c.in-Ok.ensures in
    let n = counts_by c.args.self.now.counts in
    λ server before. came-ok look device server n c.args.store c.stand.result c.in-Ok.found.epoch c.in-Ok.server c.stand.new.self.slot
    (restarted-held server n (look c.args.store) c.in-Ok.found (view_with look c.in-Ok.server) before (h.up server before)) c.stand.ensures.up

pub returns-in-Ok-clause-rises : goal.returns-in-Ok-clause-rises
returns-in-Ok-clause-rises g c =
    let look : g.row.S.Denot → StoreView = λ s. g.S.StableStore.view s in
    let device : g.row.S.Denot → DeviceState = λ s. g.S.Powered.device s in
    let h = c.in-Ok.ensures in
    let n = counts_by c.args.self.now.counts in
    λ server before. risen-ok look device server n c.args.store c.stand.result c.in-Ok.found c.in-Ok.server c.stand.new.self.slot (h.up server before) c.stand.ensures.up

pub returns-in-Stopped-clause-came : goal.returns-in-Stopped-clause-came
returns-in-Stopped-clause-came g c = let h = c.in-Err.ensures in λ server before. (let d = h.down server before in d.down.recovering.recoverable)

pub returns-in-Stopped-clause-rises : goal.returns-in-Stopped-clause-rises
returns-in-Stopped-clause-rises g c =
    let look : g.row.S.Denot → StoreView = λ s. g.S.StableStore.view s in
    let device : g.row.S.Denot → DeviceState = λ s. g.S.Powered.device s in
    let h = c.in-Err.ensures in
    λ server before. cut-up look device server (counts_by c.args.self.now.counts) c.args.store c.in-Err.field-0.cause c.in-Err.field-0.store c.in-Stopped.is (h.down server before)

pub returns-in-EpochsUsedUp-clause-came : goal.returns-in-EpochsUsedUp-clause-came
returns-in-EpochsUsedUp-clause-came g c =
    let h = c.in-Err.ensures in
    λ server before. c.unpowered.ensures.recoverable server (counts_by c.args.self.now.counts) (let d = h.down server before in d.down.recovering.recoverable)

pub returns-in-EpochsUsedUp-clause-rises : goal.returns-in-EpochsUsedUp-clause-rises
returns-in-EpochsUsedUp-clause-rises g c =
    let look : g.row.S.Denot → StoreView = λ s. g.S.StableStore.view s in
    let device : g.row.S.Denot → DeviceState = λ s. g.S.Powered.device s in
    let h = c.in-Err.ensures in
    λ server before. at-last look device server (counts_by c.args.self.now.counts) c.args.store c.in-Err.field-0.cause c.in-Err.field-0.store c.unpowered.result c.in-EpochsUsedUp.is (h.down server before) c.unpowered.ensures.off c.unpowered.ensures.same

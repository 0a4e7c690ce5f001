use Rattle.jn_events.proofs.Common.{DeviceState, StoreView}
use Rattle.jn_events.proofs.Busy.{idle-more, tells-false}
use Rattle.jn_events.proofs.settling.first_busy.Goals as goal

pub loop-s-preserved : goal.loop-s-preserved
loop-s-preserved g c =
    let look : g.row.S.Denot → StoreView = λ s. g.S.StableStore.view s in
    let device : g.row.S.Denot → DeviceState = λ s. g.S.Powered.device s in
    let seen = g.met.S.Powered.seen in
    let ps = c.args.world.now.places.items in
    record { idle = idle-more look device seen c.loop-s.s ps c.loop-s.invariant.idle (tells-false look device seen (record { 0 = c.loop-s.s }) ps c.is_busy.result c.if-is_busy.false c.is_busy.ensures.busy) }

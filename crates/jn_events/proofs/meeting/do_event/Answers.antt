use Rattle.jn_events.proofs.Common.{DeviceState, StoreView, standing_of}
use Rattle.jn_events.proofs.Scheduled.{begins-meets}
use Rattle.jn_events.proofs.meeting.do_event.Goals as goal

pub returns-clause-does : goal.returns-clause-does
returns-clause-does g c =
    let look : g.row.S.Denot → StoreView = λ s. g.S.StableStore.view s in
    let device : g.row.S.Denot → DeviceState = λ s. g.S.Powered.device s in
    begins-meets look device c.args.number c.args.event.now c.meet.result (standing_of c.args.world.now) (standing_of c.meet.new.world) c.args.lines.now.items c.meet.new.lines.items
    (let has = c.requires.world in has.limit) c.meet.ensures.does

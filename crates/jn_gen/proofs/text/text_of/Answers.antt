use Rattle.jn_gen.proofs.Parsing.{bytes_more, schedule_whole, text_more, text_whole}
use Rattle.jn_gen.proofs.text.text_of.Goals as goal

pub loop-event-preserved : goal.loop-event-preserved
loop-event-preserved c = record {
  whole = text_more c.args.events.now c.loop-event.event-index c.event-item.result c.loop-event.out.items _ c.loop-event-test.true c.event-item.is c.in_ok-push_event.ensures.text c.loop-event.invariant.whole;
  bytes = bytes_more c.args.events.now c.loop-event.event-index c.event-item.result c.loop-event-test.true c.event-item.is c.loop-event.invariant.bytes c.in_ok-push_event.ensures.bytes;
}

pub returns-clause-text : goal.returns-clause-text
returns-clause-text c = text_whole c.args.events.now c.loop-event.event-index c.loop-event.out.items c.loop-event-test.false c.loop-event.invariant.whole

pub returns-clause-parses : goal.returns-clause-parses
returns-clause-parses c = schedule_whole c.args.events.now c.loop-event.event-index c.loop-event.out.items c.loop-event-test.false c.loop-event.invariant.whole c.loop-event.invariant.bytes

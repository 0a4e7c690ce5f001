use Rattle.jn_gen.proofs.Common.{◌+◌, ◌-◌, arith, events_from}
use Rattle.jn_gen.proofs.Drawing.{events_more, events_whole}
use Rattle.jn_gen.proofs.schedule.draw_events.Goals as goal

pub events-preserved : goal.events-preserved
events-preserved c = record {
  within = omega arith;
  whole = λ later.
      events_more c.events.generator.state c.draws-drawn.new.self.state (c.args.count - c.events.counter + later) (c.args.count - (c.events.counter + 1) + later)
      c.events.events.items c.push.new.self.items c.draws-drawn.result c.in_ok-event.event (events_from c.args.generator.now.state (c.args.count + later))
      (omega arith) c.draws-drawn.ensures.state c.draws-drawn.ensures.drawn c.in_ok-event.ensures c.in_ok-push.ensures.items (c.events.invariant.whole later);
}

pub returns : goal.returns
returns c = λ later.
    events_whole c.events.generator.state (c.args.count - c.events.counter) later c.events.events.items (events_from c.args.generator.now.state (c.args.count + later)) (omega arith) (c.events.invariant.whole later)

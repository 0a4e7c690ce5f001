use Rattle.jn_run.proofs.Told.{event-told}
use Rattle.jn_run.proofs.running.run_event.Goals as goal

pub returns-clause-ran : goal.returns-clause-ran
returns-clause-ran g c = λ course m rest told stands number. event-told g.R.Reporter.reporting g.met.R.Reporter.joins _ _ course m _ _ told c.args.event.now rest c.args.world.now c.do_event-done.new.world c.args.number c.do_event-done.result c.clear.new.self.items c.do_event-done.new.lines.items c.deref.result.now c.report_lines.result
    c.do_event-done.ensures.does c.clear.ensures.items c.deref.ensures.value c.report_lines.ensures.reported stands number

use Rattle.jn_run.proofs.Common.{course_of}
use Rattle.jn_run.proofs.Stores.{look, device}
use Rattle.jn_run.proofs.Told.{start-told}
use Rattle.jn_run.proofs.running.open_world.Goals as goal

pub returns-clause-opened : goal.returns-clause-opened
returns-clause-opened g c = λ x schedule files epochs images stores trace are.
    start-told g.R.Reporter.reporting g.met.R.Reporter.joins look device (course_of x schedule images c.args.output.now) files epochs are c.start-world.result c.clear.new.self.items c.start-world.new.lines.items c.deref.result.now c.report_lines.result _
    (c.start-world.ensures.written x schedule files epochs images stores trace are) c.clear.ensures.items c.deref.ensures.value c.report_lines.ensures.reported

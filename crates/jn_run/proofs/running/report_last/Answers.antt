use Rattle.jn_run.proofs.Common.{ap, is_ok}
use Rattle.jn_run.proofs.Lines.{last-whole}
use Rattle.jn_run.proofs.running.report_last.Goals as goal

pub returns-in-Ok : goal.returns-in-Ok
returns-in-Ok g c = last-whole g.R.Reporter.reporting g.met.R.Reporter.joins _ _ c.args.lines.now c.report.result (ap is_ok c.in-Ok.is) c.report.ensures.reported

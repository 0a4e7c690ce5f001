use Rattle.jn_system_reports.proofs.Reporting.Following.{run-follows}
use Rattle.jn_system_reports.proofs.reports.answers_follow.Goals as goal

pub returns : goal.returns
returns c = λ servers files epochs. run-follows files epochs servers

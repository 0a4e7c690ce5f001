use Rattle.jn_system_reports.proofs.Reporting.Unnamed.{run-outcomes}
use Rattle.jn_system_reports.proofs.reports.outcomes_are_told.Goals as goal

pub returns : goal.returns
returns c = λ servers files epochs items. run-outcomes files epochs items servers

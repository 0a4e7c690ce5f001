use Rattle.jn_system_reports.proofs.Reporting.ArmedRuns.{run-armed}
use Rattle.jn_system_reports.proofs.reports.stops_and_faults_are_armed.Goals as goal

pub returns : goal.returns
returns c = λ servers files epochs items. run-armed files epochs items servers

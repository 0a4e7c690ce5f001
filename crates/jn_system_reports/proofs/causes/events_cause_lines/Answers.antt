use Rattle.jn_system_reports.proofs.Causing.Causing.{run-causes}
use Rattle.jn_system_reports.proofs.Causing.Ends.{end-causes}
use Rattle.jn_system_reports.proofs.causes.events_cause_lines.Goals as goal

pub returns-clause-lines : goal.returns-clause-lines
returns-clause-lines c = λ servers files epochs. run-causes files epochs servers

pub returns-clause-to_the_end : goal.returns-clause-to_the_end
returns-clause-to_the_end c = λ servers files epochs. end-causes files epochs servers

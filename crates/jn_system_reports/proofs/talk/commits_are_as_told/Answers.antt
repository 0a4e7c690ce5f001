use Rattle.jn_system_reports.proofs.Telling.Reports.{run-as-told, beginning-as-told}
use Rattle.jn_system_reports.proofs.talk.commits_are_as_told.Goals as goal

pub returns-clause-agrees : goal.returns-clause-agrees
returns-clause-agrees c = λ servers files epochs items h. (run-as-told servers files epochs items h).agrees

pub returns-clause-all : goal.returns-clause-all
returns-clause-all c = run-as-told

pub returns-clause-so_far : goal.returns-clause-so_far
returns-clause-so_far c = beginning-as-told

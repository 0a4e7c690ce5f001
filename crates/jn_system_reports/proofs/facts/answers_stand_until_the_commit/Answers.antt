use Rattle.jn_system_reports.proofs.Common.{opening, run}
use Rattle.jn_system_reports.proofs.BetweenSteps.Standing.{stand}
use Rattle.jn_system_reports.proofs.BetweenSteps.Laws.{answers-stand}
use Rattle.jn_system_reports.proofs.BetweenSteps.Lined.{run-lines-stand}
use Rattle.jn_system_reports.proofs.facts.answers_stand_until_the_commit.Goals as goal

pub returns-clause-did : goal.returns-clause-did
returns-clause-did c = λ servers files epochs steps i. answers-stand files epochs (run steps (opening servers files epochs)) (stand files epochs servers steps i)

pub returns-clause-lines : goal.returns-clause-lines
returns-clause-lines c = run-lines-stand

use Rattle.jn_system_reports.proofs.Common.{opening, run}
use Rattle.jn_system_reports.proofs.BetweenSteps.Standing.{stand}
use Rattle.jn_system_reports.proofs.BetweenSteps.Laws.{made-once}
use Rattle.jn_system_reports.proofs.facts.names_are_made_once.Goals as goal

pub returns : goal.returns
returns c = λ servers files epochs steps i. made-once files epochs (run steps (opening servers files epochs)) (stand files epochs servers steps i)

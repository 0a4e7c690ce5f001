use Rattle.jn_system_reports.proofs.Common.{opening, run}
use Rattle.jn_system_reports.proofs.BetweenSteps.Standing.{stand}
use Rattle.jn_system_reports.proofs.BetweenSteps.Laws.{doubt}
use Rattle.jn_system_reports.proofs.facts.doubt_is_of_servers_that_are_down.Goals as goal

pub returns : goal.returns
returns c = λ servers files epochs steps i. doubt files epochs (run steps (opening servers files epochs)) (stand files epochs servers steps i)

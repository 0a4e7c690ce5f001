use Rattle.jn_system_reports.proofs.Common.{opening, run}
use Rattle.jn_system_reports.proofs.BetweenSteps.Standing.{stand}
use Rattle.jn_system_reports.proofs.BetweenSteps.Laws.{told-after}
use Rattle.jn_system_reports.proofs.facts.commits_are_told_after_their_line.Goals as goal

pub returns : goal.returns
returns c = λ servers files epochs steps i. told-after files epochs (run steps (opening servers files epochs)) (stand files epochs servers steps i)

use Rattle.jn_system_reports.proofs.Common.{opening, run}
use Rattle.jn_system_reports.proofs.BetweenSteps.Standing.{stand}
use Rattle.jn_system_reports.proofs.BetweenSteps.Dropping.{dropped}
use Rattle.jn_system_reports.proofs.BetweenSteps.Passing.{reached, unknown}
use Rattle.jn_system_reports.proofs.facts.drops_are_of_works_that_are_over.Goals as goal

pub returns : goal.returns
returns c = λ servers files epochs steps i. record {
  drops = dropped files epochs (run steps (opening servers files epochs)) (stand files epochs servers steps i);
  unknown = unknown files epochs (run steps (opening servers files epochs)) (reached servers files epochs steps i);
}

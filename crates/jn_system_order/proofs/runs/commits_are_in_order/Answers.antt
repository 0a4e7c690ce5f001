use Rattle.jn_system_order.proofs.Common.{opening, run-keeps, opening-keeps}
use Rattle.jn_system.specs.WholeSystem.Steps.{run}
use Rattle.jn_system_order.proofs.Ordering.Runs.{runs-move, moves-in-order}
use Rattle.jn_system_order.proofs.runs.commits_are_in_order.Goals as goal

pub returns : goal.returns
returns c = λ servers files epochs steps i. moves-in-order files epochs (run steps (opening servers files epochs))
    (run-keeps steps (opening servers files epochs) i (opening-keeps servers files epochs)) (runs-move servers files epochs steps i)

use Rattle.jn_system_order.proofs.Common.{opening, run-keeps, opening-keeps}
use Rattle.jn_system.specs.WholeSystem.Steps.{run}
use Rattle.jn_system_order.proofs.Mirroring.StepMoves.{step-moves, opening-mirrors}
use Rattle.jn_system_order.proofs.moves.steps_are_moves.Goals as goal

pub returns-clause-start : goal.returns-clause-start
returns-clause-start c = opening-mirrors

pub returns-clause-step : goal.returns-clause-step
returns-clause-step c = λ servers files epochs steps atoms i may h step is shown. step-moves files epochs atoms (run steps (opening servers files epochs)) may h
    (run-keeps steps (opening servers files epochs) i (opening-keeps servers files epochs)) step is shown

use Rattle.jn_system_order.proofs.Ordering.Runs.{runs-move}
use Rattle.jn_system_order.proofs.runs.runs_are_moves.Goals as goal

pub returns : goal.returns
returns c = runs-move

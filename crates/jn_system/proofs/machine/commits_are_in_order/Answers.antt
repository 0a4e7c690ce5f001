use Rattle.jn_system.proofs.SmallSteps.History.{in_order}
use Rattle.jn_system.proofs.machine.commits_are_in_order.Goals as goal

pub returns : goal.returns
returns c = in_order

use Rattle.jn_machine.proofs.Ordered.{in-order}
use Rattle.jn_machine.proofs.lines_are_in_order.Goals as goal

pub returns : goal.returns
returns c = in-order

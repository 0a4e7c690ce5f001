use Rattle.jn_wrong.proofs.Told.{swapped}
use Rattle.jn_wrong.proofs.faulty.faults_told_in_another_order_are_none.Goals as goal

pub returns : goal.returns
returns c = swapped

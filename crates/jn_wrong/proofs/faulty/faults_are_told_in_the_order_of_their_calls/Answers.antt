use Rattle.jn_wrong.proofs.Rightly.{told-in-turn}
use Rattle.jn_wrong.proofs.faulty.faults_are_told_in_the_order_of_their_calls.Goals as goal

pub returns : goal.returns
returns c = told-in-turn

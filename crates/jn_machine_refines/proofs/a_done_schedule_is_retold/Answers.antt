use Rattle.jn_machine_refines.proofs.Whole.{done-retold}
use Rattle.jn_machine_refines.proofs.a_done_schedule_is_retold.Goals as goal

pub returns : goal.returns
returns c = λ x schedule images now few ranges h e. done-retold x schedule images now few ranges h e

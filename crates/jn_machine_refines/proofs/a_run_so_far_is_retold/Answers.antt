use Rattle.jn_machine_refines.proofs.Whole.{run-retold}
use Rattle.jn_machine_refines.proofs.a_run_so_far_is_retold.Goals as goal

pub returns : goal.returns
returns c = λ x schedule images now few ranges h. run-retold x schedule images now few ranges h

use Rattle.jn_wrong.proofs.Rightly.{told-null}
use Rattle.jn_wrong.proofs.faulty.a_fault_that_waited_is_told.Goals as goal

pub returns : goal.returns
returns c = told-null

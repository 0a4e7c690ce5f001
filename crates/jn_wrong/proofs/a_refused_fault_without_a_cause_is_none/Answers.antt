use Rattle.jn_wrong.proofs.Refuted.{no-fault}
use Rattle.jn_wrong.proofs.a_refused_fault_without_a_cause_is_none.Goals as goal

pub returns : goal.returns
returns c = no-fault

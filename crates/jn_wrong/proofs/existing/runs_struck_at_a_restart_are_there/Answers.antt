use Rattle.jn_wrong.proofs.StruckRuns.{stop-one, null-one, in-order-one}
use Rattle.jn_wrong.proofs.existing.runs_struck_at_a_restart_are_there.Goals as goal

pub returns-clause-stop : goal.returns-clause-stop
returns-clause-stop c = stop-one

pub returns-clause-one_fault : goal.returns-clause-one_fault
returns-clause-one_fault c = null-one

pub returns-clause-two_faults : goal.returns-clause-two_faults
returns-clause-two_faults c = in-order-one

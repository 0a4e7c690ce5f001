use Rattle.jn_wrong.proofs.Outside.{faults-told}
use Rattle.jn_wrong.proofs.telling.each_refused_fault_is_told.Goals as goal

pub returns : goal.returns
returns c = faults-told

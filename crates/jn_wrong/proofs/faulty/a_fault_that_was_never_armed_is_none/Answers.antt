use Rattle.jn_wrong.proofs.Told.{never-armed}
use Rattle.jn_wrong.proofs.faulty.a_fault_that_was_never_armed_is_none.Goals as goal

pub returns : goal.returns
returns c = never-armed

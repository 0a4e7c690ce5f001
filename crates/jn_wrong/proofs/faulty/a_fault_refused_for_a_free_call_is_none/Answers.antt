use Rattle.jn_wrong.proofs.Misreported.{refused-for-free}
use Rattle.jn_wrong.proofs.faulty.a_fault_refused_for_a_free_call_is_none.Goals as goal

pub returns : goal.returns
returns c = refused-for-free

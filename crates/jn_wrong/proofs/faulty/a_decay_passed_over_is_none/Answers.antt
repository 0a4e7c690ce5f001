use Rattle.jn_wrong.proofs.Misreported.{passed-over}
use Rattle.jn_wrong.proofs.faulty.a_decay_passed_over_is_none.Goals as goal

pub returns : goal.returns
returns c = passed-over

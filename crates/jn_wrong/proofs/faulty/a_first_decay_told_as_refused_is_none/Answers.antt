use Rattle.jn_wrong.proofs.Misreported.{first-refused}
use Rattle.jn_wrong.proofs.faulty.a_first_decay_told_as_refused_is_none.Goals as goal

pub returns : goal.returns
returns c = first-refused

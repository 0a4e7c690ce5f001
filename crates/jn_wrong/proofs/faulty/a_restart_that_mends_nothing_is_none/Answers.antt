use Rattle.jn_wrong.proofs.Misreported.{left-unmended}
use Rattle.jn_wrong.proofs.faulty.a_restart_that_mends_nothing_is_none.Goals as goal

pub returns : goal.returns
returns c = left-unmended

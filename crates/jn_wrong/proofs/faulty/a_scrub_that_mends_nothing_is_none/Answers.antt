use Rattle.jn_wrong.proofs.Misreported.{unmended}
use Rattle.jn_wrong.proofs.faulty.a_scrub_that_mends_nothing_is_none.Goals as goal

pub returns : goal.returns
returns c = unmended

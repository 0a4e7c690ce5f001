use Rattle.jn_wrong.proofs.Struck.{not-passed-by}
use Rattle.jn_wrong.proofs.faulty.a_stop_passed_by_is_none.Goals as goal

pub returns : goal.returns
returns c = not-passed-by

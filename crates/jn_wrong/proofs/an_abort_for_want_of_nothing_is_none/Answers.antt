use Rattle.jn_wrong.proofs.Refuted.{not-full}
use Rattle.jn_wrong.proofs.an_abort_for_want_of_nothing_is_none.Goals as goal

pub returns : goal.returns
returns c = not-full

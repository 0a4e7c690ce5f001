use Rattle.jn_wrong.proofs.Refuted.{again}
use Rattle.jn_wrong.proofs.a_commit_named_again_is_none.Goals as goal

pub returns : goal.returns
returns c = again

use Rattle.jn_wrong.proofs.Differing.{nobodys-commit}
use Rattle.jn_wrong.proofs.new.a_commit_of_nobody_is_none.Goals as goal

pub returns : goal.returns
returns c = nobodys-commit

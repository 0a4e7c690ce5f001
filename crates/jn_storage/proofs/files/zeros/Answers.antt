use Rattle.jn_storage.proofs.Common.{refl, zeros}
use Rattle.jn_storage.proofs.files.zeros.Goals as goal

pub returns : goal.returns
unfolding zeros
returns c = refl

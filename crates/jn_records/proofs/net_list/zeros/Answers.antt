use Rattle.jn_records.proofs.Common.{refl, zeros}
use Rattle.jn_records.proofs.net_list.zeros.Goals as goal

pub returns : goal.returns
unfolding zeros
returns c = refl

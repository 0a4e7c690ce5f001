use Rattle.jn_stable.proofs.OneHalf.{one_half}
use Rattle.jn_stable.proofs.one_call.a_good_first_half_is_got_by_one_call.Goals as goal

pub returns : goal.returns
returns c = λ s at answer t made on none good. one_half s at answer t made on none good

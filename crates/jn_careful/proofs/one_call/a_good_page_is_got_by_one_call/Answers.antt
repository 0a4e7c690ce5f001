use Rattle.jn_careful.proofs.OneCall.{one_call}
use Rattle.jn_careful.proofs.one_call.a_good_page_is_got_by_one_call.Goals as goal

pub returns : goal.returns
returns c = λ s at answer t made on none good. one_call s at answer t made on none good

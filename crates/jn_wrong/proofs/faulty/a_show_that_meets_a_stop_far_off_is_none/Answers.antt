use Rattle.jn_wrong.proofs.Misreported.{met-far-off}
use Rattle.jn_wrong.proofs.faulty.a_show_that_meets_a_stop_far_off_is_none.Goals as goal

pub returns : goal.returns
returns c = met-far-off

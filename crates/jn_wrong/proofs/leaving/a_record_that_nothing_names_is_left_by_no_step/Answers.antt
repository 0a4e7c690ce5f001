use Rattle.jn_wrong.proofs.LeftOver.{no-more, no-fewer, no-others}
use Rattle.jn_wrong.proofs.leaving.a_record_that_nothing_names_is_left_by_no_step.Goals as goal

pub returns : goal.returns
returns c = record { more = no-more; fewer = no-fewer; maps = no-others }

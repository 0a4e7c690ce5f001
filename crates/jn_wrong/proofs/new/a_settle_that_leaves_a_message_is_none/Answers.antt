use Rattle.jn_wrong.proofs.Differing.{later}
use Rattle.jn_wrong.proofs.new.a_settle_that_leaves_a_message_is_none.Goals as goal

pub returns : goal.returns
returns c = later

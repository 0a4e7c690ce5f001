use Rattle.jn_wrong.proofs.Differing.{at-once}
use Rattle.jn_wrong.proofs.new.an_answer_before_a_settle_is_none.Goals as goal

pub returns : goal.returns
returns c = at-once

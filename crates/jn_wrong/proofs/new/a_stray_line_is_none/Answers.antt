use Rattle.jn_wrong.proofs.Differing.{another, another-ended}
use Rattle.jn_wrong.proofs.new.a_stray_line_is_none.Goals as goal

pub returns-clause-in_a_settle : goal.returns-clause-in_a_settle
returns-clause-in_a_settle c = another

pub returns-clause-at_the_end : goal.returns-clause-at_the_end
returns-clause-at_the_end c = another-ended

use Rattle.jn_bounds.proofs.Whole.{has-its-settles}
use Rattle.jn_bounds.proofs.each_settle_of_a_whole_run_is_bounded.Goals as goal

pub returns : goal.returns
returns c = has-its-settles

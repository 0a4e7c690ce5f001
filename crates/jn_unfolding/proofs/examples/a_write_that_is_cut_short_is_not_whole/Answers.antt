use Rattle.jn_unfolding.proofs.Example.{half-written}
use Rattle.jn_unfolding.proofs.examples.a_write_that_is_cut_short_is_not_whole.Goals as goal

pub returns : goal.returns
returns c = half-written

use Rattle.jn_bounds.proofs.Passing.{comes-through}
use Rattle.jn_bounds.proofs.a_run_comes_through_its_settles.Goals as goal

pub returns : goal.returns
returns c = comes-through

use Rattle.jn_unfolding.proofs.Unfolded.{unfolded}
use Rattle.jn_unfolding.proofs.laws.calls_are_as_their_operations.Goals as goal

pub returns : goal.returns
returns c = unfolded

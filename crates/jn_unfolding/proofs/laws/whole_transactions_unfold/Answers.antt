use Rattle.jn_unfolding.proofs.Logged.{whole-unfolds}
use Rattle.jn_unfolding.proofs.laws.whole_transactions_unfold.Goals as goal

pub returns : goal.returns
returns c = whole-unfolds

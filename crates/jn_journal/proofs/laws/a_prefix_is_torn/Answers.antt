use Rattle.jn_journal.proofs.Torn.{prefix-torn, all-torn}
use Rattle.jn_journal.proofs.laws.a_prefix_is_torn.Goals as goal

pub returns : goal.returns
returns c = record { prefix = prefix-torn; all = all-torn }

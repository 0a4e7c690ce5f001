use Rattle.jn_coord.proofs.AfterFlag.{after-flag}
use Rattle.jn_coord.proofs.laws.outcomes_are_sent_after_the_flag.Goals as goal

pub returns : goal.returns
returns c = after-flag

use Rattle.jn_wrong.proofs.Handed.{once}
use Rattle.jn_wrong.proofs.settling.a_message_is_handed_over_once.Goals as goal

pub returns : goal.returns
returns c = once

use Rattle.jn_callers.proofs.Told.{reply-told}
use Rattle.jn_callers.proofs.laws.a_reply_is_told_to_its_client.Goals as goal

pub returns : goal.returns
returns c = reply-told

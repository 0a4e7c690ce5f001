use Rattle.jn_laws.proofs.Ignoring.{only-stale}
use Rattle.jn_laws.proofs.messages.only_stale_messages_are_ignored.Goals as goal

pub returns : goal.returns
returns c = only-stale

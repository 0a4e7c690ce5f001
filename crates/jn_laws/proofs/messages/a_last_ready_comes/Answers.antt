use Rattle.jn_laws.proofs.Example.{the-last-comes}
use Rattle.jn_laws.proofs.messages.a_last_ready_comes.Goals as goal

pub returns : goal.returns
returns c = the-last-comes

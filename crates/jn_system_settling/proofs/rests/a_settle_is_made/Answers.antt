use Rattle.jn_system_settling.proofs.Settling.Loops.{made}
use Rattle.jn_system_settling.proofs.rests.a_settle_is_made.Goals as goal

pub returns : goal.returns
returns c = made

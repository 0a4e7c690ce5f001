use Rattle.jn_system_settling.proofs.Settling.Loops.{reached}
use Rattle.jn_system_settling.proofs.rests.a_rest_is_reached.Goals as goal

pub returns : goal.returns
returns c = reached

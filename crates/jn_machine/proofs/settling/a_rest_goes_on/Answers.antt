use Rattle.jn_machine.proofs.Resting.{rest-goes-on}
use Rattle.jn_machine.proofs.settling.a_rest_goes_on.Goals as goal

pub returns : goal.returns
returns c = rest-goes-on

use Rattle.jn_machine.proofs.Resting.{rest-ends}
use Rattle.jn_machine.proofs.settling.a_rest_ends_where_nothing_is_left.Goals as goal

pub returns : goal.returns
returns c = rest-ends

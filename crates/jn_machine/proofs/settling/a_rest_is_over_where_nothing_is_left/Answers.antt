use Rattle.jn_machine.proofs.Resting.{rest-over}
use Rattle.jn_machine.proofs.settling.a_rest_is_over_where_nothing_is_left.Goals as goal

pub returns : goal.returns
returns c = rest-over

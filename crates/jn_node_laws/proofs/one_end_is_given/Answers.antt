use Rattle.jn_node_laws.proofs.Ends.{one-given}
use Rattle.jn_node_laws.proofs.one_end_is_given.Goals as goal

pub returns : goal.returns
returns c = one-given

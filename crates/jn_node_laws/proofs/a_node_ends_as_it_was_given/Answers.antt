use Rattle.jn_node_laws.proofs.Ends.{nodes-as-given}
use Rattle.jn_node_laws.proofs.a_node_ends_as_it_was_given.Goals as goal

pub returns : goal.returns
returns c = nodes-as-given c.pieces_join.ensures

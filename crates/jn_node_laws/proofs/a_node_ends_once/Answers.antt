use Rattle.jn_node_laws.proofs.Ends.{nodes-end-once}
use Rattle.jn_node_laws.proofs.a_node_ends_once.Goals as goal

pub returns : goal.returns
returns c = nodes-end-once c.pieces_join.ensures

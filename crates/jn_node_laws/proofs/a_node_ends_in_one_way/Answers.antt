use Rattle.jn_node_laws.proofs.Ends.{nodes-end-in-one-way}
use Rattle.jn_node_laws.proofs.a_node_ends_in_one_way.Goals as goal

pub returns : goal.returns
returns c = nodes-end-in-one-way c.pieces_join.ensures

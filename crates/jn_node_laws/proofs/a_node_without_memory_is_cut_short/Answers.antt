use Rattle.jn_node_laws.proofs.Ends.{nodes-cut-short}
use Rattle.jn_node_laws.proofs.a_node_without_memory_is_cut_short.Goals as goal

pub returns : goal.returns
returns c = nodes-cut-short c.pieces_join.ensures

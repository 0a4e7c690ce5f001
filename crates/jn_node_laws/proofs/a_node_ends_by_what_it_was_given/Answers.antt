use Rattle.jn_node_laws.proofs.Ends.{nodes-complete}
use Rattle.jn_node_laws.proofs.a_node_ends_by_what_it_was_given.Goals as goal

pub returns : goal.returns
returns c = nodes-complete

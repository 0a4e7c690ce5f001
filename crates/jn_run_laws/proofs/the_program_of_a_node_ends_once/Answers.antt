use Rattle.jn_run_laws.proofs.Words.{ends-once}
use Rattle.jn_run_laws.proofs.the_program_of_a_node_ends_once.Goals as goal

pub returns : goal.returns
returns c = ends-once c.a_node_ends_once.ensures

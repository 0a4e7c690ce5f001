use Rattle.jn_run_laws.proofs.Words.{as-given}
use Rattle.jn_run_laws.proofs.the_program_ends_as_its_node_was_given.Goals as goal

pub returns : goal.returns
returns c = as-given c.a_node_ends_as_it_was_given.ensures

use Rattle.jn_world_refines.proofs.Naming.{told-names, named-by}
use Rattle.jn_world_refines.proofs.names.a_loop_names_what_a_restart_names.Goals as goal

pub returns : goal.returns
returns c = record { told = told-names; named = named-by }

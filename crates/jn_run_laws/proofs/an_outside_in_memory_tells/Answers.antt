use Rattle.std.proofs.Common.{refl}
use Rattle.jn_run_laws.proofs.an_outside_in_memory_tells.Goals as goal

pub returns : goal.returns
returns c = record { source = refl; keeper = refl }

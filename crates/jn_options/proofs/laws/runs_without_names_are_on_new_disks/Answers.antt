use Rattle.jn_options.proofs.NewDisks.{on_new_disks}
use Rattle.jn_options.proofs.laws.runs_without_names_are_on_new_disks.Goals as goal

pub returns : goal.returns
returns c = on_new_disks

use Rattle.jn_machine.proofs.Computed.{computed}
use Rattle.jn_machine.proofs.runs_are_computed.Goals as goal

pub returns : goal.returns
returns c = computed

use Rattle.jn_machine.proofs.Called.{called-store}
use Rattle.jn_machine.proofs.devices.calls_keep_what_a_store_keeps.Goals as goal

pub returns : goal.returns
returns c = called-store

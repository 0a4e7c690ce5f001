use Rattle.jn_machine.proofs.Struck.{stop-had-waited}
use Rattle.jn_machine.proofs.devices.a_stop_had_waited.Goals as goal

pub returns : goal.returns
returns c = stop-had-waited

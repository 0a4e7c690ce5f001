use Rattle.jn_machine.proofs.Struck.{told-had-waited}
use Rattle.jn_machine.proofs.devices.refused_faults_had_waited.Goals as goal

pub returns : goal.returns
returns c = told-had-waited

use Rattle.jn_machine.proofs.Computed.{may-lead}
use Rattle.jn_machine.proofs.devices.devices_give_chances.Goals as goal

pub returns : goal.returns
returns c = may-lead

use Rattle.jn_machine.proofs.Common.{Moment, DoesStep}
use Rattle.jn_machine.proofs.Computed.{join}
use Rattle.jn_machine.proofs.devices.steps_follow_steps.Goals as goal

pub returns : goal.returns
returns c x a b d first rest = join Moment (DoesStep x) a b d first rest

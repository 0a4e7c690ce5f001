use Rattle.jn_system.proofs.SmallSteps.MessageLemmas.{still_true}
use Rattle.jn_system.proofs.machine.messages_stay_true.Goals as goal

pub returns : goal.returns
returns c = still_true

use Rattle.jn_machine.proofs.Caused.{caused}
use Rattle.jn_machine.proofs.settling.a_refusal_has_its_cause.Goals as goal

pub returns : goal.returns
returns c = caused

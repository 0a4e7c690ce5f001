use Rattle.jn_machine.proofs.Resting.{is-refused}
use Rattle.jn_machine.proofs.settling.an_event_with_a_cause_is_refused.Goals as goal

pub returns : goal.returns
returns c = is-refused

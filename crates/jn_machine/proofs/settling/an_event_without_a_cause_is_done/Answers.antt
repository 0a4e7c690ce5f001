use Rattle.jn_machine.proofs.Resting.{is-done}
use Rattle.jn_machine.proofs.settling.an_event_without_a_cause_is_done.Goals as goal

pub returns : goal.returns
returns c = is-done

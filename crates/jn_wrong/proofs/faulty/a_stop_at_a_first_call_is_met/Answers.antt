use Rattle.jn_wrong.proofs.Rightly.{met-stop}
use Rattle.jn_wrong.proofs.faulty.a_stop_at_a_first_call_is_met.Goals as goal

pub returns : goal.returns
returns c = met-stop

use Rattle.jn_wrong.proofs.Refuted.{no-stop}
use Rattle.jn_wrong.proofs.a_stop_without_a_cause_is_none.Goals as goal

pub returns : goal.returns
returns c = no-stop

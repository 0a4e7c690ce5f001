use Rattle.jn_judged.proofs.Example.{no-cause}
use Rattle.jn_judged.proofs.examples.an_abort_without_a_cause_is_at_fault.Goals as goal

pub returns : goal.returns
returns c = no-cause

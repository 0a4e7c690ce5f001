use Rattle.jn_schedule.proofs.Lines.{no_schedule}
use Rattle.jn_schedule.proofs.schedule.a_text_with_a_fault_is_no_schedule.Goals as goal

pub returns : goal.returns
returns c = λ text es line number are is. no_schedule text es line number are is

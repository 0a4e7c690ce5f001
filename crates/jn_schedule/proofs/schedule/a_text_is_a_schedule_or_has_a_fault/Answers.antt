use Rattle.jn_schedule.proofs.Lines.{told}
use Rattle.jn_schedule.proofs.schedule.a_text_is_a_schedule_or_has_a_fault.Goals as goal

pub returns : goal.returns
returns c = λ text. told text

use Rattle.jn_schedule.proofs.Lines.{one_list}
use Rattle.jn_schedule.proofs.schedule.a_schedule_has_one_list_of_events.Goals as goal

pub returns : goal.returns
returns c = λ text es others are too. one_list text es others are too

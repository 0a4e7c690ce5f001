use Rattle.jn_gen.proofs.Drawing.{events_in_range}
use Rattle.jn_gen.proofs.schedule.drawn_events_are_in_range.Goals as goal

pub returns : goal.returns
returns c = events_in_range

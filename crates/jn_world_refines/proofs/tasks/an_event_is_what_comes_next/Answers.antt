use Rattle.jn_world_refines.proofs.Meeting.{meets-acts, acts-acts, down-acts}
use Rattle.jn_world_refines.proofs.tasks.an_event_is_what_comes_next.Goals as goal

pub returns : goal.returns
returns c = record { meets = meets-acts; acts = acts-acts; down = down-acts }

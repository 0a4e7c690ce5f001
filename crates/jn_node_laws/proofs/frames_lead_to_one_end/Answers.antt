use Rattle.jn_node_laws.proofs.Leading.{books-lead-once}
use Rattle.jn_node_laws.proofs.frames_lead_to_one_end.Goals as goal

pub returns : goal.returns
returns c = books-lead-once

use Rattle.jn_node_laws.proofs.Leading.{frames-lead}
use Rattle.jn_node_laws.proofs.whole_frames_lead_to_an_end.Goals as goal

pub returns : goal.returns
returns c = frames-lead c.what_is_read_can_be_taken.ensures.given

use Rattle.jn_node_laws.proofs.Stepping.{frames-fix}
use Rattle.jn_node_laws.proofs.what_is_sent_is_fixed_by_the_frames.Goals as goal

pub returns : goal.returns
returns c = frames-fix

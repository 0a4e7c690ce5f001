use Rattle.jn_aside.proofs.Answering.{follows-aside}
use Rattle.jn_aside.proofs.answers_follow_aside.Goals as goal

pub returns : goal.returns
returns c = follows-aside

use Rattle.jn_judged.proofs.Kept.{answers-follow}
use Rattle.jn_judged.proofs.laws.answers_follow_line_by_line.Goals as goal

pub returns : goal.returns
returns c = answers-follow

use Rattle.jn_judged.proofs.Kept.{order-kept}
use Rattle.jn_judged.proofs.laws.answers_agree_line_by_line.Goals as goal

pub returns : goal.returns
returns c = order-kept

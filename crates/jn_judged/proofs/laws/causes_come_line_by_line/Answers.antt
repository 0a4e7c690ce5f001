use Rattle.jn_judged.proofs.Kept.{causes-kept}
use Rattle.jn_judged.proofs.laws.causes_come_line_by_line.Goals as goal

pub returns : goal.returns
returns c = causes-kept

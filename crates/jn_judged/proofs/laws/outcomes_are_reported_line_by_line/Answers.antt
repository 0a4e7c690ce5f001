use Rattle.jn_judged.proofs.Kept.{outcomes-kept}
use Rattle.jn_judged.proofs.laws.outcomes_are_reported_line_by_line.Goals as goal

pub returns : goal.returns
returns c = outcomes-kept

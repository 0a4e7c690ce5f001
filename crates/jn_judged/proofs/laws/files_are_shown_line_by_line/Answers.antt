use Rattle.jn_judged.proofs.Shows.{shows-kept}
use Rattle.jn_judged.proofs.laws.files_are_shown_line_by_line.Goals as goal

pub returns : goal.returns
returns c = shows-kept

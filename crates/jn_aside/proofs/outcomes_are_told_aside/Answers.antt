use Rattle.jn_aside.proofs.Telling.{told-aside}
use Rattle.jn_aside.proofs.outcomes_are_told_aside.Goals as goal

pub returns : goal.returns
returns c = told-aside

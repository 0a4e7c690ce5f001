use Rattle.jn_aside.proofs.Showing.{so-far-aside, at-end-aside}
use Rattle.jn_aside.proofs.files_are_shown_aside.Goals as goal

pub returns-clause-so_far : goal.returns-clause-so_far
returns-clause-so_far c = so-far-aside

pub returns-clause-at_end : goal.returns-clause-at_end
returns-clause-at_end c = at-end-aside

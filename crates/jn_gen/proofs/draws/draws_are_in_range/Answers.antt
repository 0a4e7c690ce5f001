use Rattle.jn_gen.proofs.Drawing.{drawn_below, state_fits}
use Rattle.jn_gen.proofs.draws.draws_are_in_range.Goals as goal

pub returns-clause-state : goal.returns-clause-state
returns-clause-state c = state_fits

pub returns-clause-drawn : goal.returns-clause-drawn
returns-clause-drawn c = drawn_below

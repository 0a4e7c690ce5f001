use Rattle.jn_wrong.proofs.Refuted.{left-out, as-locked, unwritten}
use Rattle.jn_wrong.proofs.an_end_that_shows_other_files_is_none.Goals as goal

pub returns-clause-left_out : goal.returns-clause-left_out
returns-clause-left_out c = left-out

pub returns-clause-as_locked : goal.returns-clause-as_locked
returns-clause-as_locked c = as-locked

pub returns-clause-page : goal.returns-clause-page
returns-clause-page c = unwritten

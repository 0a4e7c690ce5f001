use Rattle.jn_lock_rows.proofs.Granting.{match_stored, breaks_stored}
use Rattle.jn_lock_rows.proofs.laws.a_work_is_stored_as_the_rows_say.Goals as goal

pub returns-clause-breaks : goal.returns-clause-breaks
returns-clause-breaks c = λ works w a t now bs h found active. breaks_stored works w a t h found active bs now

pub returns-clause-matches : goal.returns-clause-matches
returns-clause-matches c = λ works w a t now bs h found active. match_stored works w a t h found active bs now

use Rattle.jn_lock_rows.proofs.Common.{refl, done, is_fit, wants_of}
use Rattle.jn_lock_rows.proofs.Granting.{match_next, breaks_next}
use Rattle.jn_lock_rows.proofs.laws.an_operation_is_granted_as_the_rows_say.Goals as goal

pub returns-clause-breaks : goal.returns-clause-breaks
returns-clause-breaks c = λ works w a t now op answer bs h found active. breaks_next works w a t h found active op (is_fit answer) (done a op answer (wants_of op (is_fit answer))) refl refl refl bs now

pub returns-clause-matches : goal.returns-clause-matches
returns-clause-matches c = λ works w a t now op answer bs h found active. match_next works w a t h found active op (is_fit answer) (done a op answer (wants_of op (is_fit answer))) refl refl refl bs now

use Rattle.jn_lock_rows.proofs.Granting.{commit_conflict, commit_free}
use Rattle.jn_lock_rows.proofs.laws.a_prepare_is_refused_as_the_rows_say.Goals as goal

pub returns-clause-refused : goal.returns-clause-refused
returns-clause-refused c = λ works w a t c h found active. commit_conflict works w a t h found active c

pub returns-clause-free : goal.returns-clause-free
returns-clause-free c = λ works w a t h found active. commit_free works w a t h found active

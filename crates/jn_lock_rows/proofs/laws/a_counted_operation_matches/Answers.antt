use Rattle.jn_lock_rows.proofs.Granting.{match_counted}
use Rattle.jn_lock_rows.proofs.laws.a_counted_operation_matches.Goals as goal

pub returns : goal.returns
returns c = λ works w a t answer h found active. match_counted works w a t h found active answer

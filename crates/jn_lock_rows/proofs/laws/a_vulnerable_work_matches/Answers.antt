use Rattle.jn_lock_rows.proofs.Keeping.{match_exposed}
use Rattle.jn_lock_rows.proofs.laws.a_vulnerable_work_matches.Goals as goal

pub returns : goal.returns
returns c = match_exposed

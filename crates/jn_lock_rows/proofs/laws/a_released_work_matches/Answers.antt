use Rattle.jn_lock_rows.proofs.Keeping.{match_released}
use Rattle.jn_lock_rows.proofs.laws.a_released_work_matches.Goals as goal

pub returns : goal.returns
returns c = match_released

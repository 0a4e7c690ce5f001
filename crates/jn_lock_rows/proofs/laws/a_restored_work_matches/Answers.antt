use Rattle.jn_lock_rows.proofs.Restoring.{restored_fits, match_restored}
use Rattle.jn_lock_rows.proofs.laws.a_restored_work_matches.Goals as goal

pub returns-clause-fits : goal.returns-clause-fits
returns-clause-fits c = restored_fits

pub returns-clause-matches : goal.returns-clause-matches
returns-clause-matches c = match_restored

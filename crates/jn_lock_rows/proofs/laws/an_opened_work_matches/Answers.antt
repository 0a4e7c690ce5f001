use Rattle.jn_lock_rows.proofs.Granting.{match_opened, opens_nothing}
use Rattle.jn_lock_rows.proofs.laws.an_opened_work_matches.Goals as goal

pub returns-clause-breaks : goal.returns-clause-breaks
returns-clause-breaks c = opens_nothing

pub returns-clause-matches : goal.returns-clause-matches
returns-clause-matches c = match_opened

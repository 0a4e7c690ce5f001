use Rattle.jn_run.proofs.Complete.{trials-complete}
use Rattle.jn_run.proofs.laws.a_trial_is_done.Goals as goal

pub returns : goal.returns
returns c = trials-complete

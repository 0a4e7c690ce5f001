use Rattle.jn_run.proofs.Complete.{counts-tell}
use Rattle.jn_run.proofs.laws.counts_tell_the_status.Goals as goal

pub returns : goal.returns
returns c = counts-tell

use Rattle.jn_wrong.proofs.OneRun.{none-one}
use Rattle.jn_wrong.proofs.existing.a_run_without_events_is_there.Goals as goal

pub returns : goal.returns
returns c = none-one

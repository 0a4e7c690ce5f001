use Rattle.jn_machine.proofs.Reports.{restarts_stop_early}
use Rattle.jn_machine.proofs.rows.restarts_stop_early.Goals as goal

pub returns : goal.returns
returns c = restarts_stop_early

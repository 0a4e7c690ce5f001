use Rattle.jn_system_settling.proofs.Settling.Reports.{a_prepare_is_stopped, a_prepare_is_stopped_steps}
use Rattle.jn_system_settling.proofs.courses.rows.a_prepare_is_stopped.Goals as goal

pub returns-clause-steps : goal.returns-clause-steps
returns-clause-steps c = a_prepare_is_stopped_steps

pub returns-clause-lines : goal.returns-clause-lines
returns-clause-lines c = a_prepare_is_stopped

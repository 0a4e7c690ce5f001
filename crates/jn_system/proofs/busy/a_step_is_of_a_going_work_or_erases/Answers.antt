use Rattle.jn_system.proofs.WholeSystem.BusyServers.{goes, erases, nothing}
use Rattle.jn_system.proofs.busy.a_step_is_of_a_going_work_or_erases.Goals as goal

pub returns-clause-goes : goal.returns-clause-goes
returns-clause-goes c = goes

pub returns-clause-erases : goal.returns-clause-erases
returns-clause-erases c = erases

pub returns-clause-none : goal.returns-clause-none
returns-clause-none c = nothing

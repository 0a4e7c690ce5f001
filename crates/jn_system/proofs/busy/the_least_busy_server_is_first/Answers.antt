use Rattle.jn_system.proofs.WholeSystem.BusyServers.{first-is, first-none}
use Rattle.jn_system.proofs.busy.the_least_busy_server_is_first.Goals as goal

pub returns-clause-some : goal.returns-clause-some
returns-clause-some c = first-is

pub returns-clause-none : goal.returns-clause-none
returns-clause-none c = first-none

use Rattle.jn_system_settling.proofs.AtRest.CallExample.{first, second, lines}
use Rattle.jn_system_settling.proofs.calls.a_client_goes_on.Goals as goal

pub returns-clause-first : goal.returns-clause-first
returns-clause-first c = first

pub returns-clause-second : goal.returns-clause-second
returns-clause-second c = second

pub returns-clause-lines : goal.returns-clause-lines
returns-clause-lines c = lines

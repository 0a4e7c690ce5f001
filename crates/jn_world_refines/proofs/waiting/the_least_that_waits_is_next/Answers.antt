use Rattle.jn_world_refines.proofs.WaitingNumbers.{least-waits, least-next, least-there, none-waits}
use Rattle.jn_world_refines.proofs.waiting.the_least_that_waits_is_next.Goals as goal

pub returns-clause-head : goal.returns-clause-head
returns-clause-head c = least-waits

pub returns-clause-next : goal.returns-clause-next
returns-clause-next c = least-next

pub returns-clause-there : goal.returns-clause-there
returns-clause-there c = least-there

pub returns-clause-none : goal.returns-clause-none
returns-clause-none c = none-waits

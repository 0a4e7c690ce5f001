use Rattle.jn_wrong.proofs.Left.{settles, event-settles}
use Rattle.jn_wrong.proofs.settling.a_settle_leaves_nothing_to_do.Goals as goal

pub returns-clause-of_an_event : goal.returns-clause-of_an_event
returns-clause-of_an_event c = event-settles

pub returns-clause-of_the_end : goal.returns-clause-of_the_end
returns-clause-of_the_end c = settles

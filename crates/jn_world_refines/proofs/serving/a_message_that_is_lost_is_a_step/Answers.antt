use Rattle.jn_world_refines.proofs.Losing.{lost-step, never-sent}
use Rattle.jn_world_refines.proofs.serving.a_message_that_is_lost_is_a_step.Goals as goal

pub returns-clause-lost : goal.returns-clause-lost
returns-clause-lost g c = λ x w m stand k one posted q to. lost-step _ _ g.met.S.Powered.seen x w m stand k one posted q to

pub returns-clause-there : goal.returns-clause-there
returns-clause-there g c = λ x w m stand k one posted q to. never-sent _ _ g.met.S.Powered.seen x w m stand k one posted q to

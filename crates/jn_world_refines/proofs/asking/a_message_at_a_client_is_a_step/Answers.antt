use Rattle.jn_world_refines.proofs.ClientSteps.{client-took-step, other-took-step}
use Rattle.jn_world_refines.proofs.asking.a_message_at_a_client_is_a_step.Goals as goal

pub returns-clause-own : goal.returns-clause-own
returns-clause-own g c = λ x w m stand. client-took-step _ _ g.met.S.Powered.seen x w m stand

pub returns-clause-other : goal.returns-clause-other
returns-clause-other g c = λ x w m stand. other-took-step _ _ g.met.S.Powered.seen x w m stand

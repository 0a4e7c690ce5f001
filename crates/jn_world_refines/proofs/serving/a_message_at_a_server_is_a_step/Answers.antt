use Rattle.jn_world_refines.proofs.Took.{took-step}
use Rattle.jn_world_refines.proofs.serving.a_message_at_a_server_is_a_step.Goals as goal

pub returns : goal.returns
returns g c = λ x w m stand k one posted q to place at reads. took-step _ _ g.met.S.Powered.seen x w m stand k one posted q to place at reads

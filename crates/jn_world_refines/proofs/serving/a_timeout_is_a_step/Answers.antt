use Rattle.jn_world_refines.proofs.Nudging.{timed-out-step}
use Rattle.jn_world_refines.proofs.serving.a_timeout_is_a_step.Goals as goal

pub returns : goal.returns
returns g c = λ x w m stand q place at. timed-out-step _ _ g.met.S.Powered.seen x w m stand q place at

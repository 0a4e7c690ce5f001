use Rattle.jn_world_refines.proofs.Working.{worked-step, idle-step}
use Rattle.jn_world_refines.proofs.serving.a_background_step_is_a_step.Goals as goal

pub returns-clause-works : goal.returns-clause-works
returns-clause-works g c = λ x w m stand q place at reads. worked-step _ _ g.met.S.Powered.seen x w m stand q place at reads

pub returns-clause-idle : goal.returns-clause-idle
returns-clause-idle g c = λ x w m stand q place at reads. idle-step _ _ g.met.S.Powered.seen x w m stand q place at reads

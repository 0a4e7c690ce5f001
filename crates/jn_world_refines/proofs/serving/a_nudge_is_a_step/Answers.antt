use Rattle.jn_world_refines.proofs.Nudging.{nudged-step, nudged-down-step}
use Rattle.jn_world_refines.proofs.serving.a_nudge_is_a_step.Goals as goal

pub returns-clause-up : goal.returns-clause-up
returns-clause-up g c = λ x w m stand q place at. nudged-step _ _ g.met.S.Powered.seen x w m stand q place at

pub returns-clause-down : goal.returns-clause-down
returns-clause-down g c = λ x w m stand q place at. nudged-down-step _ _ g.met.S.Powered.seen x w m stand q place at

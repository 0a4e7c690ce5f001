use Rattle.jn_world_refines.proofs.Closing.{closed-up-step}
use Rattle.jn_world_refines.proofs.looks.a_closing_is_a_step.Goals as goal

pub returns : goal.returns
returns g c = λ x w m h q place at lines idle next done slot lines' closed up counts kept. closed-up-step _ _ g.met.S.Powered.seen x w m h q place at lines idle next done slot lines' closed up counts kept

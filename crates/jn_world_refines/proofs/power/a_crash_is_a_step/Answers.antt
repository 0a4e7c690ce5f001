use Rattle.jn_world_refines.proofs.Crashing.{crashed-step, not-up-step}
use Rattle.jn_world_refines.proofs.power.a_crash_is_a_step.Goals as goal

pub returns : goal.returns
returns g c = record {
  up = λ x w m h q place at lines more slot crashed next. crashed-step _ _ g.met.S.Powered.seen x w m h q place at lines more slot crashed next;
  down = λ x w m h q place at lines more e next. not-up-step _ _ g.met.S.Powered.seen x w m h q place at lines more e next;
}

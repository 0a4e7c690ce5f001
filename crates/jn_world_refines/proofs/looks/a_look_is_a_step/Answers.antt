use Rattle.jn_world_refines.proofs.Looking.{scrubbed-step, showed-step}
use Rattle.jn_world_refines.proofs.looks.a_look_is_a_step.Goals as goal

pub returns : goal.returns
returns g c = record {
  scrub = λ x w m h q place at more lines lines' done slot scrubbed counts kept next. scrubbed-step _ _ g.met.S.Powered.seen x w m h q place at more lines lines' done slot scrubbed counts kept next;
  show = λ x w m h q place at more lines lines' list slot showed counts kept next. showed-step _ _ g.met.S.Powered.seen x w m h q place at more lines lines' list slot showed counts kept next;
}

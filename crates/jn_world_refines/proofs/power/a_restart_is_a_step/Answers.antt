use Rattle.jn_world_refines.proofs.Restarts.{restarted-step, came-up-step}
use Rattle.jn_world_refines.proofs.power.a_restart_is_a_step.Goals as goal

pub returns : goal.returns
returns g c = record {
  event = λ x w m h q place at more next lines lines' lines'' restarted slot came counts e. restarted-step _ _ g.met.S.Powered.seen x w m h q place at more next lines lines' lines'' restarted slot came counts e;
  comes_up = λ x w m h q place at next lines lines' lines'' restarted slot came counts e. came-up-step _ _ g.met.S.Powered.seen x w m h q place at next lines lines' lines'' restarted slot came counts e;
}

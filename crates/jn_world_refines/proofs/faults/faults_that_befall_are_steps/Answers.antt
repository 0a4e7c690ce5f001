use Rattle.jn_world_refines.proofs.Befalling.{decayed-step, revived-step, armed-step}
use Rattle.jn_world_refines.proofs.faults.faults_that_befall_are_steps.Goals as goal

pub returns : goal.returns
returns g c = record {
  decay = λ x w m h q place at slot counts kept lines more p answer next befell. decayed-step _ _ g.met.S.Powered.seen x w m h q place at slot counts kept lines more p answer next befell;
  revive = λ x w m h q place at slot counts kept lines more p next befell. revived-step _ _ g.met.S.Powered.seen x w m h q place at slot counts kept lines more p next befell;
  arm = λ x w m h q place at slot counts kept lines more n kind answer next befell. armed-step _ _ g.met.S.Powered.seen x w m h q place at slot counts kept lines more n kind answer next befell;
}

use Rattle.jn_world.specs.Standing.{IsWorld}
use Rattle.jn_run_tests.proofs.driving.do_all.Given as goal

abbrev pub invariant-loop-event : goal.invariant-loop-event
invariant-loop-event g l = record {
  world : IsWorld (λ s. g.S.StableStore.view s) l.world;
}

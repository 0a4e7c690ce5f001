use Rattle.jn_world.specs.Standing.{IsWorld}
use Rattle.jn_bench.proofs.storm.running.do_all.Given as goal

abbrev pub invariant-loop-event : goal.invariant-loop-event
invariant-loop-event g l = record {
  world : IsWorld (λ s. g.S.StableStore.view s) l.world;
}

use Rattle.jn_events.proofs.Common.{AreIdleBelow}
use Rattle.jn_events.proofs.settling.first_busy.Given as goal

abbrev pub invariant-loop-s : goal.invariant-loop-s
invariant-loop-s g l = record {
  idle : AreIdleBelow (λ s. g.S.StableStore.view s) (λ s. g.S.Powered.device s) l.s l.world.places.items;
}

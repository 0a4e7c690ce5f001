use Rattle.jn_intent.proofs.Common.{subst, IsKeptMemory, IsRecoverable}
use Rattle.jn_intent.proofs.intents.Intents.is_kept.Goals as goal

pub returns : goal.returns
returns g c = record {
  kept = subst (λ s. IsKeptMemory s.1 (g.S.StableStore.view s.0)) c.self.view_is c.self.invariant.kept;
  recoverable = subst (λ s. IsRecoverable s.1.server s.1.table.counts (g.S.StableStore.view s.0)) c.self.view_is c.self.invariant.recoverable;
}

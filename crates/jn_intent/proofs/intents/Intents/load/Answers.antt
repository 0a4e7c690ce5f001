use Rattle.jn_intent.proofs.Common.{sym, subst, view_of}
use Rattle.jn_recovery.specs.Loading.{IsLoaded, IsUntouched}
use Rattle.jn_recovery.specs.Counts.{counts_by}
use Rattle.jn_intent.proofs.intents.Intents.load.Goals as goal

pub returns-in-Ok-clause-loaded : goal.returns-in-Ok-clause-loaded
returns-in-Ok-clause-loaded g c = λ server before. let counts = counts_by c.args.counts in
    subst (λ s. IsLoaded server counts (g.S.StableStore.view c.args.store) c.in-Ok.found (view_of s.1 (g.S.StableStore.view s.0))) (sym c.on_store.ensures) (c.in-Ok.ensures.loaded server before)

pub returns-in-Ok-clause-untouched : goal.returns-in-Ok-clause-untouched
returns-in-Ok-clause-untouched g c = subst (λ s. IsUntouched s.1.table) (sym c.on_store.ensures) c.in-Ok.ensures.untouched

use Rattle.jn_intent.proofs.Common.{subst, sym, IsServing, TellsFlags, view_of, memory_of, tells_flags}
use Rattle.jn_intent.proofs.flags.IntentsFlagStore.flags.Goals as goal

pub returns : goal.returns
returns g c =
    let serving = subst (λ s. IsServing (view_of s.1 (g.S.StableStore.view s.0))) (sym c.self.view_is) c.requires.serving in
    rw c.deref.ensures.value (subst (λ s. TellsFlags (view_of s.1 (g.S.StableStore.view s.0)) c.self.inside.flags.items) c.self.view_is (tells_flags (memory_of c.self.inside) _ (c.self.invariant.kept serving.power) serving))

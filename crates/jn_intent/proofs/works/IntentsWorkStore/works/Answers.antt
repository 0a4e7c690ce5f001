use Rattle.jn_intent.proofs.Common.{subst, sym, IsServing, TellsWorks, view_of, memory_of, tells_works}
use Rattle.jn_intent.proofs.works.IntentsWorkStore.works.Goals as goal

pub returns : goal.returns
returns g c =
    let serving = subst (λ s. IsServing (view_of s.1 (g.S.StableStore.view s.0))) (sym c.self.view_is) c.requires.serving in
    rw c.deref.ensures.value (subst (λ s. TellsWorks (view_of s.1 (g.S.StableStore.view s.0)) c.self.inside.works.items) c.self.view_is (tells_works (memory_of c.self.inside) _ (c.self.invariant.kept serving.power) serving))

use Rattle.jn_intent.proofs.Common.{◌<◌, sym, subst, vec_len, IsServing, PromiseReleased, view_of, memory_of, popped, releases}
use Rattle.jn_intent.proofs.flags.IntentsFlagStore.release_promise.Goals as goal

pub returns : goal.returns
returns g c =
    let serving = subst (λ s. IsServing (view_of s.1 (g.S.StableStore.view s.0))) (sym c.self.view_is) c.requires.serving in
    let promise = subst (λ s. 0 < s.1.promised) (sym c.self.view_is) c.requires.promise in
    record {
      released = subst (λ s. PromiseReleased (view_of s.1 (g.S.StableStore.view s.0)) (view_of (memory_of (record c.self.inside { rooms = c.pop.new.self })) (g.S.StableStore.view c.self.inside.store))) c.self.view_is
          (releases (memory_of c.self.inside) _ c.self.invariant.kept serving (vec_len c.pop.new.self) (popped c.pop.result _ _ c.pop.ensures.cases promise));
    }

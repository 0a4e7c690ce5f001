use Rattle.jn_intent.proofs.Common.{sym, subst, IsServing, RecordErased, view_of, memory_of, erase_done, erase_kept, erase_recovers}
use Rattle.jn_intent.proofs.works.IntentsWorkStore.erase_step.Goals as goal

pub invariant_of-self : goal.invariant_of-self
invariant_of-self g c =
    let serving = subst (λ s. IsServing (view_of s.1 (g.S.StableStore.view s.0))) (sym c.self.view_is) c.requires.serving in
    record {
      kept = erase_kept (memory_of c.self.inside) _ c.self.invariant.kept serving c.erase_one.result c.erase_one.new.self (g.S.StableStore.view c.erase_one.new.store) c.erase_one.ensures.none c.erase_one.ensures.erased;
      recoverable = erase_recovers (memory_of c.self.inside) _ c.self.invariant.kept serving c.erase_one.result c.erase_one.new.self (g.S.StableStore.view c.erase_one.new.store) c.erase_one.ensures.none c.erase_one.ensures.erased;
      flags_room = c.self.invariant.flags_room;
      rooms = c.self.invariant.rooms;
    }

pub returns : goal.returns
returns g c =
    let serving = subst (λ s. IsServing (view_of s.1 (g.S.StableStore.view s.0))) (sym c.self.view_is) c.requires.serving in
    record {
      erased = subst (λ s. RecordErased (view_of s.1 (g.S.StableStore.view s.0)) c.erase_one.result (view_of (memory_of (record c.self.inside { sets = c.erase_one.new.self })) (g.S.StableStore.view c.erase_one.new.store))) c.self.view_is
          (erase_done (memory_of c.self.inside) _ c.self.invariant.kept serving c.erase_one.result c.erase_one.new.self (g.S.StableStore.view c.erase_one.new.store) c.erase_one.ensures.none c.erase_one.ensures.erased);
    }

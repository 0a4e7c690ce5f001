use Rattle.jn_intent.proofs.Common.{sym, refl, ap, subst, ◌∙◌, true, false, true≢false, err_from_is_err_and, is_ok, IsServing, IsReady, MarkedGoing, view_of, memory_of}
use Rattle.jn_intent.proofs.Marking.{ready_slotted, mark_ready, mark_kept, mark_recovers, mark_done, mark_stopped}
use Rattle.jn_intent.proofs.works.IntentsWorkStore.mark_going.Goals as goal

pub unreachable-requires : goal.unreachable-requires
unreachable-requires g c =
    let serving = subst (λ s. IsServing (view_of s.1 (g.S.StableStore.view s.0))) (sym c.self.view_is) c.requires.serving in
    ready_slotted (memory_of c.self.inside) _ (c.self.invariant.kept serving.power) serving c.args.work (subst (λ s. IsReady (view_of s.1 (g.S.StableStore.view s.0)) c.args.work) (sym c.self.view_is) c.requires.ready) (sym c.prepared_slot.ensures ∙ c.in_default.is)

pub set_going-requires-clause-ready : goal.set_going-requires-clause-ready
set_going-requires-clause-ready g c =
    let serving = subst (λ s. IsServing (view_of s.1 (g.S.StableStore.view s.0))) (sym c.self.view_is) c.requires.serving in
    mark_ready (memory_of c.self.inside) _ c.self.invariant.kept serving c.args.work (subst (λ s. IsReady (view_of s.1 (g.S.StableStore.view s.0)) c.args.work) (sym c.self.view_is) c.requires.ready) c.in-Some.slot (sym c.prepared_slot.ensures ∙ c.in-Some.is)

pub invariant_of-self : goal.invariant_of-self
invariant_of-self g c =
    let serving = subst (λ s. IsServing (view_of s.1 (g.S.StableStore.view s.0))) (sym c.self.view_is) c.requires.serving in
    let ready = subst (λ s. IsReady (view_of s.1 (g.S.StableStore.view s.0)) c.args.work) (sym c.self.view_is) c.requires.ready in
    record {
      kept = λ power. absurd (true≢false (sym power ∙ (c.in_err-set_going.ensures.put.stop refl).dark));
      recoverable = mark_recovers (memory_of c.self.inside) _ c.self.invariant.kept serving c.args.work ready c.in-Some.slot (sym c.prepared_slot.ensures ∙ c.in-Some.is) false c.set_going.new.self (g.S.StableStore.view c.set_going.new.store) c.in_err-set_going.ensures;
      flags_room = c.self.invariant.flags_room;
      rooms = c.self.invariant.rooms;
    }

pub returns-in_err-set_going : goal.returns-in_err-set_going
returns-in_err-set_going g c =
    let serving = subst (λ s. IsServing (view_of s.1 (g.S.StableStore.view s.0))) (sym c.self.view_is) c.requires.serving in
    let ready = subst (λ s. IsReady (view_of s.1 (g.S.StableStore.view s.0)) c.args.work) (sym c.self.view_is) c.requires.ready in
    let err = err_from_is_err_and c.from_residual.result c.from_residual.ensures.1 in
    record {
      marked = subst (λ s. MarkedGoing (view_of s.1 (g.S.StableStore.view s.0)) c.args.work (is_ok c.from_residual.result) (view_of (memory_of (record c.self.inside { sets = c.set_going.new.self })) (g.S.StableStore.view c.set_going.new.store))) c.self.view_is
          (mark_stopped (memory_of c.self.inside) _ c.self.invariant.kept serving c.args.work ready c.in-Some.slot (sym c.prepared_slot.ensures ∙ c.in-Some.is) false c.set_going.new.self (g.S.StableStore.view c.set_going.new.store) c.in_err-set_going.ensures refl (is_ok c.from_residual.result) (ap is_ok err.1));
    }

pub invariant_of-self-2 : goal.invariant_of-self-2
invariant_of-self-2 g c =
    let serving = subst (λ s. IsServing (view_of s.1 (g.S.StableStore.view s.0))) (sym c.self.view_is) c.requires.serving in
    let ready = subst (λ s. IsReady (view_of s.1 (g.S.StableStore.view s.0)) c.args.work) (sym c.self.view_is) c.requires.ready in
    let now = mark_kept (memory_of c.self.inside) _ c.self.invariant.kept serving c.args.work ready c.in-Some.slot (sym c.prepared_slot.ensures ∙ c.in-Some.is) true c.set_going.new.self (g.S.StableStore.view c.set_going.new.store) c.in_ok-set_going.ensures c.mark.new.works.items c.mark.ensures refl in
    record {
      kept = λ power. now;
      recoverable = now.standing.recoverable;
      flags_room = c.self.invariant.flags_room;
      rooms = c.self.invariant.rooms;
    }

pub returns : goal.returns
returns g c =
    let serving = subst (λ s. IsServing (view_of s.1 (g.S.StableStore.view s.0))) (sym c.self.view_is) c.requires.serving in
    let ready = subst (λ s. IsReady (view_of s.1 (g.S.StableStore.view s.0)) c.args.work) (sym c.self.view_is) c.requires.ready in
    record {
      marked = subst (λ s. MarkedGoing (view_of s.1 (g.S.StableStore.view s.0)) c.args.work true (view_of (memory_of (record c.self.inside { sets = c.set_going.new.self; works = c.mark.new.works })) (g.S.StableStore.view c.set_going.new.store))) c.self.view_is
          (mark_done (memory_of c.self.inside) _ c.self.invariant.kept serving c.args.work ready c.in-Some.slot (sym c.prepared_slot.ensures ∙ c.in-Some.is) true c.set_going.new.self (g.S.StableStore.view c.set_going.new.store) c.in_ok-set_going.ensures c.mark.new.works.items c.mark.ensures refl);
    }

use Rattle.jn_intent.proofs.Common.{◌≡◌, ◌<◌, ◌≤◌, ◌-◌, sym, refl, ap, subst, ◌∙◌, true, false, true≢false, map, length, arith, err_from_is_err_and, is_ok, is_some, slice_index_or, work_eq, WorkState, is_in, IsServing, state, name_of, WorkRemoved, with_promised_heads, view_of, MayLetGo, heads_needed, memory_of}
use Rattle.jn_intent.proofs.Removing.{found_work, work_slotted, work_listed, work_used, list_few, heads_enough, may_let_go, given_back, stopped_there, remove_kept, remove_recovers, remove_made}
use Rattle.jn_intent.proofs.intents.Intents.remove.Goals as goal

pub unreachable-requires : goal.unreachable-requires
unreachable-requires g c =
    let serving = subst (λ s. IsServing (view_of s.1 (g.S.StableStore.view s.0))) (sym c.self.view_is) c.requires.serving in
    let some = subst (λ s. is_some ((state (view_of s.1 (g.S.StableStore.view s.0))).works c.args.work) ≡ true) (sym c.self.view_is) c.requires.prepared in
    work_slotted (memory_of c.self.inside) _ c.self.invariant.kept serving c.args.work some (sym c.prepared_slot.ensures ∙ c.in_default.is)

pub unreachable-requires-in_default-index_of : goal.unreachable-requires-in_default-index_of
unreachable-requires-in_default-index_of g c =
    let serving = subst (λ s. IsServing (view_of s.1 (g.S.StableStore.view s.0))) (sym c.self.view_is) c.requires.serving in
    let some = subst (λ s. is_some ((state (view_of s.1 (g.S.StableStore.view s.0))).works c.args.work) ≡ true) (sym c.self.view_is) c.requires.prepared in
    work_listed (memory_of c.self.inside) _ c.self.invariant.kept serving c.args.work some (subst (λ l. is_in work_eq c.args.work (map name_of l) ≡ false) c.deref.ensures.value c.in_default-index_of.ensures.none)

pub remove-requires-clause-held : goal.remove-requires-clause-held
remove-requires-clause-held g c =
    let serving = subst (λ s. IsServing (view_of s.1 (g.S.StableStore.view s.0))) (sym c.self.view_is) c.requires.serving in
    let some = subst (λ s. is_some ((state (view_of s.1 (g.S.StableStore.view s.0))).works c.args.work) ≡ true) (sym c.self.view_is) c.requires.prepared in
    work_used (memory_of c.self.inside) _ c.self.invariant.kept serving c.args.work some c.in-Some.slot (sym c.prepared_slot.ensures ∙ c.in-Some.is)

pub invariant_of-self : goal.invariant_of-self
invariant_of-self g c =
    let serving = subst (λ s. IsServing (view_of s.1 (g.S.StableStore.view s.0))) (sym c.self.view_is) c.requires.serving in
    let some = subst (λ s. is_some ((state (view_of s.1 (g.S.StableStore.view s.0))).works c.args.work) ≡ true) (sym c.self.view_is) c.requires.prepared in
    record {
      kept = λ power. absurd (true≢false (sym power ∙ (c.in_err-remove.ensures.put.stop refl).dark));
      recoverable = remove_recovers (memory_of c.self.inside) _ c.self.invariant.kept serving c.args.work some c.in-Some.slot (sym c.prepared_slot.ensures ∙ c.in-Some.is) false c.remove.new.self (g.S.StableStore.view c.remove.new.store) c.in_err-remove.ensures;
      flags_room = c.self.invariant.flags_room;
      rooms = c.self.invariant.rooms;
    }

pub returns-in_err-remove : goal.returns-in_err-remove
returns-in_err-remove g c =
    let serving = subst (λ s. IsServing (view_of s.1 (g.S.StableStore.view s.0))) (sym c.self.view_is) c.requires.serving in
    let some = subst (λ s. is_some ((state (view_of s.1 (g.S.StableStore.view s.0))).works c.args.work) ≡ true) (sym c.self.view_is) c.requires.prepared in
    let at = sym c.prepared_slot.ensures ∙ c.in-Some.is in
    let err = err_from_is_err_and c.from_residual.result c.from_residual.ensures.1 in
    record {
      removed = subst (λ s. WorkRemoved (view_of s.1 (g.S.StableStore.view s.0)) c.args.work (is_ok c.from_residual.result) (view_of (memory_of (record c.self.inside { sets = c.remove.new.self })) (g.S.StableStore.view c.remove.new.store))) c.self.view_is
          (stopped_there (memory_of c.self.inside) _ c.self.invariant.kept serving c.args.work some c.in-Some.slot at c.remove.new.self (g.S.StableStore.view c.remove.new.store) c.in_err-remove.ensures (is_ok c.from_residual.result) (ap is_ok err.1));
    }

pub give_back-requires-clause-heads : goal.give_back-requires-clause-heads
give_back-requires-clause-heads g c =
    let serving = subst (λ s. IsServing (view_of s.1 (g.S.StableStore.view s.0))) (sym c.self.view_is) c.requires.serving in
    let some = subst (λ s. is_some ((state (view_of s.1 (g.S.StableStore.view s.0))).works c.args.work) ≡ true) (sym c.self.view_is) c.requires.prepared in
    let at = sym c.prepared_slot.ensures ∙ c.in-Some.is in
    let found = subst (λ l. (c.in-Some-index_of.i < length l) × ((d : WorkState) → work_eq (slice_index_or l c.in-Some-index_of.i d).head.work c.args.work ≡ true)) c.deref.ensures.value c.in-Some-index_of.ensures.found in
    let here = found_work c.self.inside.works.items c.in-Some-index_of.i c.args.work c.index.result.now (c.self.invariant.kept serving.power).works.differ found.0 found.1 (sym c.index.ensures) in
    subst (λ l. heads_needed c.self.inside.table.heads l ≤ c.self.inside.table.free_heads.promised) (sym c.as_slice.ensures) (heads_enough (memory_of c.self.inside) _ c.self.invariant.kept serving c.args.work some c.in-Some.slot at c.index.result.now here)

pub give_back-requires-clause-few : goal.give_back-requires-clause-few
give_back-requires-clause-few g c =
    let serving = subst (λ s. IsServing (view_of s.1 (g.S.StableStore.view s.0))) (sym c.self.view_is) c.requires.serving in
    let some = subst (λ s. is_some ((state (view_of s.1 (g.S.StableStore.view s.0))).works c.args.work) ≡ true) (sym c.self.view_is) c.requires.prepared in
    let at = sym c.prepared_slot.ensures ∙ c.in-Some.is in
    let found = subst (λ l. (c.in-Some-index_of.i < length l) × ((d : WorkState) → work_eq (slice_index_or l c.in-Some-index_of.i d).head.work c.args.work ≡ true)) c.deref.ensures.value c.in-Some-index_of.ensures.found in
    let here = found_work c.self.inside.works.items c.in-Some-index_of.i c.args.work c.index.result.now (c.self.invariant.kept serving.power).works.differ found.0 found.1 (sym c.index.ensures) in
    let few = list_few (memory_of c.self.inside) _ c.self.invariant.kept serving c.args.work some c.in-Some.slot at c.index.result.now here in
    let same = ap (λ l. length l) c.as_slice.ensures in
    omega (arith, few, same)

pub give_back-requires-clause-pages : goal.give_back-requires-clause-pages
give_back-requires-clause-pages g c =
    let serving = subst (λ s. IsServing (view_of s.1 (g.S.StableStore.view s.0))) (sym c.self.view_is) c.requires.serving in
    let some = subst (λ s. is_some ((state (view_of s.1 (g.S.StableStore.view s.0))).works c.args.work) ≡ true) (sym c.self.view_is) c.requires.prepared in
    let at = sym c.prepared_slot.ensures ∙ c.in-Some.is in
    let found = subst (λ l. (c.in-Some-index_of.i < length l) × ((d : WorkState) → work_eq (slice_index_or l c.in-Some-index_of.i d).head.work c.args.work ≡ true)) c.deref.ensures.value c.in-Some-index_of.ensures.found in
    let here = found_work c.self.inside.works.items c.in-Some-index_of.i c.args.work c.index.result.now (c.self.invariant.kept serving.power).works.differ found.0 found.1 (sym c.index.ensures) in
    subst (λ l. MayLetGo l (with_promised_heads c.self.inside.table (c.self.inside.table.free_heads.promised - heads_needed c.self.inside.table.heads l))) (sym c.as_slice.ensures) (may_let_go (memory_of c.self.inside) _ c.self.invariant.kept serving c.args.work some c.in-Some.slot at c.index.result.now here)

pub invariant_of-self-2 : goal.invariant_of-self-2
invariant_of-self-2 g c =
    let serving = subst (λ s. IsServing (view_of s.1 (g.S.StableStore.view s.0))) (sym c.self.view_is) c.requires.serving in
    let some = subst (λ s. is_some ((state (view_of s.1 (g.S.StableStore.view s.0))).works c.args.work) ≡ true) (sym c.self.view_is) c.requires.prepared in
    let at = sym c.prepared_slot.ensures ∙ c.in-Some.is in
    let found = subst (λ l. (c.in-Some-index_of.i < length l) × ((d : WorkState) → work_eq (slice_index_or l c.in-Some-index_of.i d).head.work c.args.work ≡ true)) c.deref.ensures.value c.in-Some-index_of.ensures.found in
    let here = found_work c.self.inside.works.items c.in-Some-index_of.i c.args.work c.index.result.now (c.self.invariant.kept serving.power).works.differ found.0 found.1 (sym c.index.ensures) in
    let now = remove_kept (memory_of c.self.inside) _ c.self.invariant.kept serving c.args.work some c.in-Some.slot at c.index.result.now here true c.remove.new.self (g.S.StableStore.view c.remove.new.store) c.in_ok-remove.ensures c.give_back.new.table c.take_work.new.works.items refl c.give_back.ensures.table
    (subst (λ l. c.give_back.new.table ≡ given_back (memory_of c.self.inside) l) c.as_slice.ensures c.give_back.ensures.given) c.take_work.ensures in
    record {
      kept = λ power. now;
      recoverable = now.standing.recoverable;
      flags_room = c.self.invariant.flags_room;
      rooms = c.self.invariant.rooms;
    }

pub returns : goal.returns
returns g c =
    let serving = subst (λ s. IsServing (view_of s.1 (g.S.StableStore.view s.0))) (sym c.self.view_is) c.requires.serving in
    let some = subst (λ s. is_some ((state (view_of s.1 (g.S.StableStore.view s.0))).works c.args.work) ≡ true) (sym c.self.view_is) c.requires.prepared in
    let at = sym c.prepared_slot.ensures ∙ c.in-Some.is in
    let found = subst (λ l. (c.in-Some-index_of.i < length l) × ((d : WorkState) → work_eq (slice_index_or l c.in-Some-index_of.i d).head.work c.args.work ≡ true)) c.deref.ensures.value c.in-Some-index_of.ensures.found in
    let here = found_work c.self.inside.works.items c.in-Some-index_of.i c.args.work c.index.result.now (c.self.invariant.kept serving.power).works.differ found.0 found.1 (sym c.index.ensures) in
    record {
      removed = subst (λ s. WorkRemoved (view_of s.1 (g.S.StableStore.view s.0)) c.args.work true (view_of (memory_of (record c.self.inside { sets = c.remove.new.self; table = c.give_back.new.table; works = c.take_work.new.works })) (g.S.StableStore.view c.remove.new.store))) c.self.view_is
          (remove_made (memory_of c.self.inside) _ c.self.invariant.kept serving c.args.work some c.in-Some.slot at c.index.result.now here true c.remove.new.self (g.S.StableStore.view c.remove.new.store) c.in_ok-remove.ensures c.give_back.new.table c.take_work.new.works.items refl
          (subst (λ l. c.give_back.new.table ≡ given_back (memory_of c.self.inside) l) c.as_slice.ensures c.give_back.ensures.given) c.take_work.ensures);
    }

use Rattle.jn_intent.proofs.Common.{sym, refl, ap, subst, ◌∙◌, true, false, true≢false, arith, err_from_is_err_and, is_ok, IsServing, HasFlag, FlagDropped, view_of, memory_of, flag_slotted, flag_held, drop_kept, drop_recovers, drop_done, drop_stopped}
use Rattle.jn_intent.proofs.flags.IntentsFlagStore.drop_flag.Goals as goal

pub unreachable-requires : goal.unreachable-requires
unreachable-requires g c =
    let serving = subst (λ s. IsServing (view_of s.1 (g.S.StableStore.view s.0))) (sym c.self.view_is) c.requires.serving in
    flag_slotted (memory_of c.self.inside) _ (c.self.invariant.kept serving.power) serving c.args.t (subst (λ s. HasFlag (view_of s.1 (g.S.StableStore.view s.0)) c.args.t) (sym c.self.view_is) c.requires.live) (sym c.flag_slot.ensures ∙ c.in_default.is)

pub remove-requires-clause-held : goal.remove-requires-clause-held
remove-requires-clause-held g c =
    let serving = subst (λ s. IsServing (view_of s.1 (g.S.StableStore.view s.0))) (sym c.self.view_is) c.requires.serving in
    flag_held (memory_of c.self.inside) _ (c.self.invariant.kept serving.power) serving c.args.t c.in-Some.slot (sym c.flag_slot.ensures ∙ c.in-Some.is)

pub invariant_of-self : goal.invariant_of-self
invariant_of-self g c =
    let serving = subst (λ s. IsServing (view_of s.1 (g.S.StableStore.view s.0))) (sym c.self.view_is) c.requires.serving in
    let has = subst (λ s. HasFlag (view_of s.1 (g.S.StableStore.view s.0)) c.args.t) (sym c.self.view_is) c.requires.live in
    record {
      kept = λ power. absurd (true≢false (sym power ∙ (c.in_err-remove.ensures.put.stop refl).dark));
      recoverable = drop_recovers (memory_of c.self.inside) _ c.self.invariant.kept serving c.args.t c.in-Some.slot (sym c.flag_slot.ensures ∙ c.in-Some.is) has c.remove.new.self (g.S.StableStore.view c.remove.new.store) false c.in_err-remove.ensures;
      flags_room = c.self.invariant.flags_room;
      rooms = c.self.invariant.rooms;
    }

pub returns-in_err-remove : goal.returns-in_err-remove
returns-in_err-remove g c =
    let serving = subst (λ s. IsServing (view_of s.1 (g.S.StableStore.view s.0))) (sym c.self.view_is) c.requires.serving in
    let has = subst (λ s. HasFlag (view_of s.1 (g.S.StableStore.view s.0)) c.args.t) (sym c.self.view_is) c.requires.live in
    let err = err_from_is_err_and c.from_residual.result c.from_residual.ensures.1 in
    record {
      dropped = subst (λ s. FlagDropped (view_of s.1 (g.S.StableStore.view s.0)) c.args.t (is_ok c.from_residual.result) (view_of (memory_of (record c.self.inside { sets = c.remove.new.self })) (g.S.StableStore.view c.remove.new.store))) c.self.view_is
          (drop_stopped (memory_of c.self.inside) _ c.self.invariant.kept serving c.args.t c.in-Some.slot (sym c.flag_slot.ensures ∙ c.in-Some.is) has c.remove.new.self (g.S.StableStore.view c.remove.new.store) (is_ok c.from_residual.result) (ap is_ok err.1) c.in_err-remove.ensures);
    }

pub invariant_of-self-2 : goal.invariant_of-self-2
invariant_of-self-2 g c =
    let serving = subst (λ s. IsServing (view_of s.1 (g.S.StableStore.view s.0))) (sym c.self.view_is) c.requires.serving in
    let has = subst (λ s. HasFlag (view_of s.1 (g.S.StableStore.view s.0)) c.args.t) (sym c.self.view_is) c.requires.live in
    let now = drop_kept (memory_of c.self.inside) _ c.self.invariant.kept serving c.args.t c.in-Some.slot (sym c.flag_slot.ensures ∙ c.in-Some.is) has c.remove.new.self (g.S.StableStore.view c.remove.new.store) c.take_flag.new.flags.items c.in_ok-remove.ensures c.take_flag.ensures.items in
    record {
      kept = λ power. now;
      recoverable = now.standing.recoverable;
      flags_room = let room = c.self.invariant.flags_room in let fewer = c.take_flag.ensures.fewer in let same = c.take_flag.ensures.capacity in omega (arith, room, fewer, same);
      rooms = c.self.invariant.rooms;
    }

pub returns : goal.returns
returns g c =
    let serving = subst (λ s. IsServing (view_of s.1 (g.S.StableStore.view s.0))) (sym c.self.view_is) c.requires.serving in
    let has = subst (λ s. HasFlag (view_of s.1 (g.S.StableStore.view s.0)) c.args.t) (sym c.self.view_is) c.requires.live in
    record {
      dropped = subst (λ s. FlagDropped (view_of s.1 (g.S.StableStore.view s.0)) c.args.t true (view_of (memory_of (record c.self.inside { sets = c.remove.new.self; flags = c.take_flag.new.flags })) (g.S.StableStore.view c.remove.new.store))) c.self.view_is
          (drop_done (memory_of c.self.inside) _ c.self.invariant.kept serving c.args.t c.in-Some.slot (sym c.flag_slot.ensures ∙ c.in-Some.is) has c.remove.new.self (g.S.StableStore.view c.remove.new.store) c.take_flag.new.flags.items c.in_ok-remove.ensures c.take_flag.ensures.items);
    }

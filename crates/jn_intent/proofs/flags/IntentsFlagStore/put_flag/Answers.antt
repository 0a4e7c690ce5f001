use Rattle.jn_intent.proofs.Common.{sym, refl, ap, subst, ◌∙◌, true, false, true≢false, arith, [], ◌∷◌, ◌++◌, vec_len, AllByRecursion, IsServing, MayPutFlag, FlagPut, view_of, memory_of, IsRoom, popped, all_front, last_of, put_kept, put_is_done, put_is_stopped, put_dark, put_recovers}
use Rattle.jn_intent.proofs.flags.IntentsFlagStore.put_flag.Goals as goal

pub invariant_of-self : goal.invariant_of-self
invariant_of-self g c =
    let serving = subst (λ s. IsServing (view_of s.1 (g.S.StableStore.view s.0))) (sym c.self.view_is) c.requires.serving in
    let may = subst (λ s. MayPutFlag (view_of s.1 (g.S.StableStore.view s.0)) c.args.flag.now) (sym c.self.view_is) c.requires.may in
    let less = popped c.pop.result _ _ c.pop.ensures.cases may.promise in
    record {
      kept = λ power. absurd (true≢false (sym power ∙ put_dark (memory_of c.self.inside) _ c.self.invariant.kept serving c.args.flag.now c.copied.result _ may less c.record_fits.ensures c.copied.ensures false c.insert.new.self (g.S.StableStore.view c.insert.new.store) c.in_default-insert.ensures.puts refl));
      recoverable = put_recovers (memory_of c.self.inside) _ c.self.invariant.kept serving c.args.flag.now c.copied.result _ may less c.record_fits.ensures c.copied.ensures false c.insert.new.self (g.S.StableStore.view c.insert.new.store) c.in_default-insert.ensures.puts;
      flags_room = let room = c.self.invariant.flags_room in omega (arith, room, less);
      rooms = all_front IsRoom _ _ (subst (λ xs. AllByRecursion IsRoom xs) c.pop.ensures.items c.self.invariant.rooms);
    }

pub returns-in_default-insert : goal.returns-in_default-insert
returns-in_default-insert g c =
    let serving = subst (λ s. IsServing (view_of s.1 (g.S.StableStore.view s.0))) (sym c.self.view_is) c.requires.serving in
    let may = subst (λ s. MayPutFlag (view_of s.1 (g.S.StableStore.view s.0)) c.args.flag.now) (sym c.self.view_is) c.requires.may in
    let less = popped c.pop.result _ _ c.pop.ensures.cases may.promise in
    record {
      put = subst (λ s. FlagPut (view_of s.1 (g.S.StableStore.view s.0)) c.args.flag.now false (view_of (memory_of (record c.self.inside { sets = c.insert.new.self; rooms = c.pop.new.self })) (g.S.StableStore.view c.insert.new.store))) c.self.view_is
          (put_is_stopped (memory_of c.self.inside) _ c.self.invariant.kept serving c.args.flag.now c.copied.result (vec_len c.pop.new.self) may less c.record_fits.ensures c.copied.ensures false c.insert.new.self (g.S.StableStore.view c.insert.new.store) c.in_default-insert.ensures.puts refl);
    }

pub copied-requires-2-clause-empty : goal.copied-requires-2-clause-empty
copied-requires-2-clause-empty g c = (last_of IsRoom _ c.in-Some.room (subst (λ xs. AllByRecursion IsRoom xs) c.in-Some.ensures.items c.self.invariant.rooms)).listed.empty

pub copied-requires-2-clause-enough : goal.copied-requires-2-clause-enough
copied-requires-2-clause-enough g c =
    let may = subst (λ s. MayPutFlag (view_of s.1 (g.S.StableStore.view s.0)) c.args.flag.now) (sym c.self.view_is) c.requires.may in
    let fits = may.works_fit in
    let enough = (last_of IsRoom _ c.in-Some.room (subst (λ xs. AllByRecursion IsRoom xs) c.in-Some.ensures.items c.self.invariant.rooms)).listed.enough in
    omega (arith, fits, enough)

pub invariant_of-self-2 : goal.invariant_of-self-2
invariant_of-self-2 g c =
    let serving = subst (λ s. IsServing (view_of s.1 (g.S.StableStore.view s.0))) (sym c.self.view_is) c.requires.serving in
    let may = subst (λ s. MayPutFlag (view_of s.1 (g.S.StableStore.view s.0)) c.args.flag.now) (sym c.self.view_is) c.requires.may in
    let less = popped c.pop.result _ _ c.pop.ensures.cases may.promise in
    let now = put_kept (memory_of c.self.inside) _ c.self.invariant.kept serving c.args.flag.now c.copied.result (vec_len c.pop.new.self) may less c.record_fits.ensures c.copied.ensures true c.insert.new.self (g.S.StableStore.view c.insert.new.store) c.in-Ok.ensures.puts
    c.push_reserved.new.self.items refl (c.push_reserved.ensures.items ∙ ap (λ f. c.self.inside.flags.items ++ f ∷ []) c.copied-2.ensures) in
    record {
      kept = λ power. now;
      recoverable = now.standing.recoverable;
      flags_room = let room = c.self.invariant.flags_room in let longer = c.push_reserved.ensures.len in let same = c.push_reserved.ensures.capacity in omega (arith, room, longer, same, less);
      rooms = all_front IsRoom _ _ (subst (λ xs. AllByRecursion IsRoom xs) c.pop.ensures.items c.self.invariant.rooms);
    }

pub returns : goal.returns
returns g c =
    let serving = subst (λ s. IsServing (view_of s.1 (g.S.StableStore.view s.0))) (sym c.self.view_is) c.requires.serving in
    let may = subst (λ s. MayPutFlag (view_of s.1 (g.S.StableStore.view s.0)) c.args.flag.now) (sym c.self.view_is) c.requires.may in
    let less = popped c.pop.result _ _ c.pop.ensures.cases may.promise in
    record {
      put = subst (λ s. FlagPut (view_of s.1 (g.S.StableStore.view s.0)) c.args.flag.now true (view_of (memory_of (record c.self.inside { sets = c.insert.new.self; flags = c.push_reserved.new.self; rooms = c.pop.new.self })) (g.S.StableStore.view c.insert.new.store))) c.self.view_is
          (put_is_done (memory_of c.self.inside) _ c.self.invariant.kept serving c.args.flag.now c.copied.result (vec_len c.pop.new.self) may less c.record_fits.ensures c.copied.ensures true c.insert.new.self (g.S.StableStore.view c.insert.new.store) c.in-Ok.ensures.puts
          c.push_reserved.new.self.items refl (c.push_reserved.ensures.items ∙ ap (λ f. c.self.inside.flags.items ++ f ∷ []) c.copied-2.ensures));
    }

use Rattle.jn_intent.proofs.Common.{◌≡◌, sym, refl, ap, subst, true, false, Ok, err_from_is_err_and, is_ok, map, work_eq, is_in, IsServing, state, name_of, IsGoing, StepApplied, view_of, memory_of}
use Rattle.jn_intent.proofs.Applying.{apply_none, apply_may, apply_few, apply_stopped, apply_dark, apply_recovers, apply_done}
use Rattle.jn_intent.proofs.Removing.{work_listed, is_going_some}
use Rattle.jn_intent.proofs.intents.Intents.carry_next.Goals as goal

pub unreachable-requires : goal.unreachable-requires
unreachable-requires g c =
    let serving = subst (λ s. IsServing (view_of s.1 (g.S.StableStore.view s.0))) (sym c.self.view_is) c.requires.serving in
    let going = subst (λ s. IsGoing (view_of s.1 (g.S.StableStore.view s.0)) c.args.work) (sym c.self.view_is) c.requires.going in
    work_listed (memory_of c.self.inside) _ c.self.invariant.kept serving c.args.work (is_going_some ((state (view_of (memory_of c.self.inside) (g.S.StableStore.view c.self.inside.store))).works c.args.work) going)
    (subst (λ l. is_in work_eq c.args.work (map name_of l) ≡ false) c.deref.ensures.value c.in_default.ensures.none)

pub returns-in_default-next_intention : goal.returns-in_default-next_intention
returns-in_default-next_intention g c =
    let serving = subst (λ s. IsServing (view_of s.1 (g.S.StableStore.view s.0))) (sym c.self.view_is) c.requires.serving in
    record {
      applied = subst (λ s. StepApplied (view_of s.1 (g.S.StableStore.view s.0)) c.args.work (Ok false) (view_of s.1 (g.S.StableStore.view s.0))) c.self.view_is
          (apply_none (memory_of c.self.inside) _ c.self.invariant.kept serving c.args.work c.deref.result.now c.deref.ensures.value c.in-Some.i c.in-Some.ensures.found c.index.result.now c.index.ensures c.next_intention.result c.next_intention.ensures c.in_default-next_intention.is);
    }

pub carry_out-requires : goal.carry_out-requires
carry_out-requires g c =
    let serving = subst (λ s. IsServing (view_of s.1 (g.S.StableStore.view s.0))) (sym c.self.view_is) c.requires.serving in
    apply_may (memory_of c.self.inside) _ c.self.invariant.kept serving c.args.work c.deref.result.now c.deref.ensures.value c.in-Some.i c.in-Some.ensures.found c.index.result.now c.index.ensures c.next_intention.result c.next_intention.ensures
    c.in-Some-next_intention.intention c.in-Some-next_intention.is

pub returns-in_err-carry_out : goal.returns-in_err-carry_out
returns-in_err-carry_out g c =
    let serving = subst (λ s. IsServing (view_of s.1 (g.S.StableStore.view s.0))) (sym c.self.view_is) c.requires.serving in
    let err = err_from_is_err_and c.from_residual.result c.from_residual.ensures.1 in
    record {
      applied = subst (λ s. StepApplied (view_of s.1 (g.S.StableStore.view s.0)) c.args.work c.from_residual.result (view_of (memory_of (record c.self.inside { table = c.carry_out.new.table })) (g.S.StableStore.view c.carry_out.new.store))) c.self.view_is
          (apply_stopped (memory_of c.self.inside) _ c.self.invariant.kept serving c.args.work c.deref.result.now c.deref.ensures.value c.in-Some.i c.in-Some.ensures.found c.index.result.now c.index.ensures c.next_intention.result c.next_intention.ensures
          c.in-Some-next_intention.intention c.in-Some-next_intention.is c.carry_out.new.table (g.S.StableStore.view c.carry_out.new.store) false c.in_err-carry_out.ensures refl c.from_residual.result (ap is_ok err.1));
    }

pub invariant_of-self : goal.invariant_of-self
invariant_of-self g c =
    let serving = subst (λ s. IsServing (view_of s.1 (g.S.StableStore.view s.0))) (sym c.self.view_is) c.requires.serving in
    record {
      kept = apply_dark (memory_of c.self.inside) _ c.self.invariant.kept serving c.args.work c.deref.result.now c.deref.ensures.value c.in-Some.i c.in-Some.ensures.found c.index.result.now c.index.ensures c.next_intention.result c.next_intention.ensures
          c.in-Some-next_intention.intention c.in-Some-next_intention.is c.carry_out.new.table (g.S.StableStore.view c.carry_out.new.store) false c.in_err-carry_out.ensures refl;
      recoverable = apply_recovers (memory_of c.self.inside) _ c.self.invariant.kept serving c.args.work c.deref.result.now c.deref.ensures.value c.in-Some.i c.in-Some.ensures.found c.index.result.now c.index.ensures c.next_intention.result c.next_intention.ensures
          c.in-Some-next_intention.intention c.in-Some-next_intention.is c.carry_out.new.table (g.S.StableStore.view c.carry_out.new.store) false c.in_err-carry_out.ensures refl;
      flags_room = c.self.invariant.flags_room;
      rooms = c.self.invariant.rooms;
    }

pub count_on-requires-clause-few : goal.count_on-requires-clause-few
count_on-requires-clause-few g c =
    let serving = subst (λ s. IsServing (view_of s.1 (g.S.StableStore.view s.0))) (sym c.self.view_is) c.requires.serving in
    apply_few (memory_of c.self.inside) _ c.self.invariant.kept serving c.args.work c.deref.result.now c.deref.ensures.value c.in-Some.i c.in-Some.ensures.found c.index.result.now c.index.ensures c.next_intention.result c.next_intention.ensures
    c.in-Some-next_intention.intention c.in-Some-next_intention.is c.self.inside.works.items refl

pub invariant_of-self-2 : goal.invariant_of-self-2
invariant_of-self-2 g c =
    let serving = subst (λ s. IsServing (view_of s.1 (g.S.StableStore.view s.0))) (sym c.self.view_is) c.requires.serving in
    let now = (apply_done (memory_of c.self.inside) _ c.self.invariant.kept serving c.args.work c.deref.result.now c.deref.ensures.value c.in-Some.i c.in-Some.ensures.found c.index.result.now c.index.ensures c.next_intention.result c.next_intention.ensures
    c.in-Some-next_intention.intention c.in-Some-next_intention.is c.carry_out.new.table (g.S.StableStore.view c.carry_out.new.store) true c.in_ok-carry_out.ensures refl c.self.inside.works.items c.count_on.new.works.items refl c.count_on.ensures).0 in
    record {
      kept = λ power. now;
      recoverable = now.standing.recoverable;
      flags_room = c.self.invariant.flags_room;
      rooms = c.self.invariant.rooms;
    }

pub returns : goal.returns
returns g c =
    let serving = subst (λ s. IsServing (view_of s.1 (g.S.StableStore.view s.0))) (sym c.self.view_is) c.requires.serving in
    record {
      applied = subst (λ s. StepApplied (view_of s.1 (g.S.StableStore.view s.0)) c.args.work (Ok true) (view_of (memory_of (record c.self.inside { table = c.carry_out.new.table; works = c.count_on.new.works })) (g.S.StableStore.view c.carry_out.new.store))) c.self.view_is
          (apply_done (memory_of c.self.inside) _ c.self.invariant.kept serving c.args.work c.deref.result.now c.deref.ensures.value c.in-Some.i c.in-Some.ensures.found c.index.result.now c.index.ensures c.next_intention.result c.next_intention.ensures
          c.in-Some-next_intention.intention c.in-Some-next_intention.is c.carry_out.new.table (g.S.StableStore.view c.carry_out.new.store) true c.in_ok-carry_out.ensures refl c.self.inside.works.items c.count_on.new.works.items refl c.count_on.ensures).1;
    }

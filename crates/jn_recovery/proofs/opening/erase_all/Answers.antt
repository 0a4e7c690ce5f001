use Rattle.jn_recovery.proofs.Common.{◌≡◌, ◌≤◌, true, false, length, sym, subst, arith, rules, is_ok, Erases}
use Rattle.jn_recovery.proofs.ErasingAll.{not_ok_is, erases_none, erases_more, erases_all, erase_stopped, one_erased, fewer_left, none_left, nothing_left, few_rubbish, on_err_all}
use Rattle.jn_recovery.proofs.opening.erase_all.Goals as goal

pub loop-slot-init : goal.loop-slot-init
loop-slot-init g c = (few_rubbish c.args.sets.now, λ server counts epoch heads maps standing. erases_none server counts (g.S.StableStore.view c.args.store.now) epoch heads maps c.args.sets.now standing)

pub erase_one-requires : goal.erase_one-requires
erase_one-requires g c =
    let (server, counts, epoch, heads, maps, standing) = c.requires.standing in
    let held = (c.loop-slot.invariant.1 server counts epoch heads maps standing).standing.held in
    let size = held.slots in
    let count = held.count in
    record { there = omega (arith, size, count) }

pub returns-in_err-erase_one-clause-stopped : goal.returns-in_err-erase_one-clause-stopped
returns-in_err-erase_one-clause-stopped g c = λ server counts epoch heads maps standing.
    let pool = c.loop-slot.sets in
    let u = g.S.StableStore.view c.loop-slot.store in
    let w = g.S.StableStore.view c.erase_one.new.store in
    let lt = c.loop-slot-test.true in
    let size = standing.held.slots in
    let end = c.slots-slot-end.ensures in
    let one = one_erased pool u c.erase_one.result c.erase_one.new.self w c.erase_one.ensures.none c.erase_one.ensures.erased (not_ok_is c.erase_one.result false (search rules)) in
    on_err_all c.from_residual.result _ (erase_stopped server counts (g.S.StableStore.view c.args.store.now) epoch heads maps c.args.sets.now c.loop-slot._slot pool u (c.loop-slot.invariant.1 server counts epoch heads maps standing)
    one.0 one.1 (is_ok c.erase_one.result) c.erase_one.new.self w one.2 (search rules) (omega (arith, lt, size, end)))

pub returns-then-not-branch-clause-done : goal.returns-then-not-branch-clause-done
returns-then-not-branch-clause-done g c = λ server counts epoch heads maps standing.
    let pool = c.loop-slot.sets in
    let u = g.S.StableStore.view c.loop-slot.store in
    let w = g.S.StableStore.view c.erase_one.new.store in
    let before = c.loop-slot.invariant.1 server counts epoch heads maps standing in
    let none = none_left pool u c.erase_one.result c.erase_one.new.self w c.erase_one.ensures.none c.erase_one.ensures.erased (search rules) in
    let lt = c.loop-slot-test.true in
    let end = c.slots-slot-end.ensures in
    let size = standing.held.slots in
    let now = before.standing.held.slots in
    erases_all server counts (g.S.StableStore.view c.args.store.now) epoch heads maps c.args.sets.now c.loop-slot._slot c.erase_one.new.self w (subst (λ l. c.loop-slot._slot ≤ length l) (sym none.1) (omega (arith, lt, end, size, now))) none.0
    (subst (λ l. Erases server counts (g.S.StableStore.view c.args.store.now) epoch heads maps c.loop-slot._slot c.args.sets.now l w) (sym none.1)
    (subst (λ x. Erases server counts (g.S.StableStore.view c.args.store.now) epoch heads maps c.loop-slot._slot c.args.sets.now pool x) (sym none.2) before))

pub loop-slot-preserved : goal.loop-slot-preserved
loop-slot-preserved g c =
    let pool = c.loop-slot.sets in
    let u = g.S.StableStore.view c.loop-slot.store in
    let w = g.S.StableStore.view c.erase_one.new.store in
    let went = one_erased pool u c.erase_one.result c.erase_one.new.self w c.erase_one.ensures.none c.erase_one.ensures.erased (search rules) in
    let done : is_ok c.erase_one.result ≡ true = search rules in
    let less = fewer_left pool u c.erase_one.result c.erase_one.new.self w c.erase_one.ensures.none c.erase_one.ensures.erased went.0 went.1 (went.2.done done) in
    let before = c.loop-slot.invariant.0 in (
      omega (arith, less, before),
      λ server counts epoch heads maps standing.
          erases_more server counts (g.S.StableStore.view c.args.store.now) epoch heads maps c.args.sets.now c.loop-slot._slot pool u (c.loop-slot.invariant.1 server counts epoch heads maps standing) went.0 went.1 (is_ok c.erase_one.result) c.erase_one.new.self w went.2 done,
    )

pub returns-clause-done : goal.returns-clause-done
returns-clause-done g c = λ server counts epoch heads maps standing.
    let before = c.loop-slot.invariant.1 server counts epoch heads maps standing in
    let fewer = c.loop-slot.invariant.0 in
    let past = c.loop-slot-test.false in
    let end = c.slots-slot-end.ensures in
    let size = standing.held.slots in
    let now = before.standing.held.slots in
    erases_all server counts (g.S.StableStore.view c.args.store.now) epoch heads maps c.args.sets.now c.loop-slot._slot c.loop-slot.sets (g.S.StableStore.view c.loop-slot.store) (search rules) (nothing_left _ c.loop-slot._slot (search rules)) before

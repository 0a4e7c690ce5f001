use Rattle.jn_intent.proofs.Common.{◌≡◌, rules, Bool, false, slice_index_or, slice_get-get_or, maps_in, List, [], ◌∷◌, length, ap, sym, subst, ◌∙◌, true≢false, arith, length-append, err_from_is_err_and, is_ok, StoredIntention, Counts, page_count, IsPreparing}
use Rattle.jn_intent.proofs.PutPages.{puts_within, all_puts}
use Rattle.jn_intent.proofs.Storing.{plain_at, list_on, list_stops, pages_left, lacks_past}
use Rattle.jn_intent.proofs.prepare.store_all.Goals as goal

pub store_one-requires-clause-plain : goal.store_one-requires-clause-plain
store_one-requires-clause-plain g c = plain_at c.args.list.now c.loop-order.order _ c.requires.begins.2.may.order.plain c.loop-order-test.true

pub store_one-requires-clause-fits : goal.store_one-requires-clause-fits
store_one-requires-clause-fits g c =
    let (m, v, begins) = c.requires.begins in let now = c.loop-order.invariant.preparing m v begins in
    sym now.store.standing.held.count ∙ ap (λ (counts : Counts). page_count counts) (sym now.pages.counts)

pub store_one-requires-clause-unpromised : goal.store_one-requires-clause-unpromised
store_one-requires-clause-unpromised g c = let (m, v, begins) = c.requires.begins in (c.loop-order.invariant.preparing m v begins).pages.unpromised

pub store_one-requires-clause-pages : goal.store_one-requires-clause-pages
store_one-requires-clause-pages g c =
    let (m, v, begins) = c.requires.begins in
    pages_left m v c.args.head.now.work c.args.list.now c.args.lacks.now _ c.loop-order.sets c.loop-order.table _ begins.may (c.loop-order.invariant.preparing m v begins) c.loop-order.order c.loop-order.invariant.longer c.loop-order-test.true _ _
    (slice_get-get_or c.args.lacks.now c.loop-order.order _ (let lt = c.loop-order-test.true in let same = c.requires.flags in omega (arith, lt, same)))

pub store_one-requires-clause-lacks : goal.store_one-requires-clause-lacks
store_one-requires-clause-lacks g c lacks =
    let (m, v, begins) = c.requires.begins in
    lacks_past (maps_in m.table.heads) c.args.list.now c.loop-order.order _ c.loop-order-test.true (sym (ap (λ (l : List Bool). slice_index_or l c.loop-order.order false) begins.may.lacks_are) ∙ lacks)

pub store_one-requires-clause-there : goal.store_one-requires-clause-there
store_one-requires-clause-there g c =
    let (m, v, begins) = c.requires.begins in let held = (c.loop-order.invariant.preparing m v begins).store.standing.held in
    let size = held.slots in let count = held.count in omega (arith, size, count)

pub store_one-requires-clause-room : goal.store_one-requires-clause-room
store_one-requires-clause-room g c =
    let (m, v, begins) = c.requires.begins in
    let free = (c.loop-order.invariant.preparing m v begins).pool.free in let few = begins.may.records in
    let longer = c.loop-order.invariant.longer in let lt = c.loop-order-test.true in omega (arith, free, few, longer, lt)

pub returns : goal.returns
returns g c m v begins = record {
  all = λ ok. c.loop-order.invariant.longer ∙ search rules;
  done = λ ok. c.loop-order.invariant.preparing m v begins;
  stopped = λ e. absurd (true≢false e);
  written = let now = c.loop-order.invariant.preparing m v begins in
      puts_within _ _ v _ (all_puts c.args.list.now (length c.loop-order.stored.items) (let all : length c.loop-order.stored.items ≡ length c.args.list.now = c.loop-order.invariant.longer ∙ search rules in omega (arith, all))) now.written;
}

pub returns-in_err-put : goal.returns-in_err-put
returns-in_err-put g c m v begins =
    let err = err_from_is_err_and c.from_residual.result c.from_residual.ensures.1 in
    list_stops m v c.args.head.now c.args.list.now c.args.lacks.now begins.may c.loop-order.stored.items c.loop-order.sets c.loop-order.table _ (c.loop-order.invariant.preparing m v begins)
    c.loop-order.order c.loop-order.invariant.longer c.loop-order-test.true _ _ (slice_get-get_or c.args.lacks.now c.loop-order.order _ (let lt = c.loop-order-test.true in let same = c.requires.flags in omega (arith, lt, same))) c.store_one.result c.store_one.new.sets c.store_one.new.table (g.S.StableStore.view c.store_one.new.store) c.store_one.ensures.stored c.store_one.ensures.table
    (ap is_ok c.in_err-put.was) (is_ok c.from_residual.result) (ap is_ok err.1)

pub loop-order-preserved : goal.loop-order-preserved
loop-order-preserved g c = record {
  preparing = λ m v begins. subst (λ l. IsPreparing m v c.args.head.now.work c.args.list.now c.args.lacks.now l c.store_one.new.sets c.store_one.new.table (g.S.StableStore.view c.store_one.new.store)) (sym c.push_reserved.ensures.items)
      (list_on m v c.args.head.now c.args.list.now c.args.lacks.now begins.may c.loop-order.stored.items c.loop-order.sets c.loop-order.table _ (c.loop-order.invariant.preparing m v begins)
      c.loop-order.order c.loop-order.invariant.longer c.loop-order-test.true _ _ (slice_get-get_or c.args.lacks.now c.loop-order.order _ (let lt = c.loop-order-test.true in let same = c.requires.flags in omega (arith, lt, same))) c.store_one.result c.store_one.new.sets c.store_one.new.table (g.S.StableStore.view c.store_one.new.store) c.store_one.ensures.stored c.store_one.ensures.table
      _ c.in_ok-put.was);
  longer = let all = ap (λ (l : List StoredIntention). length l) c.push_reserved.ensures.items in let one = length-append c.loop-order.stored.items (c.in_ok-put.put ∷ []) in let before = c.loop-order.invariant.longer in omega (arith, all, one, before);
  room = c.push_reserved.ensures.capacity ∙ c.loop-order.invariant.room;
}

use Rattle.jn_intent.proofs.Common.{◌≡◌, length, vec_capacity, StoreView, Memory, Begins, IsPreparing}
use Rattle.jn_intent.proofs.prepare.store_all.Given as goal

abbrev pub invariant-loop-order : goal.invariant-loop-order
invariant-loop-order g l = record {
  preparing : (m : Memory) (v : StoreView) → Begins m v l.fn.head.work l.fn.list l.fn.lacks l.fn.sets l.fn.table (g.S.StableStore.view l.fn.store) → IsPreparing m v l.fn.head.work l.fn.list l.fn.lacks l.stored.items l.sets l.table (g.S.StableStore.view l.store);
  longer : length l.stored.items ≡ l.order;
  room : vec_capacity l.stored ≡ vec_capacity l.fn.stored;
}

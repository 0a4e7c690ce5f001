use Rattle.std.proofs.Common.{◌≡◌, ◌<◌, ℕ, false, length, take}
use Rattle.std.specs.Prelude.{slice_index_or, not}
use Rattle.jn_alloc.specs.Free.{is_used}
use Rattle.jn_alloc.proofs.FreeList.new.Given as goal

abbrev pub invariant-loop-a : goal.invariant-loop-a
invariant-loop-a l = record {
  so_many : length l.is_free.items ≡ l.count;
  unused : (k : ℕ) → k < l.count → slice_index_or l.is_free.items k false ≡ not (is_used (take l.a-index l.used) k);
}

use Rattle.jn_files.proofs.Common.{◌≡◌, ◌<◌, ◌≤◌, ℕ, true, false, not, slice_index_or, count_of, is_free_number}
use Rattle.jn_files.proofs.load.free_leaves.Given as goal

abbrev pub invariant-loop-a : goal.invariant-loop-a
invariant-loop-a l = record {
  count : count_of l.free ≡ l.leaves;
  promised : l.free.promised ≡ 0;
  seen : (k : ℕ) → k < l.a → is_free_number l.free k ≡ not (slice_index_or l.named k false);
  rest : (k : ℕ) → l.a ≤ k → k < l.leaves → is_free_number l.free k ≡ true;
}

use Rattle.jn_files.proofs.Common.{◌≡◌, ◌<◌, ◌≤◌, ℕ, length, slice_index}
use Rattle.jn_files.proofs.maps.cut_row.Given as goal

abbrev pub invariant-loop-k : goal.invariant-loop-k
invariant-loop-k l = record {
  long : length l.row ≡ length l.old;
  kept : (k : ℕ) → k < l.n → slice_index l.row k ≡ slice_index l.old k;
  cut : (k : ℕ) → l.n ≤ k → k < l.k → slice_index l.row k ≡ 0;
  rest : (k : ℕ) → l.k ≤ k → slice_index l.row k ≡ slice_index l.old k;
}

use Rattle.jn_files.proofs.Common.{◌≡◌, ◌<◌, ◌≤◌, ℕ, length, slice_index}
use Rattle.jn_files.proofs.slot.cut_maps.Given as goal

abbrev pub invariant-loop-j : goal.invariant-loop-j
invariant-loop-j l = record {
  long : length l.maps ≡ length l.old;
  kept : (k : ℕ) → k < l.n → slice_index l.maps k ≡ slice_index l.old k;
  cut : (k : ℕ) → l.n ≤ k → k < l.j → slice_index l.maps k ≡ 0;
  rest : (k : ℕ) → l.j ≤ k → slice_index l.maps k ≡ slice_index l.old k;
}

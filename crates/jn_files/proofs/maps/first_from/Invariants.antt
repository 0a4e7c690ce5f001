use Rattle.jn_files.proofs.Common.{◌≡◌, ◌≤◌, true, ℕ, nat_lt, slice_index}
use Rattle.jn_files.proofs.maps.first_from.Given as goal

-- no address stands before
abbrev pub invariant-loop-k : goal.invariant-loop-k
invariant-loop-k l = (n : ℕ) → nat_lt 0 (slice_index l.row n) ≡ true → l.from ≤ n → l.k ≤ n

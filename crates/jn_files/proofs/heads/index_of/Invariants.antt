use Rattle.jn_files.proofs.Common.{◌≡◌, ◌<◌, ℕ, length, number_at, head_in, head_number}
use Rattle.jn_files.proofs.heads.index_of.Given as goal

abbrev pub invariant-loop-head : goal.invariant-loop-head
invariant-loop-head l = record {
  slots : length l.files.items ≡ l.head-index;
  seen : (k : ℕ) → k < l.head-index → number_at l.files.items k ≡ head_number (head_in l.slots k);
}

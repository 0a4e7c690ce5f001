use Rattle.jn_files.proofs.Common.{◌≡◌, ◌<◌, ◌≤◌, ℕ, true, length, count_of, is_free_number, head_in, is_free}
use Rattle.jn_files.proofs.load.free_heads.Given as goal

abbrev pub invariant-loop-slot : goal.invariant-loop-slot
invariant-loop-slot l = record {
  count : count_of l.free ≡ length l.slots;
  promised : l.free.promised ≡ 0;
  seen : (k : ℕ) → k < l.slot → is_free_number l.free k ≡ is_free (head_in l.slots k);
  rest : (k : ℕ) → l.slot ≤ k → k < length l.slots → is_free_number l.free k ≡ true;
}

use Rattle.jn_files.proofs.Common.{◌≡◌, ◌<◌, ℕ, true, false, length, slice_index_or}
use Rattle.jn_files.proofs.table.set_all.Given as goal

abbrev pub invariant-loop-i : goal.invariant-loop-i
invariant-loop-i l = record {
  so_many : length l.flags.items ≡ length l.fn.flags.items;
  set : (a : ℕ) → a < l.i → slice_index_or l.flags.items a false ≡ true;
}

use Rattle.std.proofs.Common.{◌≡◌, ◌<◌, ℕ, true, false, length}
use Rattle.std.specs.Prelude.{slice_index_or}
use Rattle.jn_alloc.proofs.all_free.Given as goal

abbrev pub invariant-loop : goal.invariant-loop
invariant-loop l = record {
  so_many : length l.flags.items ≡ l.counter;
  all_set : (a : ℕ) → a < l.counter → slice_index_or l.flags.items a false ≡ true;
}

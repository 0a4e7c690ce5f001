use Rattle.jn_index.proofs.Common.{◌≡◌, ℕ, None, length, count_by, number_at, is_none}
use Rattle.jn_index.proofs.no_numbers.Given as goal

abbrev pub invariant-loop : goal.invariant-loop
invariant-loop l = record {
  so_many : length l.numbers.items ≡ l.counter;
  none : (slot : ℕ) → number_at l.numbers.items slot ≡ None;
  count : count_by is_none l.numbers.items ≡ l.counter;
}

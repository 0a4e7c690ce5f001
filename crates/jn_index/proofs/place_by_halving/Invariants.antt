use Rattle.jn_index.proofs.Common.{◌-◌, ◌≡◌, ◌<◌, ◌≤◌, ℕ, true, false, length, is_before, entry_at}
use Rattle.jn_index.proofs.place_by_halving.Given as goal

abbrev pub invariant-loop-low : goal.invariant-loop-low
invariant-loop-low l = record {
  low_high : l.low ≤ l.high;
  high_end : l.high ≤ length l.entries;
  before : (i : ℕ) → i < l.low → is_before (entry_at l.entries i) l.sought ≡ true;
  after : (i : ℕ) → l.high ≤ i → i < length l.entries → is_before (entry_at l.entries i) l.sought ≡ false;
}

abbrev pub decreases-loop-low : goal.decreases-loop-low
decreases-loop-low l = l.high - l.low

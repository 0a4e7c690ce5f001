use Rattle.jn_sets.proofs.Common.{◌≡◌, ◌<◌, ◌≤◌, ◌-◌, ℕ, false, length, values_of, is_wanted, record_in}
use Rattle.jn_sets.proofs.by_slot.Slots.lowest.Given as goal

abbrev pub invariant-loop-slot : goal.invariant-loop-slot
invariant-loop-slot l = record {
  within : l.from ≤ length (values_of l.self-inside.index.entries);
  none_yet : (k : ℕ) → k < l.from → is_wanted l.wanted (record_in (values_of l.self-inside.index.entries) k) ≡ false;
}

abbrev pub decreases-loop-slot : goal.decreases-loop-slot
decreases-loop-slot l = length (values_of l.self-inside.index.entries) - l.from

use Rattle.jn_index.proofs.Common.{◌≡◌, ◌≤◌, length, vec_capacity, remove}
use Rattle.jn_index.proofs.Turning.{HasHole}
use Rattle.jn_index.proofs.move_up.Given as goal

abbrev pub invariant-loop-place : goal.invariant-loop-place
invariant-loop-place l = record {
  within : l.place ≤ l.fn.from;
  above : l.fn.to ≤ l.place;
  len : length l.entries.items ≡ length l.fn.entries.items;
  capacity : vec_capacity l.entries ≡ vec_capacity l.fn.entries;
  moved : HasHole l.entries.items (remove l.fn.entries.items l.fn.from) l.place;
}

abbrev pub decreases-loop-place : goal.decreases-loop-place
decreases-loop-place l = l.place

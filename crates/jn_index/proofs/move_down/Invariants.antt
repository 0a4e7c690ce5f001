use Rattle.jn_index.proofs.Common.{◌≡◌, length, vec_capacity, remove}
use Rattle.jn_index.proofs.Turning.{HasHole}
use Rattle.jn_index.proofs.move_down.Given as goal

abbrev pub invariant-loop-place : goal.invariant-loop-place
invariant-loop-place l = record {
  len : length l.entries.items ≡ length l.fn.entries.items;
  capacity : vec_capacity l.entries ≡ vec_capacity l.fn.entries;
  moved : HasHole l.entries.items (remove l.fn.entries.items l.fn.from) l.place;
}

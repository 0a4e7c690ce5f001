use Rattle.jn_image.proofs.Common.{◌≡◌, drop, no_times, all_maps_noted}
use Rattle.jn_image.proofs.written.named_maps.Given as goal

abbrev pub invariant-loop-head : goal.invariant-loop-head
invariant-loop-head l = all_maps_noted l.times.items (drop l.head-index l.heads) ≡ all_maps_noted (no_times l.leaves) l.heads

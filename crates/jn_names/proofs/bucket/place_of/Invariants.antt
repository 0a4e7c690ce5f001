use Rattle.std.proofs.Common.{◌≡◌, ◌≤◌, ◌+◌, ◌-◌, ◌*◌, length, option_map}
use Rattle.jn_names.specs.Buckets.{slots_front, places_in, place_of}
use Rattle.jn_names.proofs.bucket.place_of.Given as goal

-- the place in the rest is the place in all
abbrev pub invariant-loop-place : goal.invariant-loop-place
invariant-loop-place l = record {
  same : option_map (λ n. l.place + n) (place_of l.name (slots_front (6 - l.place) l.rest)) ≡ place_of l.name (places_in l.block);
  long : 34 + 69 * (6 - l.place) ≤ length l.rest;
}

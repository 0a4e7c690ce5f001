use Rattle.std.proofs.Common.{◌≡◌, ◌≤◌, ◌-◌, ◌*◌, length}
use Rattle.jn_names.specs.Buckets.{slots_front, find_in}
use Rattle.jn_names.proofs.place.find.Given as goal

-- what is found in the rest is found in all
abbrev pub invariant-loop : goal.invariant-loop
invariant-loop l = record {
  same : find_in l.name (slots_front (l.places - l.counter) l.rest) ≡ find_in l.name (slots_front l.places l.bytes);
  long : 69 * (l.places - l.counter) ≤ length l.rest;
  some : 1 ≤ length l.name;
}

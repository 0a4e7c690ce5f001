use Rattle.std.proofs.Common.{◌≡◌, ◌≤◌, ◌-◌, ◌*◌, ◌++◌, true, length}
use Rattle.jn_names.specs.Buckets.{slots_front, places_in}
use Rattle.jn_names.specs.Calls.{entries_of}
use Rattle.jn_names.specs.Places.{are_named}
use Rattle.jn_names.proofs.bucket.add_entries.Given as goal

-- the entries so far and those of the rest are all
abbrev pub invariant-loop : goal.invariant-loop
invariant-loop l = record {
  all : l.entries ++ entries_of (slots_front (6 - l.counter) l.rest) ≡ l.fn.entries ++ entries_of (places_in l.block);
  named : are_named (slots_front (6 - l.counter) l.rest) ≡ true;
  long : 69 * (6 - l.counter) ≤ length l.rest;
}

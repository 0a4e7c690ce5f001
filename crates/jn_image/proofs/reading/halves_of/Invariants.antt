use Rattle.jn_image.proofs.Common.{◌≡◌, ◌≤◌, ◌-◌, ◌*◌, ◌++◌, length, halves_in}
use Rattle.jn_image.proofs.reading.halves_of.Given as goal

-- the pages that were read and those still to be read are all
abbrev pub invariant-loop : goal.invariant-loop
invariant-loop l = record {
  enough : 513 * (l.count - l.counter) ≤ length l.rest;
  so_far : l.halves.items ++ halves_in (l.count - l.counter) l.rest ≡ halves_in l.count l.pages;
}

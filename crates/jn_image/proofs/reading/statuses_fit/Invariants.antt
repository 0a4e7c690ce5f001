use Rattle.jn_image.proofs.Common.{◌≡◌, ◌≤◌, ◌-◌, ◌*◌, length, statuses_fit}
use Rattle.jn_image.proofs.reading.statuses_fit.Given as goal

abbrev pub invariant-loop : goal.invariant-loop
invariant-loop l = record {
  enough : 513 * (l.count - l.counter) ≤ length l.rest;
  so_far : statuses_fit (l.count - l.counter) l.rest ≡ statuses_fit l.count l.pages;
}

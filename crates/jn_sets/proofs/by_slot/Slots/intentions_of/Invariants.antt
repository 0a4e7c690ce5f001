use Rattle.jn_sets.proofs.Common.{◌≡◌, ◌+◌, ◌<◌, ◌^◌, length, filter, count_by, not, intends_for, is_free}
use Rattle.jn_sets.proofs.by_slot.Slots.intentions_of.Given as goal

-- those so far, and those of the rest, are all; and how many records the rest has
abbrev pub invariant-loop-value : goal.invariant-loop-value
invariant-loop-value l = record {
  sum : l.count + length (filter (λ m. intends_for l.work m.1) l.value-iterator) ≡ count_by (intends_for l.work) l.self;
  few : count_by (intends_for l.work) l.self < 2 ^ 16;
  left : l.left ≡ length (filter (λ m. not (is_free m.1)) l.value-iterator);
}

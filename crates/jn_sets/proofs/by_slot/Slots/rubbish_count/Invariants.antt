use Rattle.jn_sets.proofs.Common.{◌≡◌, ◌+◌, ◌<◌, ◌^◌, length, filter, is_rubbish, rubbish_count}
use Rattle.jn_sets.proofs.by_slot.Slots.rubbish_count.Given as goal

-- those so far, and those of the rest, are all
abbrev pub invariant-loop-value : goal.invariant-loop-value
invariant-loop-value l = record {
  sum : l.count + length (filter (λ m. is_rubbish l.self m.1) l.value-iterator) ≡ rubbish_count l.self;
  few : rubbish_count l.self < 2 ^ 16;
}

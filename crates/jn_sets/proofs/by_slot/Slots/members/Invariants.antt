use Rattle.jn_sets.proofs.Common.{◌≡◌, ◌++◌, map, filter, not, is_free, members_of}
use Rattle.jn_sets.proofs.by_slot.Slots.members.Given as goal

-- the list so far, then what is left of the index, are all
abbrev pub invariant-loop-slot : goal.invariant-loop-slot
invariant-loop-slot l = map (λ m. (m.0, m.1.now)) l.list.items ++ filter (λ m. not (is_free m.1)) l.slot-iterator ≡ members_of l.self

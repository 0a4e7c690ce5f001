use Rattle.jn_sets.proofs.Common.{AreUsedTo}
use Rattle.jn_sets.proofs.sets.Sets.free_slot.Given as goal

abbrev pub invariant-loop-slot : goal.invariant-loop-slot
invariant-loop-slot l = AreUsedTo l.self l.slot

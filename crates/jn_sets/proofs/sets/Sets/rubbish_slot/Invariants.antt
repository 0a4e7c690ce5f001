use Rattle.jn_sets.proofs.Common.{AreCleanTo}
use Rattle.jn_sets.proofs.sets.Sets.rubbish_slot.Given as goal

abbrev pub invariant-loop-slot : goal.invariant-loop-slot
invariant-loop-slot l = AreCleanTo l.self l.slot

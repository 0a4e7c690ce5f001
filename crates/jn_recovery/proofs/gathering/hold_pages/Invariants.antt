use Rattle.jn_recovery.proofs.Common.{take, HoldsNamed}
use Rattle.jn_recovery.proofs.gathering.hold_pages.Given as goal

abbrev pub invariant-loop-slot : goal.invariant-loop-slot
invariant-loop-slot l = HoldsNamed l.fn.table (take l.slot l.sets) l.table

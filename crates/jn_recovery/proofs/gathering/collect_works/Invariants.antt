use Rattle.jn_recovery.proofs.Common.{◌≡◌, ◌++◌, drop, collected, state_on, works_on}
use Rattle.jn_recovery.proofs.gathering.collect_works.Given as goal

abbrev pub invariant-loop-slot : goal.invariant-loop-slot
invariant-loop-slot l = l.works.items ++ collected (state_on l.sets) (drop l.slot l.sets) ≡ works_on l.sets

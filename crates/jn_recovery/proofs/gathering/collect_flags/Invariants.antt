use Rattle.jn_recovery.proofs.Common.{◌≡◌, ◌++◌, drop, collected, flags_on, flag_on}
use Rattle.jn_recovery.proofs.gathering.collect_flags.Given as goal

abbrev pub invariant-loop-slot : goal.invariant-loop-slot
invariant-loop-slot l = l.flags.items ++ collected flag_on (drop l.slot l.sets) ≡ flags_on l.sets

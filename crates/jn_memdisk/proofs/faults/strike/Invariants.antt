use Rattle.std.proofs.Common.{◌≡◌, ◌-◌, vec_len, vec_capacity}
use Rattle.jn_memdisk.proofs.Strike.{Ticked}
use Rattle.jn_memdisk.proofs.faults.strike.Given as goal

abbrev pub invariant-loop-i : goal.invariant-loop-i
invariant-loop-i l = record { ticked : Ticked l.fn.waiting.items l.struck l.i l.waiting.items; capacity : vec_capacity l.waiting ≡ vec_capacity l.fn.waiting }

abbrev pub decreases-loop-i : goal.decreases-loop-i
decreases-loop-i l = vec_len l.waiting - l.i

use Rattle.jn_world.proofs.Common.{has_tid, ◌≡◌, ◌≤◌, length, take}
use Rattle.jn_world.proofs.named.is_in.Given as goal

abbrev pub invariant-loop-left : goal.invariant-loop-left
invariant-loop-left l = record { within : l.left ≤ length l.names; rest : has_tid (take l.left l.names) l.tid ≡ has_tid l.names l.tid }

abbrev pub decreases-loop-left : goal.decreases-loop-left
decreases-loop-left l = l.left

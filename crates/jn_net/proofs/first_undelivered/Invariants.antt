use Rattle.std.proofs.Common.{length, ◌-◌, ◌≤◌}
use Rattle.jn_net.specs.Cursor.{NoneWaits}
use Rattle.jn_net.proofs.first_undelivered.Given as goal

abbrev pub invariant-loop-at : goal.invariant-loop-at
invariant-loop-at l = (l.from ≤ l.at) × (l.at ≤ length l.sent) × NoneWaits l.from l.at l.sent

abbrev pub decreases-loop-at : goal.decreases-loop-at
decreases-loop-at l = length l.sent - l.at

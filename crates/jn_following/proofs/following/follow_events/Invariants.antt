use Rattle.std.proofs.Common.{◌↔◌, ◌+◌, drop}
use Rattle.jn_serial.specs.Follows.{FollowsFrom, nothing_asked}
use Rattle.jn_following.specs.Asked.{outstanding_of}
use Rattle.jn_following.proofs.following.follow_events.Given as goal

abbrev pub invariant-loop-i : goal.invariant-loop-i
invariant-loop-i l = FollowsFrom nothing_asked 1 l.events l.lines ↔ FollowsFrom (outstanding_of l.entries.items) (l.i + 1) (drop l.i l.events) l.lines

use Rattle.std.proofs.Common.{◌↔◌, drop}
use Rattle.jn_serial.specs.Follows.{AllOfEvents}
use Rattle.jn_following.proofs.following.all_of_events.Given as goal

abbrev pub invariant-loop-line : goal.invariant-loop-line
invariant-loop-line l = AllOfEvents l.count l.lines ↔ AllOfEvents l.count (drop l.line-index l.lines)

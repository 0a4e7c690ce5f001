use Rattle.std.proofs.Common.{◌↔◌, drop}
use Rattle.jn_serial.specs.Follows.{AllOwnInPlace}
use Rattle.jn_following.proofs.following.all_own_in_place.Given as goal

abbrev pub invariant-loop-line : goal.invariant-loop-line
invariant-loop-line l = AllOwnInPlace l.number l.event l.here ↔ AllOwnInPlace l.number l.event (drop l.line-index l.here)

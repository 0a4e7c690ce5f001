use Rattle.std.proofs.Common.{◌↔◌, drop, take}
use Rattle.jn_serial.specs.Caused.{Caused, CausedFrom}
use Rattle.jn_causing.proofs.causes.caused.Given as goal

abbrev pub invariant-loop-i : goal.invariant-loop-i
invariant-loop-i l = Caused l.events l.lines ↔ CausedFrom l.events (take l.i l.lines) (drop l.i l.lines)

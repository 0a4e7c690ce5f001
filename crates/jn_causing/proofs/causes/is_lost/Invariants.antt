use Rattle.std.proofs.Common.{◌≡◌, ◌+◌, drop}
use Rattle.jn_serial.specs.Caused.{any_event, loses}
use Rattle.jn_causing.proofs.causes.is_lost.Given as goal

abbrev pub invariant-loop-i : goal.invariant-loop-i
invariant-loop-i l = any_event (loses l.client l.t l.server l.lines) 1 l.events ≡ any_event (loses l.client l.t l.server l.lines) (l.i + 1) (drop l.i l.events)

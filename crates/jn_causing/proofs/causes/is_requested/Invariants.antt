use Rattle.std.proofs.Common.{◌≡◌, ◌+◌, drop}
use Rattle.jn_serial.specs.Caused.{any_event, asks}
use Rattle.jn_causing.proofs.causes.is_requested.Given as goal

abbrev pub invariant-loop-i : goal.invariant-loop-i
invariant-loop-i l = any_event (asks l.client l.t l.lines l.when) 1 l.events ≡ any_event (asks l.client l.t l.lines l.when) (l.i + 1) (drop l.i l.events)

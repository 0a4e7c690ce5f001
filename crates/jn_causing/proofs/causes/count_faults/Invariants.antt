use Rattle.std.proofs.Common.{◌≡◌, ◌+◌, ◌≤◌, drop}
use Rattle.jn_serial.specs.Caused.{count_events, gives_fault}
use Rattle.jn_causing.proofs.causes.count_faults.Given as goal

abbrev pub invariant-loop-i : goal.invariant-loop-i
invariant-loop-i l = record {
  counted : l.count + count_events (gives_fault l.server l.lines l.when) (l.i + 1) (drop l.i l.events) ≡ count_events (gives_fault l.server l.lines l.when) 1 l.events;
  few : l.count ≤ l.i;
}

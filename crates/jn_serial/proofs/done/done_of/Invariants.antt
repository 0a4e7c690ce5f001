use Rattle.jn_serial.proofs.Common.{◌≡◌, ◌+◌, ◌++◌, drop, done_from, done_of}
use Rattle.jn_serial.proofs.done.done_of.Given as goal

abbrev pub invariant-loop-i : goal.invariant-loop-i
invariant-loop-i l = l.done.items ++ done_from l.t l.lines (l.i + 1) (drop l.i l.events) ≡ done_of l.events l.lines l.t

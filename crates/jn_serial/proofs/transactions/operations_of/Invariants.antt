use Rattle.jn_serial.proofs.Common.{◌≡◌, ◌+◌, ◌++◌, drop, operations_from, operations_of}
use Rattle.jn_serial.proofs.transactions.operations_of.Given as goal

abbrev pub invariant-loop-i : goal.invariant-loop-i
invariant-loop-i l = l.performed.items ++ operations_from l.t l.lines (l.i + 1) (drop l.i l.events) ≡ operations_of l.events l.lines l.t

use Rattle.jn_serial.proofs.Common.{◌↔◌, drop, NamesOnce}
use Rattle.jn_serial.proofs.outcomes.names_once.Given as goal

abbrev pub invariant-loop-i : goal.invariant-loop-i
invariant-loop-i l = NamesOnce l.named ↔ NamesOnce (drop l.i l.named)

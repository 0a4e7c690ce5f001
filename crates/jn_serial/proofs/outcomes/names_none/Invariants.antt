use Rattle.jn_serial.proofs.Common.{◌↔◌, drop, NamesNone}
use Rattle.jn_serial.proofs.outcomes.names_none.Given as goal

abbrev pub invariant-loop-line : goal.invariant-loop-line
invariant-loop-line l = NamesNone l.named l.lines ↔ NamesNone l.named (drop l.line-index l.lines)

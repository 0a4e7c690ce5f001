use Rattle.jn_serial.proofs.Common.{◌↔◌, [], drop, NamesBefore}
use Rattle.jn_serial.proofs.outcomes.names_before.Given as goal

abbrev pub invariant-loop-line : goal.invariant-loop-line
invariant-loop-line l = NamesBefore [] l.lines ↔ NamesBefore l.named.items (drop l.line-index l.lines)

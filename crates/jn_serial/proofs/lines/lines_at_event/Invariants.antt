use Rattle.jn_serial.proofs.Common.{◌≡◌, ◌++◌, drop, AtEvent, lines_at}
use Rattle.jn_serial.proofs.lines.lines_at_event.Given as goal

abbrev pub invariant-loop-line : goal.invariant-loop-line
invariant-loop-line l = l.here.items ++ lines_at (AtEvent l.number) (drop l.line-index l.lines) ≡ lines_at (AtEvent l.number) l.lines

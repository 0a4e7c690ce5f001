use Rattle.jn_serial.proofs.Common.{◌≡◌, ◌++◌, drop, AtEvent, lines_before}
use Rattle.jn_serial.proofs.lines.lines_before_event.Given as goal

abbrev pub invariant-loop-line : goal.invariant-loop-line
invariant-loop-line l = l.before.items ++ lines_before (AtEvent l.number) (drop l.line-index l.lines) ≡ lines_before (AtEvent l.number) l.lines

use Rattle.jn_serial.proofs.Common.{◌≡◌, ◌++◌, drop, End, lines_at}
use Rattle.jn_serial.proofs.lines.lines_at_end.Given as goal

abbrev pub invariant-loop-line : goal.invariant-loop-line
invariant-loop-line l = l.here.items ++ lines_at End (drop l.line-index l.lines) ≡ lines_at End l.lines

use Rattle.jn_serial.proofs.Common.{◌≡◌, ◌++◌, drop, history_of}
use Rattle.jn_serial.proofs.lines.history.Given as goal

abbrev pub invariant-loop-line : goal.invariant-loop-line
invariant-loop-line l = l.named.items ++ history_of (drop l.line-index l.lines) ≡ history_of l.lines

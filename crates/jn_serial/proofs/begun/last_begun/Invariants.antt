use Rattle.jn_serial.proofs.Common.{◌≡◌, drop, AtEvent, lines_before, begun_then, last_begun}
use Rattle.jn_serial.proofs.begun.last_begun.Given as goal

abbrev pub invariant-loop-line : goal.invariant-loop-line
invariant-loop-line l = begun_then l.client l.now (lines_before (AtEvent l.number) (drop l.line-index l.lines)) ≡ last_begun l.client (lines_before (AtEvent l.number) l.lines)

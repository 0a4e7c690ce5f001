use Rattle.jn_serial.proofs.Common.{◌≡◌, drop, first_answer_told}
use Rattle.jn_serial.proofs.transactions.first_answer_told.Given as goal

abbrev pub invariant-loop-line : goal.invariant-loop-line
invariant-loop-line l = first_answer_told l.client l.number (drop l.line-index l.lines) ≡ first_answer_told l.client l.number l.lines

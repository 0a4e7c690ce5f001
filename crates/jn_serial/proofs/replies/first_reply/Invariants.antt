use Rattle.jn_serial.proofs.Common.{◌≡◌, [], drop, first_reply}
use Rattle.jn_serial.proofs.replies.first_reply.Given as goal

abbrev pub invariant-loop-line : goal.invariant-loop-line
invariant-loop-line l = first_reply l.wish l.client l.number l.listed (drop l.line-index l.lines) ≡ first_reply l.wish l.client l.number [] l.lines

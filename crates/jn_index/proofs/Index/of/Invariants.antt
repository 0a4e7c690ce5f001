use Rattle.jn_index.proofs.Taking.{HasTaken}
use Rattle.jn_index.proofs.Index.of.Given as goal

abbrev pub invariant-loop-i : goal.invariant-loop-i
invariant-loop-i l = HasTaken l.numbers l.order.items l.i l.index

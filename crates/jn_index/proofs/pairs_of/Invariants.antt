use Rattle.jn_index.proofs.Taking.{AreOfFirst}
use Rattle.jn_index.proofs.pairs_of.Given as goal

abbrev pub invariant-loop-slot : goal.invariant-loop-slot
invariant-loop-slot l = AreOfFirst l.numbers l.slot l.pairs.items

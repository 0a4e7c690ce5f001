use Rattle.jn_alloc.specs.Free.{IsBelowAll}
use Rattle.jn_alloc.proofs.next_set.Given as goal

abbrev pub invariant-loop-a : goal.invariant-loop-a
invariant-loop-a l = IsBelowAll l.flags l.a

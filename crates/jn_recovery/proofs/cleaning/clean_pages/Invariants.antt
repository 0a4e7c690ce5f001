use Rattle.jn_recovery.proofs.Common.{Cleans}
use Rattle.jn_recovery.proofs.cleaning.clean_pages.Given as goal

abbrev pub invariant-loop-i : goal.invariant-loop-i
invariant-loop-i g l = Cleans (g.S.StableStore.view l.fn.store) l.fn.from l.i (g.S.StableStore.view l.store)

use Rattle.jn_careful.proofs.Get.{Looking}
use Rattle.jn_careful.proofs.Careful.compare.Given as goal

abbrev pub invariant-loop-try : goal.invariant-loop-try
invariant-loop-try g l = Looking (g.D.PhysDisk.state l.fn.self) l.fn.p l._try (g.D.PhysDisk.state l.self-inside.disk)

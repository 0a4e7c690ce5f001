use Rattle.jn_careful.proofs.Put.{Putting}
use Rattle.jn_careful.proofs.Careful.put.Given as goal

abbrev pub invariant-loop-try : goal.invariant-loop-try
invariant-loop-try g l = Putting (g.D.PhysDisk.state l.fn.self) l.fn.p l.page l._try (g.D.PhysDisk.state l.self-inside.disk)

use Rattle.std.proofs.Common.{◌≡◌}
use Rattle.jn_careful.proofs.Get.{Looking}
use Rattle.jn_careful.proofs.Careful.get.Given as goal

abbrev pub invariant-loop-try : goal.invariant-loop-try
invariant-loop-try g l = record {
  looking : Looking (g.D.PhysDisk.state l.fn.self) l.fn.p l._try (g.D.PhysDisk.state l.self-inside.disk);
  kept : l.into ≡ l.fn.into;
}

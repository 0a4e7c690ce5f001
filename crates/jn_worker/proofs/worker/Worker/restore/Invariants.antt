use Rattle.jn_worker.proofs.Common.{take, RestoredTo}
use Rattle.jn_worker.proofs.worker.Worker.restore.Given as goal

abbrev pub invariant-loop-i : goal.invariant-loop-i
invariant-loop-i g l = RestoredTo (g.W.Storage.view l.store) (take l.i l.names.items) l.worker

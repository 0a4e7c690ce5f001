use Rattle.std.proofs.Common.{arith}
use Rattle.jn_worker.proofs.Again.{again_all}
use Rattle.jn_worker.proofs.worker.Worker.again.Goals as goal

pub returns : goal.returns
returns c = again_all _ _ _ _ _ _ c.self.view_is (omega arith) c.loop-work.invariant.notes c.loop-work.invariant.messages

use Rattle.jn_worker.proofs.Common.{Memory}
use Rattle.jn_worker.proofs.Exits.{handed_on, nothing_done}
use Rattle.jn_worker.proofs.worker.Worker.refuse_operation.Goals as goal

pub returns-in_err-send : goal.returns-in_err-send
returns-in_err-send c = record { takes = λ v number op fits. nothing_done _ _ _ _ v _ _ _ _ (handed_on _ Memory c.from_residual.ensures) fits.serving }

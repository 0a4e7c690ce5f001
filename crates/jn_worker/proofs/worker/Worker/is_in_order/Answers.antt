use Rattle.jn_worker.proofs.Common.{◌≡◌, true, subst, are_rising, WorkerView}
use Rattle.jn_worker.proofs.worker.Worker.is_in_order.Goals as goal

pub returns : goal.returns
returns c = subst (λ (t : WorkerView). are_rising t.table ≡ true) c.self.view_is c.self.invariant.rising

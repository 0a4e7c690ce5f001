use Rattle.std.proofs.Common.{◌≡◌, [], take}
use Rattle.jn_rows.specs.Coordinator.{prepares}
use Rattle.jn_transactions.specs.Telling.{added}
use Rattle.jn_transactions.proofs.sending.send_prepares.Given as goal

abbrev pub invariant-loop-work : goal.invariant-loop-work
invariant-loop-work l = l.out ≡ added l.fn.out (prepares l.tid l.client (take l.work-index l.works)) []

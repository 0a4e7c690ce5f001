use Rattle.std.proofs.Common.{◌≡◌, [], take}
use Rattle.jn_rows.specs.Coordinator.{commits}
use Rattle.jn_transactions.specs.Telling.{added}
use Rattle.jn_transactions.proofs.sending.send_commits.Given as goal

abbrev pub invariant-loop-work : goal.invariant-loop-work
invariant-loop-work l = l.out ≡ added l.fn.out (commits l.tid (take l.work-index l.works)) []

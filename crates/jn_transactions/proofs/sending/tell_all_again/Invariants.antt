use Rattle.std.proofs.Common.{◌≡◌, [], take}
use Rattle.jn_rows.specs.Coordinator.{coordinator_again}
use Rattle.jn_transactions.specs.Telling.{added}
use Rattle.jn_transactions.proofs.sending.tell_all_again.Given as goal

abbrev pub invariant-loop-x : goal.invariant-loop-x
invariant-loop-x l = l.out ≡ added l.fn.out (coordinator_again (take l.x-index l.transactions)) []

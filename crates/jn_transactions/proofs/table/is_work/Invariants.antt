use Rattle.std.proofs.Common.{◌≡◌, drop}
use Rattle.jn_rows.specs.Coordinator.{is_work}
use Rattle.jn_transactions.proofs.table.is_work.Given as goal

abbrev pub invariant-loop-other : goal.invariant-loop-other
invariant-loop-other l = is_work l.work (drop l.other-index l.works) ≡ is_work l.work l.works

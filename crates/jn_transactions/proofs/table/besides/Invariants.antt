use Rattle.std.proofs.Common.{◌≡◌, ◌++◌, drop}
use Rattle.jn_rows.specs.Coordinator.{besides}
use Rattle.jn_transactions.proofs.table.besides.Given as goal

abbrev pub invariant-loop-work : goal.invariant-loop-work
invariant-loop-work l = l.left.items ++ besides (drop l.work-index l.works) l.others ≡ besides l.works l.others

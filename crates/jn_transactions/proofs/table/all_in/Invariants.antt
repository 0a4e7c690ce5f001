use Rattle.std.proofs.Common.{◌≡◌, drop}
use Rattle.jn_rows.specs.Coordinator.{all_in}
use Rattle.jn_transactions.proofs.table.all_in.Given as goal

abbrev pub invariant-loop-work : goal.invariant-loop-work
invariant-loop-work l = all_in (drop l.work-index l.works) l.others ≡ all_in l.works l.others

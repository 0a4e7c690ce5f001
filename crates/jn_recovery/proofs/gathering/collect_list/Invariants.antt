use Rattle.jn_recovery.proofs.Common.{◌≡◌, ◌++◌, ◌-◌, intentions_from, stored_list}
use Rattle.jn_recovery.proofs.gathering.collect_list.Given as goal

abbrev pub invariant-loop-order : goal.invariant-loop-order
invariant-loop-order l = l.list.items ++ intentions_from l.sets l.work l.order (l.count - l.order) ≡ stored_list l.sets l.work l.count

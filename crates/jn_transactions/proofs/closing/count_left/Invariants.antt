use Rattle.std.proofs.Common.{◌≡◌, ◌≤◌, ◌+◌, drop}
use Rattle.jn_transactions.specs.Closing.{count_left}
use Rattle.jn_transactions.proofs.closing.count_left.Given as goal

abbrev pub invariant-loop-x : goal.invariant-loop-x
invariant-loop-x l = (l.left + count_left l.client (drop l.x-index l.transactions) ≡ count_left l.client l.transactions) × (l.left ≤ l.x-index)

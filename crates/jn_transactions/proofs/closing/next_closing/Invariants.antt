use Rattle.std.proofs.Common.{◌≡◌, drop}
use Rattle.jn_transactions.specs.Closing.{next_closing}
use Rattle.jn_transactions.proofs.closing.next_closing.Given as goal

abbrev pub invariant-loop-x : goal.invariant-loop-x
invariant-loop-x l = next_closing l.who (drop l.x-index l.transactions) ≡ next_closing l.who l.transactions

use Rattle.std.proofs.Common.{◌≡◌, drop}
use Rattle.jn_rows.specs.Coordinator.{transaction_at}
use Rattle.jn_transactions.proofs.table.find.Given as goal

abbrev pub invariant-loop-transaction : goal.invariant-loop-transaction
invariant-loop-transaction l = transaction_at l.tid (drop l.transaction-index l.transactions) ≡ transaction_at l.tid l.transactions

use Rattle.std.proofs.Common.{◌≡◌, drop}
use Rattle.jn_transactions.specs.Listed.{transaction_place}
use Rattle.jn_transactions.proofs.Tables.{place_from}
use Rattle.jn_transactions.proofs.table.transaction_place.Given as goal

abbrev pub invariant-loop-i : goal.invariant-loop-i
invariant-loop-i l = place_from l.i l.tid (drop l.i l.transactions) ≡ transaction_place l.tid l.transactions

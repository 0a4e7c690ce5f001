use Rattle.jn_place.proofs.Common.{◌≡◌, ◌++◌, drop, map, Transaction}
use Rattle.jn_place.proofs.place.names_of.Given as goal

abbrev pub invariant-loop-transaction : goal.invariant-loop-transaction
invariant-loop-transaction l = l.names.items ++ map (λ (t : Transaction). t.tid) (drop l.transaction-index l.transactions) ≡ map (λ (t : Transaction). t.tid) l.transactions

use Rattle.std.proofs.Common.{◌≡◌, drop}
use Rattle.jn_rows.specs.Coordinator.{begun_by}
use Rattle.jn_transactions.proofs.closing.begun_by.Given as goal

abbrev pub invariant-loop-x : goal.invariant-loop-x
invariant-loop-x l = begun_by l.client l.request (drop l.x-index l.transactions) ≡ begun_by l.client l.request l.transactions

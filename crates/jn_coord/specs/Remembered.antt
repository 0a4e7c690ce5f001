-- What a coordinator remembers.
use Rattle.std.specs.Prelude.{ℕ, Bool, true, ◌&&◌, List, [], ◌∷◌, slice_index_or}
use Rattle.jn_base.specs.declared.names.ClientNo.{ClientNo}
use Rattle.jn_base.specs.declared.names.Tid.{Tid}
use Rattle.jn_rows.specs.declared.coordinator.Transaction.{Transaction}
use Rattle.jn_rows.specs.Coordinator.{CoordinatorTable}
use Rattle.jn_transactions.specs.Listed.{name_below}

-- its live transactions, and the number of the greatest request that it has seen of each client, by the client's number
pub record Remembered : Type 0 where
  pub transactions : List Transaction
  pub requests : List ℕ

abbrev pub seen_by : List ℕ → ClientNo → ℕ
seen_by requests c = slice_index_or requests c.0 0

abbrev pub table_of : Remembered → CoordinatorTable
table_of r = record { transactions = r.transactions; seen = seen_by r.requests }

-- ---- order

abbrev pub are_above : Tid → List Transaction → Bool
are_above T [] = true
are_above T (x ∷ xs) = name_below T x.tid && are_above T xs

abbrev pub rises : List Transaction → Bool
rises [] = true
rises (x ∷ xs) = are_above x.tid xs && rises xs

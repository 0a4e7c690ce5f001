-- What a new transaction of a client does.
use Rattle.std.specs.Prelude.{◌≡◌, ℕ, Bool, true, ◌&&◌, List, [], ◌∷◌, ◌++◌, Some, slice_set}
use Rattle.jn_base.specs.declared.names.RequestNo.{RequestNo}
use Rattle.jn_base.specs.declared.names.ClientNo.{ClientNo}
use Rattle.jn_base.specs.declared.names.Tid.{Tid}
use Rattle.jn_base.specs.declared.names.Tickets.{Tickets}
use Rattle.jn_rows.specs.declared.coordinator.Transaction.{Transaction}
use Rattle.jn_rows.specs.declared.coordinator.Stage.TheVariants.{Open}
use Rattle.jn_rows.specs.Coordinator.{name_from}
use Rattle.jn_storage.specs.Storage.{StorageView}
use Rattle.jn_storage.specs.Calls.{state}
use Rattle.jn_transactions.specs.Listed.{name_below}
use Rattle.jn_coord.specs.Remembered.{Remembered}

-- each name comes before this one
abbrev pub are_before : List Transaction → Tid → Bool
are_before [] T = true
are_before (x ∷ xs) T = name_below x.tid T && are_before xs T

-- the next name is of this epoch of the server, and comes after all that are live
pub record TicketsFit (r : Remembered) (v : StorageView) (k : Tickets) : Type 0 where
  pub server : k.server ≡ v.accounts.server
  pub epoch : k.epoch ≡ (state v).epoch
  pub after : are_before r.transactions (name_from k) ≡ true

abbrev pub new_transaction : ClientNo → RequestNo → Tid → Transaction
new_transaction c request T = record { tid = T; client = c; begun = Some request; stage = Open }

-- a client's request is the greatest that was seen
abbrev pub with_request : Remembered → ClientNo → RequestNo → Remembered
with_request r c request = record r { requests = slice_set r.requests c.0 request.0 }

abbrev pub with_begun : Remembered → ClientNo → RequestNo → Tid → Remembered
with_begun r c request T = record { transactions = r.transactions ++ new_transaction c request T ∷ []; requests = slice_set r.requests c.0 request.0 }

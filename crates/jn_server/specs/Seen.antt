-- What is seen of a server.
use Rattle.jn_base.specs.declared.names.Tickets.{Tickets}
use Rattle.jn_store.specs.Store.{StoreView}
use Rattle.jn_storage.specs.Storage.{StorageView}
use Rattle.jn_recovery.specs.Memory.{Memory as Kept, view_of}
use Rattle.jn_worker.specs.Fitting.{WorkerView, seen, Fits as WorkerFits, TicketsFit as WorkerTickets}
use Rattle.jn_coord.specs.Remembered.{Remembered, table_of}
use Rattle.jn_coord.specs.Calls.{FitsStorage as CoordinatorFits}
use Rattle.jn_coord.specs.Beginning.{TicketsFit as CoordinatorTickets}
use Rattle.jn_system.specs.WholeSystem.World.{Memory}
use Rattle.jn_system.specs.WholeSystem.Servers.{Room}

-- its storage with what that keeps in memory, its tables, and its next name
pub record Parts (S : Type 0) : Type 0 where
  pub storage : S × Kept
  pub worker : WorkerView
  pub coordinator : Remembered
  pub tickets : Tickets

pub record ServerView : Type 0 where
  pub storage : StorageView
  pub worker : WorkerView
  pub coordinator : Remembered
  pub tickets : Tickets

abbrev pub view_with : {S : Type 0} → (S → StoreView) → Parts S → ServerView
view_with look p = record { storage = view_of p.storage.1 (look p.storage.0); worker = p.worker; coordinator = p.coordinator; tickets = p.tickets }

-- what it remembers, as the whole system has it
abbrev pub memory_of : ServerView → Memory
memory_of v = record { worker = v.worker.table; coordinator = table_of v.coordinator; tickets = v.tickets; next = v.storage.accounts.next }

-- what its storage says of itself at a step
abbrev pub room_of : StorageView → Room
room_of v = let s = seen v in record { free = s.free; maps = s.maps; rubbish = s.rubbish }

-- between two calls, none of which was stopped: tables, storage and names fit
pub record IsServer (v : ServerView) : Type 0 where
  pub works : WorkerFits v.worker v.storage
  pub transactions : CoordinatorFits v.coordinator v.storage
  pub works_before : WorkerTickets v.worker.table v.storage v.tickets
  pub transactions_before : CoordinatorTickets v.coordinator v.storage v.tickets

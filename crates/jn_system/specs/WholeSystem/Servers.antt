-- What a server does, as one row over both its tables.
use Rattle.std.specs.Prelude.{ℕ, ◌+◌, Bool, true, false, if◌then◌else◌, List, [], ◌∷◌, ◌++◌, Option, Some, None, is_some}
use Rattle.jn_base.specs.declared.names.ServerNo.{ServerNo}
use Rattle.jn_base.specs.declared.names.Tid.{Tid}
use Rattle.jn_base.specs.declared.names.WorkId.{WorkId}
use Rattle.jn_records.specs.declared.net_list.Need.{Need}
use Rattle.jn_records.specs.MapPlaces.{MapPlaces}
use Rattle.jn_msgs.specs.declared.message.Message.{Message}
use Rattle.jn_msgs.specs.declared.message.Message.TheVariants as messages
use Rattle.jn_msgs.specs.declared.message.Note.{Note}
use Rattle.jn_msgs.specs.declared.message.Note.TheVariants as notes
use Rattle.jn_report.specs.declared.line.Text.{Text}
use Rattle.jn_report.specs.declared.line.Text.TheVariants as says
use Rattle.jn_rows.specs.Stable.{StableState, next_after}
use Rattle.jn_rows.specs.Outcomes.{RowOutcome, Sent}
use Rattle.jn_rows.specs.Worker.{WorkerTable, WorkStorage, worker_row, worker_step, worker_again, timeout_row, restored_worker, going_work}
use Rattle.jn_rows.specs.Coordinator.{CoordinatorTable, coordinator_row, coordinator_again, restored_coordinator}
use Rattle.jn_system.specs.WholeSystem.World.{Memory, has_line}

-- What a storage says of itself at a step: what is free and not promised, which map pages there are, whether a record is rubbish.
-- Nothing is said of these here, so whatever holds of all runs holds for any of them.
pub record Room : Type 0 where
  pub free : Need
  pub maps : MapPlaces
  pub rubbish : Bool

abbrev pub storage_of : Memory → StableState → Room → WorkStorage
storage_of m x room = record { state = x; free = room.free; maps = room.maps; next = m.next; rubbish = room.rubbish }

-- ---- the rows of one table as rows of both

abbrev pub of_worker : Memory → RowOutcome WorkerTable → RowOutcome Memory
of_worker m row = record {
  table = record m { worker = row.table; tickets = row.tickets; next = next_after row.changes m.next };
  changes = row.changes;
  messages = row.messages;
  notes = row.notes;
  tickets = row.tickets;
}

abbrev pub of_coordinator : Memory → RowOutcome CoordinatorTable → RowOutcome Memory
of_coordinator m row = record {
  table = record m { coordinator = row.table; tickets = row.tickets };
  changes = row.changes;
  messages = row.messages;
  notes = row.notes;
  tickets = row.tickets;
}

-- ---- with a message

abbrev pub is_for_worker : Message → Bool
is_for_worker (messages.Open c request T) = true
is_for_worker (messages.Op c request W number op) = true
is_for_worker (messages.Prepare T c W) = true
is_for_worker (messages.Commit T W) = true
is_for_worker (messages.Drop T W) = true
is_for_worker message = false

-- what a server with this memory and this stable state does with a message
abbrev pub server_row : Memory → StableState → Room → Message → RowOutcome Memory
server_row m x room message = if is_for_worker message
    then of_worker m (worker_row m.worker (storage_of m x room) m.tickets message)
    else of_coordinator m (coordinator_row m.coordinator room.free.records m.tickets message)

-- ---- without one

abbrev pub of_step : Memory → Option (RowOutcome WorkerTable) → Option (RowOutcome Memory)
of_step m None = None
of_step m (Some row) = Some (of_worker m row)

-- one background step, if there is something to do
abbrev pub server_step : Memory → StableState → Room → Option (RowOutcome Memory)
server_step m x room = of_step m (worker_step m.worker (storage_of m x room) m.tickets)

-- what still waits for an answer is sent again
abbrev pub server_again : Memory → StableState → List Sent
server_again m x = worker_again x m.worker ++ coordinator_again m.coordinator.transactions

abbrev pub of_timeout : Memory → Option WorkerTable → Memory
of_timeout m None = m
of_timeout m (Some t) = record m { worker = t }

-- the transaction's work may be broken from now on
abbrev pub server_timeout : Memory → Tid → Memory
server_timeout m T = of_timeout m (timeout_row m.worker T)

-- ---- after a restart

-- It has the works and flags of this state, whose names these are. All else is forgotten.
abbrev pub restored : ServerNo → StableState → List WorkId → List Tid → Memory
restored s x works tids = record {
  worker = restored_worker x works;
  coordinator = restored_coordinator x tids;
  tickets = record { server = s; epoch = x.epoch + 1; next = 0 };
  next = λ W. 0;
}

-- ---- lines

-- what a note of a server's step says, while this message was handed over
abbrev pub line_of : ServerNo → Option ℕ → Note → List Text
line_of s message (notes.Commit T) = says.Commit T ∷ []
line_of s message (notes.Broke T u by) = says.Broke s T u by ∷ []
line_of s (Some k) notes.Ignored = says.Ignored k ∷ []
line_of s None notes.Ignored = []

abbrev pub lines_of : ServerNo → Option ℕ → List Note → List Text
lines_of s message [] = []
lines_of s message (note ∷ notes) = line_of s message note ++ lines_of s message notes

-- a restart names each transaction whose flag it found and that has no line yet
abbrev pub named_now : List Tid → List Text → List Text
named_now [] lines = []
named_now (T ∷ Ts) lines = if has_line T lines then named_now Ts lines else says.Commit T ∷ named_now Ts lines

-- A server that is up has something to do where one of its works goes. Erasing a rubbish record changes nothing that is stable.
abbrev pub is_busy : StableState → Option Memory → Bool
is_busy x None = false
is_busy x (Some m) = is_some (going_work x m.worker)

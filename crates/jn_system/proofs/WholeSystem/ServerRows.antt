-- A server's row is its worker's or its coordinator's, and what it does without a message is a step of its worker.
use Rattle.jn_system.proofs.Common.{◌≡◌, Bool, true, false, Option, Some, None, refl, subst, arith, if◌then◌else◌, Message, StableState, RowOutcome, WorkerTable, worker_row, worker_step, coordinator_row, Memory, Room, storage_of, is_for_worker, of_worker, of_coordinator, of_step, server_row, server_step}

-- what holds of both rows
pub row-either : (P : RowOutcome Memory → Type 0) (m : Memory) (x : StableState) (room : Room) (message : Message) → P (of_worker m (worker_row m.worker (storage_of m x room) m.tickets message))
    → P (of_coordinator m (coordinator_row m.coordinator room.free.records m.tickets message)) → P (server_row m x room message)
row-either P m x room message worker coordinator = by (is_for_worker message)
  where
    by : (b : Bool) → P (if b then of_worker m (worker_row m.worker (storage_of m x room) m.tickets message) else of_coordinator m (coordinator_row m.coordinator room.free.records m.tickets message))
    by true = worker
    by false = coordinator

pub row-of-step : (P : RowOutcome Memory → Type 0) (m : Memory) (x : StableState) (room : Room) (row : RowOutcome Memory) → server_step m x room ≡ Some row
    → ((step : RowOutcome WorkerTable) → worker_step m.worker (storage_of m x room) m.tickets ≡ Some step → P (of_worker m step)) → P row
row-of-step P m x room row is h = by (worker_step m.worker (storage_of m x room) m.tickets) refl is
  where
    some : (a b : RowOutcome Memory) → Some a ≡ Some b → a ≡ b
    some a b e = cc

    by : (o : Option (RowOutcome WorkerTable)) → worker_step m.worker (storage_of m x room) m.tickets ≡ o → of_step m o ≡ Some row → P row
    by None e q = absurd (grind arith)
    by (Some step) e q = subst P (some (of_worker m step) row q) (h step e)

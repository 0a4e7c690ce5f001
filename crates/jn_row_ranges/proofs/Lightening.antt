-- Which messages draw a name, and how much a row leaves to do.
use Rattle.jn_row_ranges.proofs.Common.{◌≡◌, ◌≤◌, ℕ, true, false, Some, true≢false, refl, sym, subst, arith, ◌+◌, Tickets, Message, is_small, weight, StableState, RowOutcome, WorkerTable, WorkStorage, worker_row, CoordinatorTable, coordinator_row, Memory, Room, storage_of, server_row, server_step, of_worker, of_coordinator, WorkerCase, opens_anew, worker-case, CoordinatorCase, begins_anew, coordinator-case, draws, HasSizes, weigh_all, goings, Lightens}
use Rattle.jn_system.proofs.WholeSystem.CoordinatorRows.{flags-all, coordinator-aside}
use Rattle.jn_system.proofs.WholeSystem.ServerRows.{row-either, row-of-step}
use Rattle.jn_row_ranges.proofs.WorkerFits.{worker-fits, step-fits}
use Rattle.jn_row_ranges.proofs.CoordinatorFits.{coordinator-fits}

-- ---- names

worker-draws : (t : WorkerTable) (s : WorkStorage) (k : Tickets) (m : Message) → draws m ≡ false → (worker_row t s k m).tickets ≡ k
worker-draws t s k m none = by m (worker_row t s k m) none (worker-case t s k m)
  where
    by : (m : Message) (row : RowOutcome WorkerTable) → draws m ≡ false → WorkerCase t s k m row → row.tickets ≡ k
    by _ _ h (opens_anew c q T none room) = absurd (true≢false h)
    by _ _ h _ = refl

coordinator-draws : (t : CoordinatorTable) (k : Tickets) (free : ℕ) (m : Message) → draws m ≡ false → (coordinator_row t free k m).tickets ≡ k
coordinator-draws t k free m none = by m (coordinator_row t free k m) none (coordinator-case t free k m)
  where
    by : (m : Message) (row : RowOutcome CoordinatorTable) → draws m ≡ false → CoordinatorCase t free k m row → row.tickets ≡ k
    by _ _ h (begins_anew c q later room) = absurd (true≢false h)
    by _ _ h _ = refl

pub only-beginnings : (m : Memory) (x : StableState) (room : Room) (message : Message) → draws message ≡ false → (server_row m x room message).table.tickets ≡ m.tickets
only-beginnings m x room message none = row-either (λ row. row.table.tickets ≡ m.tickets) m x room message
    (worker-draws m.worker (storage_of m x room) m.tickets message none) (coordinator-draws m.coordinator m.tickets room.free.records message none)

-- ---- what is left

pub row-lightens : (m : Memory) (x : StableState) (room : Room) (message : Message) → HasSizes 8 m x → is_small 8 message ≡ true → Lightens 1 (weight message) m x (server_row m x room message)
row-lightens m x room message sizes small = row-either (Lightens 1 (weight message) m x) m x room message by-worker by-coordinator
  where
    by-worker : Lightens 1 (weight message) m x (of_worker m (worker_row m.worker (storage_of m x room) m.tickets message))
    by-worker = let fits = worker-fits (storage_of m x room) m.tickets m.worker message sizes.orderly sizes.works in fits.goes

    by-coordinator : Lightens 1 (weight message) m x (of_coordinator m (coordinator_row m.coordinator room.free.records m.tickets message))
    by-coordinator = let fits = coordinator-fits 8 (omega arith) x m.coordinator m.tickets sizes.transactions sizes.stages sizes.flags room.free.records message small in
        let aside = coordinator-aside m.coordinator room.free.records m.tickets message in let light = fits.sent in
        subst (λ f. weigh_all (coordinator_row m.coordinator room.free.records m.tickets message).messages + goings f m.worker + 1 ≤ goings x.works m.worker + weight message)
        (sym (flags-all (coordinator_row m.coordinator room.free.records m.tickets message).changes x aside.flags)) (omega (arith, light))

pub step-lightens : (m : Memory) (x : StableState) (room : Room) (row : RowOutcome Memory) → HasSizes 8 m x → server_step m x room ≡ Some row → Lightens 0 0 m x row
step-lightens m x room row sizes is = row-of-step (Lightens 0 0 m x) m x room row is
    (λ r e. let fits = step-fits (storage_of m x room) m.tickets m.worker r sizes.works e in let less = fits.goes in omega (arith, less))

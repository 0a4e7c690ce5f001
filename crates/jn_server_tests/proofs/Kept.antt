-- What the calls of a server keep of what the tests know of it.
use Rattle.std.proofs.Common.{◌≡◌, ◌⊎◌, ℕ, ◌≤◌, ◌+◌, Bool, true, false, Option, Some, None, Result, Ok, Err, refl, sym, ◌∙◌, subst, ap, arith, inl, inr}
use Rattle.std.specs.Prelude.{if◌then◌else◌}
use Rattle.jn_base.specs.declared.names.Tickets.{Tickets}
use Rattle.jn_msgs.specs.Collected.{Collected}
use Rattle.jn_msgs.specs.declared.message.Message.{Message}
use Rattle.jn_rows.specs.Outcomes.{RowOutcome}
use Rattle.jn_rows.specs.Stable.{StableState}
use Rattle.jn_rows.specs.Worker.{WorkerTable, worker_row, worker_step}
use Rattle.jn_rows.specs.Coordinator.{coordinator_row, close_clients_row}
use Rattle.jn_system.specs.WholeSystem.World.{Memory}
use Rattle.jn_system.specs.WholeSystem.Servers.{Room, storage_of, of_worker, of_coordinator, of_step, server_row, server_step, is_for_worker}
use Rattle.jn_system.proofs.WholeSystem.WorkerChanges.{worker-aside, step-aside}
use Rattle.jn_system.proofs.WholeSystem.CoordinatorRows.{coordinator-aside}
use Rattle.jn_storage.specs.Storage.{StorageLater}
use Rattle.jn_storage.specs.Calls.{state}
use Rattle.jn_store.specs.Store.{StoreView}
use Rattle.jn_recovery.specs.declared.counts.PageCounts.{PageCounts}
use Rattle.jn_recovery.specs.declared.load.Found.{Found}
use Rattle.jn_recovery.specs.Counts.{counts_by}
use Rattle.jn_records.specs.StablePages.{page_count}
use Rattle.jn_server_tests.specs.Restarts.{MayBegin, IsOf}
use Rattle.jn_server_tests.proofs.Starts.{later_of, loaded_of, may_begin}
use Rattle.jn_base.specs.declared.fault.CallFault.{CallFault}
use Rattle.jn_base.specs.declared.fault.CallFault.TheVariants.{Stopped, Memory as NoMemory}
use Rattle.jn_server.specs.Handling.{Does, Steps}
use Rattle.jn_storage.specs.DeviceCalls.{row_calls}
use Rattle.jn_server.specs.Restarting.{IsRestarted, IsLeft}
use Rattle.jn_server.specs.Seen.{ServerView, memory_of, room_of}
use Rattle.jn_server_tests.specs.Trial.{the_server, IsOn, LeavesServer}

-- ---- names

abbrev Draws : Tickets → Tickets → Type 0
Draws k l = (l ≡ k) ⊎ (l ≡ record k { next = k.next + 1 })

one-more : (k l : Tickets) → Draws k l → l.next ≤ k.next + 1
one-more k l (inl e) = subst (λ (t : Tickets). t.next ≤ k.next + 1) (sym e) (omega arith)
one-more k l (inr e) = subst (λ (t : Tickets). t.next ≤ k.next + 1) (sym e) (omega arith)

row-names : (m : Memory) (x : StableState) (room : Room) (message : Message) → (server_row m x room message).table.tickets.next ≤ m.tickets.next + 1
row-names m x room message = by (is_for_worker message)
  where
    by : (b : Bool) → (if b then of_worker m (worker_row m.worker (storage_of m x room) m.tickets message) else of_coordinator m (coordinator_row m.coordinator room.free.records m.tickets message)).table.tickets.next ≤ m.tickets.next + 1
    by true = one-more m.tickets _ (worker-aside m.worker (storage_of m x room) m.tickets message).tickets
    by false = one-more m.tickets _ (coordinator-aside m.coordinator room.free.records m.tickets message).tickets

-- ---- a restart

pub restarted-on : (n : PageCounts) (v : StoreView) (told : Found) (w : ServerView) → MayBegin the_server n v → IsRestarted the_server (counts_by n) v told w → IsOn n 0 w
restarted-on n v told w begin r = record {
  serves = r.serves;
  of = loaded_of the_server n v told w.storage r.loaded;
  count = r.loaded.recovering.later.count ∙ sym begin.count;
  drawn = let none = ap (λ (m : Memory). m.tickets.next) r.remembers in omega (arith, none);
}

pub left-begins : (n : PageCounts) (v : ServerView) (store : StoreView) → IsOf the_server n v.storage → IsLeft v store → MayBegin the_server n store
left-begins n v store of left = may_begin the_server v.storage.accounts.server _ n store of.server_is of.pool of.heads of.leaves left.recoverable

-- ---- calls

module _ (n : PageCounts) (k : ℕ) (v w : ServerView) (on : IsOn n k v) where
  kept : StorageLater v.storage w.storage → IsOf the_server n w.storage
  kept later = later_of the_server n v.storage w.storage later on.of

  pages : StorageLater v.storage w.storage → w.storage.store.count ≡ page_count (counts_by n)
  pages later = later.store.count ∙ on.count

  done : {A : Type 0} (most names : ℕ) (row : RowOutcome Memory) (answer : Result A CallFault) (before after : Collected) → row.table.tickets.next ≤ names → Does most row v before answer w after → LeavesServer n names answer w
  done most names row (Ok x) before after few does = record {
    serves = does.serves;
    of = kept does.later;
    count = pages does.later;
    drawn = subst (λ (m : Memory). m.tickets.next ≤ names) (sym does.memory) few;
  }
  done most names row (Err Stopped) before after few does = kept does.later
  done most names row (Err NoMemory) before after few does = tt

  pub told : {A : Type 0} (message : Message) (answer : Result A CallFault) (before after : Collected) → Does row_calls (server_row (memory_of v) (state v.storage) (room_of v.storage) message) v before answer w after → LeavesServer n (k + 1) answer w
  told message answer before after does = done row_calls (k + 1) _ answer before after (let few = row-names (memory_of v) (state v.storage) (room_of v.storage) message in let drawn = on.drawn in omega (arith, few, drawn)) does

  pub closed : {A : Type 0} (answer : Result A CallFault) (before after : Collected) → Does row_calls (of_coordinator (memory_of v) (close_clients_row (memory_of v).coordinator v.tickets)) v before answer w after → LeavesServer n k answer w
  closed answer before after does = done row_calls k _ answer before after on.drawn does

  same : w ≡ v → IsOn n k w
  same e = subst (IsOn n k) (sym e) on

  pub stepped : (answer : Result Bool CallFault) (before after : Collected) → Steps (server_step (memory_of v) (state v.storage) (room_of v.storage)) v before answer w after → LeavesServer n (k + 1) answer w
  stepped answer before after steps = by (worker_step v.worker.table (storage_of (memory_of v) (state v.storage) (room_of v.storage)) v.tickets) refl steps
    where
      by : (o : Option (RowOutcome WorkerTable)) → worker_step v.worker.table (storage_of (memory_of v) (state v.storage) (room_of v.storage)) v.tickets ≡ o → Steps (of_step (memory_of v) o) v before answer w after → LeavesServer n (k + 1) answer w
      by None e h = subst (λ (a : Result Bool CallFault). LeavesServer n (k + 1) a w) (sym h.0) (let on = same h.1 in record { serves = on.serves; of = on.of; count = on.count; drawn = let d = on.drawn in omega (arith, d) })
      by (Some row) e h = done 32 (k + 1) _ answer before after (let few = one-more v.tickets row.tickets (step-aside v.worker.table (storage_of (memory_of v) (state v.storage) (room_of v.storage)) v.tickets row e).tickets in let drawn = on.drawn in omega (arith, few, drawn)) h.0

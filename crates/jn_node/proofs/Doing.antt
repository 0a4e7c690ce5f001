-- A call of the server below a node: it runs on, and has done its row.
use Rattle.std.proofs.Common.{◌≡◌, Bool, true, List, [], ◌++◌, Some, sym, ◌∙◌, ap, subst}
use Rattle.std.specs.Prelude.{Ok, is_some}
use Rattle.jn_base.specs.declared.names.ServerNo.{ServerNo}
use Rattle.jn_base.specs.declared.names.Tid.{Tid}
use Rattle.jn_intent.specs.Scrubbing.{counts_in}
use Rattle.jn_lock_rows.specs.Matching.{are_rising}
use Rattle.jn_msgs.specs.Collected.{Collected}
use Rattle.jn_msgs.specs.Ranges.{names_near}
use Rattle.jn_msgs.specs.declared.message.Message.{Message}
use Rattle.jn_records.specs.StablePages.{Counts}
use Rattle.jn_row_ranges.specs.Within.{MemoryWithin}
use Rattle.jn_row_ranges.proofs.ServerRows.{timeout-memory-within}
use Rattle.jn_rows.specs.Outcomes.{RowOutcome, Sent}
use Rattle.jn_server.specs.Handling.{IsDone, LeavesBeside, LeavesByWork, Steps, TimesOut}
use Rattle.jn_server.specs.Holding.{HoldsAll as ServerHolds}
use Rattle.jn_server.specs.Reading.{IsRoomOfPages, StandsOnPages}
use Rattle.jn_server.specs.Seen.{Parts, ServerView, memory_of, room_of, view_with}
use Rattle.jn_storage.specs.Calls.{state}
use Rattle.jn_storage.specs.DeviceCalls.{row_calls, step_calls}
use Rattle.jn_storage.specs.Storage.{StorageView}
use Rattle.jn_store.specs.Store.{StoreView, IsCalm}
use Rattle.jn_system.specs.WholeSystem.Servers.{server_row, server_step, server_timeout}
use Rattle.jn_system.specs.WholeSystem.World.{Memory}
use Rattle.jn_node.specs.Calls.{WorksBy}
use Rattle.jn_node.specs.Nodes.{IsRunning, running_of}
use Rattle.jn_node.specs.Running.{HoldsAll}
use Rattle.jn_node.specs.Serving.{IsTaken, row_for, step_of}
use Rattle.jn_node.proofs.Moments.{Sees, holds-here, holds-there, moment, sees-at}
use Rattle.jn_node.proofs.Rows.{DoesStep, does-step, row-names, runs-on, same-counts, same-row, same-step, step-names, stepped, taken}

module _ {S : Type 0} (look : S → StoreView) (s : ServerNo) (g : Counts) (p q : Parts S) (runs : IsRunning s g (view_with look p)) where
  abbrev v : ServerView
  v = view_with look p

  abbrev w : ServerView
  w = view_with look q

  pub at : Sees g v
  at = sees-at look p g runs.counts

  -- what it sends for a message
  pub taken-sends : (message : Message) (before after : Collected) → IsDone row_calls (server_row (memory_of v) (state v.storage) (room_of v.storage) message) v before w after → before.messages ≡ [] → after.messages ≡ (row_for g (running_of v) message).messages
  taken-sends message before after done empty = ap (λ (c : Collected). c.messages) done.sent ∙ ap (λ (l : List Sent). l ++ (server_row (memory_of v) (state v.storage) (room_of v.storage) message).messages) empty
      ∙ ap (λ (r : RowOutcome Memory). r.messages) (same-row s g v runs at message)

  -- a message
  module _ (message : Message) (near : names_near 8 message ≡ true) (before after : Collected) (done : IsDone row_calls (server_row (memory_of v) (state v.storage) (room_of v.storage) message) v before w after)
      (stands : StandsOnPages w) (room : IsRoomOfPages w) (order : are_rising w.worker.table ≡ true) (holds : ServerHolds v → ServerHolds w) where
    at-taken : Sees g w
    at-taken = sees-at look q g (same-counts s g v w runs at row_calls (server_row (memory_of v) (state v.storage) (room_of v.storage) message) before after done)

    taken-holds : HoldsAll g (running_of w)
    taken-holds = holds-here g w at-taken (same-counts s g v w runs at row_calls (server_row (memory_of v) (state v.storage) (room_of v.storage) message) before after done) done.serves stands
        (holds (holds-there g v at runs.counts runs.serves runs.stands runs.moment.held))

    pub taken-runs : IsRunning s g w
    taken-runs = runs-on s g v w runs at row_calls (server_row (memory_of v) (state v.storage) (room_of v.storage) message) before after done at-taken stands room order (row-names s g v runs at message near) taken-holds

    pub taken-row : LeavesBeside v (server_row (memory_of v) (state v.storage) (room_of v.storage) message) w → IsTaken s g message (running_of v) (running_of w)
    taken-row leaves = taken s g v runs at message w row_calls before after done leaves at-taken taken-runs

  -- a step, which is made
  pub does : (before after : Collected) (did : Bool) → Steps (server_step (memory_of v) (state v.storage) (room_of v.storage)) v before (Ok did) w after → is_some (step_of g (running_of v)) ≡ true
      → DoesStep v w before after did (server_step (memory_of v) (state v.storage) (room_of v.storage))
  does before after did steps work = does-step v w before after did (server_step (memory_of v) (state v.storage) (room_of v.storage)) steps (ap is_some (same-step s g v runs at) ∙ work)

  module _ (before after : Collected) (did : Bool) (does : DoesStep v w before after did (server_step (memory_of v) (state v.storage) (room_of v.storage)))
      (stands : StandsOnPages w) (room : IsRoomOfPages w) (order : are_rising w.worker.table ≡ true) (holds : ServerHolds v → ServerHolds w) where
    at-stepped : Sees g w
    at-stepped = sees-at look q g (same-counts s g v w runs at step_calls does.row before after does.done)

    stepped-holds : HoldsAll g (running_of w)
    stepped-holds = holds-here g w at-stepped (same-counts s g v w runs at step_calls does.row before after does.done) does.done.serves stands (holds (holds-there g v at runs.counts runs.serves runs.stands runs.moment.held))

    pub stepped-runs : IsRunning s g w
    stepped-runs = runs-on s g v w runs at step_calls does.row before after does.done at-stepped stands room order (step-names s g v runs at does.row does.is) stepped-holds

    pub stepped-by : ((row : RowOutcome Memory) → server_step (memory_of v) (state v.storage) (room_of v.storage) ≡ Some row → LeavesByWork v row w) → before.messages ≡ []
        → WorksBy s g (running_of v) after.messages (running_of w)
    stepped-by leaves empty = stepped s g v runs at w before after did does leaves at-stepped stepped-runs after.messages
        (ap (λ (c : Collected). c.messages) does.done.sent ∙ ap (λ (l : List Sent). l ++ does.row.messages) empty)

  -- a timeout
  module _ (T : Tid) (answer : Bool) (times : TimesOut T v answer w) (same : q.storage ≡ p.storage) (stands : StandsOnPages w) (room : IsRoomOfPages w) (order : are_rising w.worker.table ≡ true) where
    storage-same : w.storage ≡ v.storage
    storage-same = ap (λ (x : ServerView). x.storage) times.others

    timed-counts : counts_in w.storage.accounts ≡ g
    timed-counts = ap (λ (x : StorageView). counts_in x.accounts) storage-same ∙ runs.counts

    pub timed-memory : running_of w ≡ record (running_of v) { memory = server_timeout (memory_of v) T }
    timed-memory = (λ i. record { memory = times.memory i; store = (storage-same i).store; held = (storage-same i).accounts.held })

    pub timed-tickets : q.tickets ≡ p.tickets
    timed-tickets = ap (λ (x : ServerView). x.tickets) times.others

    timed-holds : HoldsAll g (running_of w)
    timed-holds = holds-here g w (sees-at look q g timed-counts) timed-counts times.serves stands
        (subst (λ (x : ServerView). ServerHolds x) (sym times.others) (holds-there g v at runs.counts runs.serves runs.stands runs.moment.held))

    pub timed-runs : IsRunning s g w
    timed-runs = record {
      serves = times.serves;
      stands = stands;
      room = room;
      order = order;
      its = ap (λ (x : StorageView). x.accounts.server) storage-same ∙ runs.its;
      counts = timed-counts;
      near = runs.near;
      within = subst (MemoryWithin 8 s) (sym times.memory) (timeout-memory-within 8 s (memory_of v) runs.within T);
      moment = moment s g w (sees-at look q g timed-counts) (ap (λ (x : StorageView). x.accounts.server) storage-same ∙ runs.its) timed-counts times.serves stands room
          (subst (λ (x : StorageView). IsCalm x.store) (sym storage-same) runs.moment.calm) (ap (λ (x : StorageView). x.store.told) storage-same ∙ runs.moment.told) timed-holds;
    }

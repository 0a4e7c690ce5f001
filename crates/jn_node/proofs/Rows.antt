-- A row that is done: the server runs on, and its pages are those after the row.
use Rattle.std.proofs.Common.{◌≡◌, ◌≤◌, ℕ, Bool, true, false, List, Option, Some, None, refl, sym, ◌∙◌, ap, subst, true≢false}
use Rattle.std.specs.Prelude.{◌+◌, Result, Ok, is_some}
use Rattle.jn_base.specs.declared.names.ServerNo.{ServerNo}
use Rattle.jn_device.specs.Happens.{none}
use Rattle.jn_intent.specs.Scrubbing.{counts_in}
use Rattle.jn_lock_rows.specs.Matching.{are_rising}
use Rattle.jn_msgs.specs.Collected.{Collected}
use Rattle.jn_msgs.specs.Ranges.{is_small, names_near}
use Rattle.jn_msgs.specs.Weights.{weight}
use Rattle.jn_msgs.specs.declared.message.Message.{Message}
use Rattle.jn_records.specs.StablePages.{Counts}
use Rattle.jn_row_ranges.specs.Drawing.{draws}
use Rattle.jn_row_ranges.specs.Naming.{are_within}
use Rattle.jn_row_ranges.specs.Sizes.{HasSizes}
use Rattle.jn_row_ranges.specs.Taking.{are_from_server}
use Rattle.jn_row_ranges.specs.Weighing.{goings, weigh_all}
use Rattle.jn_row_ranges.specs.Within.{MemoryWithin, RowWithin}
use Rattle.jn_row_ranges.proofs.Lightening.{only-beginnings, row-lightens, step-lightens}
use Rattle.jn_row_ranges.proofs.ServerRows.{row-requests, row-within, step-requests, step-row-within, step-tickets}
use Rattle.jn_rows.specs.Outcomes.{RowOutcome, Sent}
use Rattle.jn_rows.specs.Stable.{StableState, made_all}
use Rattle.jn_server.specs.Handling.{IsDone, LeavesBeside, LeavesByWork, Steps, left_by_work}
use Rattle.jn_server.specs.Reading.{IsRoomOfPages, StandsOnPages}
use Rattle.jn_server.specs.Seen.{ServerView, memory_of, room_of}
use Rattle.jn_storage.specs.Calls.{state}
use Rattle.jn_storage.specs.DeviceCalls.{step_calls}
use Rattle.jn_storage.specs.Storage.{Accounts}
use Rattle.jn_system.specs.WholeSystem.Servers.{Room, server_row, server_step}
use Rattle.jn_system.specs.WholeSystem.World.{Memory}
use Rattle.jn_worker.specs.Leaving.{Beside, beside_of, left_over}
use Rattle.jn_node.specs.Calls.{WorksBy}
use Rattle.jn_node.specs.Nodes.{IsRunning, running_of}
use Rattle.jn_node.specs.Running.{Running, IsMade, HoldsAll, beside_at, room_on, state_of}
use Rattle.jn_node.specs.Serving.{IsTaken, row_for, step_of}
use Rattle.jn_node.proofs.Moments.{Sees, moment, same-beside, same-room, same-state, still-silent}
use Rattle.jn_node.proofs.Own.{one-name}
use Rattle.jn_node.proofs.Sized.{sized}

counts-same : (a b : Accounts) → b.pool ≡ a.pool → b.heads ≡ a.heads → b.leaves ≡ a.leaves → counts_in b ≡ counts_in a
counts-same a b pool heads leaves = cc

module _ (s : ServerNo) (g : Counts) (v w : ServerView) (runs : IsRunning s g v) (at : Sees g v) (most : ℕ) (row : RowOutcome Memory) (before after : Collected) (done : IsDone most row v before w after) where
  pub same-counts : counts_in w.storage.accounts ≡ g
  same-counts = counts-same v.storage.accounts w.storage.accounts done.later.pool done.later.heads done.later.leaves ∙ runs.counts

  -- the server runs on
  pub runs-on : Sees g w → StandsOnPages w → IsRoomOfPages w → are_rising w.worker.table ≡ true → RowWithin 8 s row → HoldsAll g (running_of w) → IsRunning s g w
  runs-on at' stands room order within holds = record {
    serves = done.serves;
    stands = stands;
    room = room;
    order = order;
    its = done.later.server ∙ runs.its;
    counts = same-counts;
    near = runs.near;
    within = subst (MemoryWithin 8 s) (sym done.memory) within.memory;
    moment = moment s g w at' (done.later.server ∙ runs.its) same-counts done.serves stands room (done.later.store.calm runs.moment.calm)
        (still-silent v.storage.store w.storage.store done.later.store runs.moment.calm runs.moment.told) holds;
  }

  -- and its pages are those after the row
  pub made : (left : Beside) → beside_of w.storage.accounts ≡ left → Sees g w → IsRunning s g w → IsMade s g row left (running_of v) (running_of w)
  made left e at' on = record {
    memory = done.memory;
    found = λ c. ap (λ f. f c) (sym at') ∙ done.found c ∙ ap (made_all row.changes) (same-state g v at);
    beside = sym (same-beside g w at' same-counts on.serves on.stands) ∙ e;
    happens = done.later.store.happens v.storage.store.device (none v.storage.store.device);
    moment = on.moment;
  }

-- ---- a message

module _ (s : ServerNo) (g : Counts) (v : ServerView) (runs : IsRunning s g v) (at : Sees g v) (message : Message) where
  pub same-row : server_row (memory_of v) (state v.storage) (room_of v.storage) message ≡ row_for g (running_of v) message
  same-row = ap (λ (x : StableState). server_row (memory_of v) x (room_of v.storage) message) (same-state g v at)
      ∙ ap (λ (r : Room). server_row (memory_of v) (state_of g (running_of v)) r message) (same-room g v at runs.counts runs.room)

  pub taken : (w : ServerView) (most : ℕ) (before after : Collected) → IsDone most (server_row (memory_of v) (state v.storage) (room_of v.storage) message) v before w after
      → LeavesBeside v (server_row (memory_of v) (state v.storage) (room_of v.storage) message) w → Sees g w → IsRunning s g w → IsTaken s g message (running_of v) (running_of w)
  taken w most before after done leaves at' on =
      subst (λ (r : RowOutcome Memory). IsMade s g r (left_over (state_of g (running_of v)) r.changes (beside_at g (running_of v))) (running_of v) (running_of w)) same-row
      (made s g v w runs at most row before after done (left_over (state_of g (running_of v)) row.changes (beside_at g (running_of v)))
      (leaves ∙ ap (λ (x : StableState). left_over x row.changes (beside_of v.storage.accounts)) (same-state g v at)
      ∙ ap (λ (b : Beside). left_over (state_of g (running_of v)) row.changes b) (same-beside g v at runs.counts runs.serves runs.stands)) at' on)
    where
      row : RowOutcome Memory
      row = server_row (memory_of v) (state v.storage) (room_of v.storage) message

  pub row-names : names_near 8 message ≡ true → RowWithin 8 s (server_row (memory_of v) (state v.storage) (room_of v.storage) message)
  row-names names = row-within 8 s (memory_of v) runs.within (state v.storage) (room_of v.storage) message runs.near names

  pub sent-near : names_near 8 message ≡ true → are_within 8 (row_for g (running_of v) message).messages ≡ true
  sent-near names = let r = row-within 8 s (memory_of v) runs.within (state_of g (running_of v)) (room_on g (running_of v)) message runs.near names in r.sent

  pub sent-own : are_from_server (row_for g (running_of v) message).messages ≡ true
  sent-own = row-requests (memory_of v) (state_of g (running_of v)) (room_on g (running_of v)) message

  sizes : HasSizes 8 (memory_of v) (state_of g (running_of v))
  sizes = subst (HasSizes 8 (memory_of v)) (same-state g v at) (sized s v runs.serves runs.order runs.within)

  module _ (y : Running) (takes : IsTaken s g message (running_of v) y) where
    -- it leaves less than the message weighed
    pub lighter : is_small 8 message ≡ true → weigh_all (row_for g (running_of v) message).messages + goings (state_of g y).works y.memory.worker + 1 ≤ goings (state_of g (running_of v)).works (memory_of v).worker + weight message
    lighter small = by (state_of g y) y.memory (takes.found (λ n. false)) takes.memory
      where
        row : RowOutcome Memory
        row = row_for g (running_of v) message

        by : (x : StableState) (m : Memory) → x ≡ made_all row.changes (state_of g (running_of v)) → m ≡ row.table → weigh_all row.messages + goings x.works m.worker + 1 ≤ goings (state_of g (running_of v)).works (memory_of v).worker + weight message
        by x m e f = subst (λ (z : StableState). weigh_all row.messages + goings z.works m.worker + 1 ≤ goings (state_of g (running_of v)).works (memory_of v).worker + weight message) (sym e)
            (subst (λ (n : Memory). weigh_all row.messages + goings (made_all row.changes (state_of g (running_of v))).works n.worker + 1 ≤ goings (state_of g (running_of v)).works (memory_of v).worker + weight message) (sym f)
            (row-lightens (memory_of v) (state_of g (running_of v)) (room_on g (running_of v)) message sizes small))

    pub undrawn : draws message ≡ false → y.memory.tickets ≡ v.tickets
    undrawn draws-none = ap (λ (m : Memory). m.tickets) takes.memory ∙ only-beginnings (memory_of v) (state_of g (running_of v)) (room_on g (running_of v)) message draws-none

    pub next-most : y.memory.tickets.next ≤ v.tickets.next + 1
    next-most = subst (λ (m : Memory). m.tickets.next ≤ v.tickets.next + 1) (sym takes.memory) (one-name (memory_of v) (state_of g (running_of v)) (room_on g (running_of v)) message)

-- ---- a step

same-ok : {A E : Type 0} (a b : A) (r : Result A E) → r ≡ Ok a → r ≡ Ok b → a ≡ b
same-ok a b r e f = cc

-- it is done, where there is one
pub record DoesStep (v w : ServerView) (before after : Collected) (did : Bool) (o : Option (RowOutcome Memory)) : Type 0 where
  pub row : RowOutcome Memory
  pub is : o ≡ Some row
  pub done : IsDone step_calls row v before w after
  pub did_is : did ≡ true

pub does-step : (v w : ServerView) (before after : Collected) (did : Bool) (o : Option (RowOutcome Memory)) → Steps o v before (Ok did) w after → is_some o ≡ true → DoesStep v w before after did o
does-step v w before after did None h some = absurd (true≢false (sym some))
does-step v w before after did (Some row) h some = record { row = row; is = refl; done = h.0; did_is = same-ok did true (Ok did) refl (h.1 refl) }

module _ (s : ServerNo) (g : Counts) (v : ServerView) (runs : IsRunning s g v) (at : Sees g v) where
  pub same-step : server_step (memory_of v) (state v.storage) (room_of v.storage) ≡ step_of g (running_of v)
  same-step = ap (λ (x : StableState). server_step (memory_of v) x (room_of v.storage)) (same-state g v at)
      ∙ ap (λ (r : Room). server_step (memory_of v) (state_of g (running_of v)) r) (same-room g v at runs.counts runs.room)

  pub stepped : (w : ServerView) (before after : Collected) (did : Bool) (h : DoesStep v w before after did (server_step (memory_of v) (state v.storage) (room_of v.storage)))
      → ((row : RowOutcome Memory) → server_step (memory_of v) (state v.storage) (room_of v.storage) ≡ Some row → LeavesByWork v row w) → Sees g w → IsRunning s g w
      → (messages : List Sent) → messages ≡ h.row.messages → WorksBy s g (running_of v) messages (running_of w)
  stepped w before after did h leaves at' on messages sends = record {
    row = h.row;
    row_is = sym same-step ∙ h.is;
    made = made s g v w runs at step_calls h.row before after h.done (left_by_work (state_of g (running_of v)) h.row.changes (beside_at g (running_of v)))
        (leaves h.row h.is ∙ ap (λ (x : StableState). left_by_work x h.row.changes (beside_of v.storage.accounts)) (same-state g v at)
        ∙ ap (λ (b : Beside). left_by_work (state_of g (running_of v)) h.row.changes b) (same-beside g v at runs.counts runs.serves runs.stands)) at' on;
    sends = sends;
  }

  pub step-names : (row : RowOutcome Memory) → server_step (memory_of v) (state v.storage) (room_of v.storage) ≡ Some row → RowWithin 8 s row
  step-names row is = step-row-within 8 s (memory_of v) runs.within (state v.storage) (room_of v.storage) row is

  module _ (messages : List Sent) (y : Running) (h : WorksBy s g (running_of v) messages y) where
    pub step-own : are_from_server messages ≡ true
    step-own = subst (λ (xs : List Sent). are_from_server xs ≡ true) (sym h.sends) (step-requests (memory_of v) (state_of g (running_of v)) (room_on g (running_of v)) h.row h.row_is)

    pub step-near : are_within 8 messages ≡ true
    step-near = subst (λ (xs : List Sent). are_within 8 xs ≡ true) (sym h.sends) (let r = step-row-within 8 s (memory_of v) runs.within (state_of g (running_of v)) (room_on g (running_of v)) h.row h.row_is in r.sent)

    pub step-undrawn : y.memory.tickets ≡ v.tickets
    step-undrawn = ap (λ (m : Memory). m.tickets) h.made.memory ∙ step-tickets (memory_of v) (state_of g (running_of v)) (room_on g (running_of v)) h.row h.row_is

    -- it leaves no more to do
    pub no-heavier : weigh_all messages + goings (state_of g y).works y.memory.worker + 0 ≤ goings (state_of g (running_of v)).works (memory_of v).worker + 0
    no-heavier = by messages (state_of g y) y.memory h.sends (h.made.found (λ n. false)) h.made.memory
      where
        sizes : HasSizes 8 (memory_of v) (state_of g (running_of v))
        sizes = subst (HasSizes 8 (memory_of v)) (same-state g v at) (sized s v runs.serves runs.order runs.within)

        by : (xs : List Sent) (x : StableState) (m : Memory) → xs ≡ h.row.messages → x ≡ made_all h.row.changes (state_of g (running_of v)) → m ≡ h.row.table
            → weigh_all xs + goings x.works m.worker + 0 ≤ goings (state_of g (running_of v)).works (memory_of v).worker + 0
        by xs x m d e f = subst (λ (ys : List Sent). weigh_all ys + goings x.works m.worker + 0 ≤ goings (state_of g (running_of v)).works (memory_of v).worker + 0) (sym d)
            (subst (λ (z : StableState). weigh_all h.row.messages + goings z.works m.worker + 0 ≤ goings (state_of g (running_of v)).works (memory_of v).worker + 0) (sym e)
            (subst (λ (n : Memory). weigh_all h.row.messages + goings (made_all h.row.changes (state_of g (running_of v))).works n.worker + 0 ≤ goings (state_of g (running_of v)).works (memory_of v).worker + 0) (sym f)
            (step-lightens (memory_of v) (state_of g (running_of v)) (room_on g (running_of v)) h.row sizes h.row_is)))

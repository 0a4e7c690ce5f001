-- Each step of the whole system keeps what holds of the works and locks of each server.
use Rattle.jn_system.proofs.Common.{◌≡◌, ◌≢◌, ◌⊎◌, ◌≤◌, inl, inr, ℕ, ◌+◌, Bool, true, false, List, [], ◌∷◌, take, Option, Some, None, refl, sym, ◌∙◌, ap, subst, arith, if◌then◌else◌, length, ServerNo, Tid, WorkId, Tickets, server_eq, server_tells, AllFiles, Message, StableState, Pick, Change, stable, made_all, is_going, RowOutcome, WorkerTable, worker_row, timeout_row, CoordinatorTable, coordinator_row, close_clients_row, with_epoch, Step, IsStep, IsRun, TableFact, StoredFact, UpFact, ServerFact, LockFacts, Memory, opening, at_server, Room, server_row, server_step, of_worker, of_coordinator, storage_of, server_timeout, of_timeout, restored, Text, Left, left_of}
use Rattle.jn_system.specs.WholeSystem.World.{World}
use Rattle.jn_system.specs.WholeSystem.Steps.{after, run}
use Rattle.jn_system.proofs.WholeSystem.Rows.{RowKeeps}
use Rattle.jn_system.proofs.WholeSystem.OneChange.{one-server}
use Rattle.jn_system.proofs.WholeSystem.StepCases.{ServerRow, of_message, of_work, of_closing, FoundThen, by_narrowing, by_raising, StepCase, client_row, row_done, row_stopped, gone_late, gone_down, come_up, found_anew, dismissed, quietly, step-case}
use Rattle.jn_system.proofs.WholeSystem.Tables.{drawn-keeps}
use Rattle.jn_system.proofs.WholeSystem.WorkerRows.{worker-keeps, step-keeps, timeout-keeps}
use Rattle.jn_system.proofs.WholeSystem.CoordinatorRows.{Aside, coordinator-aside, close-aside, flags-keep, flags-all, epoch-kept, epoch-all}
use Rattle.jn_system.proofs.WholeSystem.Restored.{stored-fact, restart-keeps}
use Rattle.jn_system.proofs.WholeSystem.ServerRows.{row-either, row-of-step}

-- ---- a server's row

-- what a row of a server leaves, done or stopped
record Leaves (s : ServerNo) (x : StableState) (row : RowOutcome Memory) : Type 0 where
  table : TableFact row.table.worker row.table.tickets (made_all row.changes x).works
  server : row.table.tickets.server ≡ s
  epoch : row.table.tickets.epoch ≡ (made_all row.changes x).epoch
  idle : (V : WorkId) → is_going ((made_all row.changes x).works V) ≡ false → row.table.next V ≡ 0
  stops : (n : ℕ) → StoredFact s (made_all (take n row.changes) x).epoch (made_all (take n row.changes) x).works

module _ (s : ServerNo) (m : Memory) (x : StableState) (table : TableFact m.worker m.tickets x.works) (server : m.tickets.server ≡ s) (epoch : m.tickets.epoch ≡ x.epoch)
    (idle : (V : WorkId) → is_going (x.works V) ≡ false → m.next V ≡ 0) where
  before : StoredFact s x.epoch x.works
  before = stored-fact s m.worker m.tickets x.epoch x.works table server epoch

  of-worker : (row : RowOutcome WorkerTable) → RowKeeps x m.tickets row → Leaves s x (of_worker m row)
  of-worker row h = record {
    table = h.table;
    server = h.server ∙ server;
    epoch = now;
    idle = h.idle m.next idle;
    stops = λ n. by n (h.few n);
  }
    where
      now : row.tickets.epoch ≡ (made_all row.changes x).epoch
      now = h.epoch ∙ epoch ∙ sym h.same_epoch

      by : (n : ℕ) → (take n row.changes ≡ []) ⊎ (take n row.changes ≡ row.changes) → StoredFact s (made_all (take n row.changes) x).epoch (made_all (take n row.changes) x).works
      by n (inl e) = subst (λ (cs : List Change). StoredFact s (made_all cs x).epoch (made_all cs x).works) (sym e) before
      by n (inr e) = subst (λ (cs : List Change). StoredFact s (made_all cs x).epoch (made_all cs x).works) (sym e)
          (stored-fact s row.table row.tickets (made_all row.changes x).epoch (made_all row.changes x).works h.table (h.server ∙ server) now)

  of-coordinator : (row : RowOutcome CoordinatorTable) → Aside (length m.coordinator.transactions) m.tickets row → Leaves s x (of_coordinator m row)
  of-coordinator row h = record {
    table = subst (λ f. TableFact m.worker row.tickets f) (sym (flags-all row.changes x h.flags)) (drawn h.tickets);
    server = same h.tickets ∙ server;
    idle = λ V e. idle V (sym (ap (λ f. is_going (f V)) (flags-all row.changes x h.flags)) ∙ e);
    epoch = now h.tickets ∙ epoch ∙ sym (epoch-all row.changes x);
    stops = λ n. subst (λ e. StoredFact s e (made_all (take n row.changes) x).works) (sym (epoch-kept row.changes n x))
        (subst (λ f. StoredFact s x.epoch f) (sym (flags-keep row.changes n x h.flags)) before);
  }
    where
      drawn : (row.tickets ≡ m.tickets) ⊎ (row.tickets ≡ record m.tickets { next = m.tickets.next + 1 }) → TableFact m.worker row.tickets x.works
      drawn (inl e) = subst (λ (k : Tickets). TableFact m.worker k x.works) (sym e) table
      drawn (inr e) = subst (λ (k : Tickets). TableFact m.worker k x.works) (sym e) (drawn-keeps m.worker m.tickets x.works table)

      same : (row.tickets ≡ m.tickets) ⊎ (row.tickets ≡ record m.tickets { next = m.tickets.next + 1 }) → row.tickets.server ≡ m.tickets.server
      same (inl e) = ap (λ (k : Tickets). k.server) e
      same (inr e) = ap (λ (k : Tickets). k.server) e

      now : (row.tickets ≡ m.tickets) ⊎ (row.tickets ≡ record m.tickets { next = m.tickets.next + 1 }) → row.tickets.epoch ≡ m.tickets.epoch
      now (inl e) = ap (λ (k : Tickets). k.epoch) e
      now (inr e) = ap (λ (k : Tickets). k.epoch) e

  row-leaves : (room : Room) (message : Message) → Leaves s x (server_row m x room message)
  row-leaves room message = row-either (Leaves s x) m x room message
      (of-worker (worker_row m.worker (storage_of m x room) m.tickets message) (worker-keeps (storage_of m x room) m.tickets m.worker table message))
      (of-coordinator (coordinator_row m.coordinator room.free.records m.tickets message) (coordinator-aside m.coordinator room.free.records m.tickets message))

  step-leaves : (room : Room) (row : RowOutcome Memory) → server_step m x room ≡ Some row → Leaves s x row
  step-leaves room row h = row-of-step (Leaves s x) m x room row h (λ r e. of-worker r (step-keeps (storage_of m x room) m.tickets m.worker table r e))

-- ---- the facts of a server that is up, or down

is-up : (s : ServerNo) (w : World) (m : Memory) → LockFacts w → w.memory s ≡ Some m → UpFact s m (w.found s)
is-up s w m h e = subst (λ o. ServerFact s o (w.found s)) e (h s)

is-down : (s : ServerNo) (w : World) → LockFacts w → w.memory s ≡ None → (c : Pick) → StoredFact s (w.found s c).epoch (w.found s c).works
is-down s w h e = subst (λ o. ServerFact s o (w.found s)) e (h s)

up-stored : (s : ServerNo) (m : Memory) (found : Pick → StableState) → UpFact s m found → (c : Pick) → StoredFact s (found c).epoch (found c).works
up-stored s m found up c = subst (λ x. StoredFact s x.epoch x.works) (sym (up.same c)) (stored-fact s m.worker m.tickets (stable found).epoch (stable found).works up.table up.server up.epoch)

late-keeps : (s : ServerNo) (m : Memory) (T : Tid) (found : Pick → StableState) → UpFact s m found → UpFact s (server_timeout m T) found
late-keeps s m T found up = by (timeout_row m.worker T) refl
  where
    by : (o : Option WorkerTable) → timeout_row m.worker T ≡ o → UpFact s (of_timeout m o) found
    by None e = up
    by (Some t) e = record { same = up.same; server = up.server; epoch = up.epoch; idle = up.idle; table = timeout-keeps m.worker t m.tickets (stable found).works T up.table e }

raised : (s : ServerNo) (x : StableState) → StoredFact s x.epoch x.works → StoredFact s (x.epoch + 1) x.works
raised s x h = record { place = h.place; no_later = λ W p e. more W.epoch x.epoch (h.no_later W p e); files = h.files; apart = h.apart }
  where
    more : (a b : ℕ) → a ≤ b → a ≤ b + 1
    more a b l = omega (arith, l)

-- ---- every step

module _ (w : World) (h : LockFacts w) where
  leaves : (s : ServerNo) (m : Memory) (stop : Option (Pick → Left)) (step : Step) (k : Option ℕ) (row : RowOutcome Memory) → UpFact s m (w.found s) → ServerRow w s m stop step k row → Leaves s (stable (w.found s)) row
  leaves s m _ _ _ _ up (of_message stop k room message is) = row-leaves s m (stable (w.found s)) up.table up.server up.epoch up.idle room message
  leaves s m _ _ _ _ up (of_work stop room row is) = step-leaves s m (stable (w.found s)) up.table up.server up.epoch up.idle room row is
  leaves s m _ _ _ _ up of_closing = of-coordinator s m (stable (w.found s)) up.table up.server up.epoch up.idle (close_clients_row m.coordinator m.tickets) (close-aside m.coordinator m.tickets)

  found-keeps : (step : Step) (s : ServerNo) (found : Pick → StableState) (lines : List Text) → w.memory s ≡ None → FoundThen w s step found lines → (c : Pick) → StoredFact s (found c).epoch (found c).works
  found-keeps _ s _ _ e (by_narrowing g) c = is-down s w h e (g c)
  found-keeps _ s _ _ e (by_raising raise) c = by (raise c)
    where
      by : (b : Bool) → StoredFact s (if b then with_epoch (w.found s c) else w.found s c).epoch (if b then with_epoch (w.found s c) else w.found s c).works
      by true = raised s (w.found s c) (is-down s w h e c)
      by false = is-down s w h e c

  -- one server changes, and what is found of it
  one : (s : ServerNo) (o : Option Memory) (found : Pick → StableState) → ServerFact s o found → (q : ServerNo) → ServerFact q (at_server w.memory s o q) (λ c. if server_eq s q then found c else w.found q c)
  one s o found now q = by (server_tells s q)
    where
      by : ((server_eq s q ≡ true) × (s ≡ q)) ⊎ ((server_eq s q ≡ false) × (s ≢ q)) → ServerFact q (at_server w.memory s o q) (λ c. if server_eq s q then found c else w.found q c)
      by (inl p) = subst (λ (b : Bool). ServerFact q (if b then o else w.memory q) (λ c. if b then found c else w.found q c)) (sym p.0) (subst (λ (z : ServerNo). ServerFact z o found) p.1 now)
      by (inr p) = subst (λ (b : Bool). ServerFact q (if b then o else w.memory q) (λ c. if b then found c else w.found q c)) (sym p.0) (h q)

  -- with what was found of it
  one-memory : (s : ServerNo) (o : Option Memory) → ServerFact s o (w.found s) → (q : ServerNo) → ServerFact q (at_server w.memory s o q) (w.found q)
  one-memory s o now = one-server (λ q o. ServerFact q o (w.found q)) w.memory s o now (λ q other. h q)

  by-case : (step : Step) (now : World) → StepCase w step now → IsStep step w → LockFacts now
  by-case step _ (client_row _ c t sent lines row) may = h
  by-case step _ (row_done _ s m k row e is) may = let up = is-up s w m h e in let l = leaves s m None step k row up is in
      one s (Some row.table) (λ c. made_all row.changes (w.found s c)) (record { same = λ c. ap (λ x. made_all row.changes x) (up.same c); server = l.server; epoch = l.epoch; idle = l.idle; table = l.table })
  by-case step _ (row_stopped _ s m k row made e is) may = let up = is-up s w m h e in let l = leaves s m (Some made) step k row up is in
      one s None (λ c. left_of (made c) row.changes (w.found s c))
      (λ c. subst (λ x. StoredFact s (left_of (made c) row.changes x).epoch (left_of (made c) row.changes x).works) (sym (up.same c)) (l.stops (made c).whole))
  by-case _ _ (gone_late s m T e) may = one-memory s (Some (server_timeout m T)) (late-keeps s m T (w.found s) (is-up s w m h e))
  by-case _ _ (gone_down s m e) may = one-memory s None (up-stored s m (w.found s) (is-up s w m h e))
  by-case _ _ (come_up s pick Ws Ts e) may = one s (Some (restored s (w.found s pick) Ws Ts)) (λ c. with_epoch (w.found s pick))
      (record { same = λ c. refl; server = refl; epoch = refl; idle = λ V e. refl; table = restart-keeps s (w.found s pick) Ws (is-down s w h e pick) may.0 })
  by-case step _ (found_anew _ s found lines e is) may = λ q. subst (λ o. ServerFact q o (λ c. if server_eq s q then found c else w.found q c)) (same-down q (server_tells s q)) (one s None found (found-keeps step s found lines e is) q)
    where
      same-down : (q : ServerNo) → ((server_eq s q ≡ true) × (s ≡ q)) ⊎ ((server_eq s q ≡ false) × (s ≢ q)) → at_server w.memory s None q ≡ w.memory q
      same-down q (inl p) = ap (λ (b : Bool). if b then None else w.memory q) p.0 ∙ sym e ∙ ap w.memory p.1
      same-down q (inr p) = ap (λ (b : Bool). if b then None else w.memory q) p.0
  by-case _ _ dismissed may = h
  by-case step _ (quietly _ event sent lines is) may = h

pub locks-keep : (step : Step) (w : World) → IsStep step w → LockFacts w → LockFacts (after step w)
locks-keep step w may h = by-case w h step (after step w) (step-case w step) may

pub run-keeps : (steps : List Step) (w : World) → IsRun steps w → LockFacts w → LockFacts (run steps w)
run-keeps [] w i h = h
run-keeps (step ∷ steps) w i h = run-keeps steps (after step w) i.1 (locks-keep step w i.0 h)

pub opening-keeps : (servers : ℕ) (files : AllFiles) (epochs : ServerNo → ℕ) → LockFacts (opening servers files epochs)
opening-keeps servers files epochs s = record {
  same = λ c. refl;
  server = refl;
  epoch = refl;
  idle = λ V e. refl;
  table = record {
    rising = refl;
    before = refl;
    place = λ W w h. absurd (grind arith);
    sound = λ W w h. absurd (grind arith);
    live = λ W h. absurd (grind arith);
    apart = λ V W v w h l ne. absurd (grind arith);
  };
}

-- The rows of a server, as those of its two tables.
use Rattle.jn_row_ranges.proofs.Common.{◌≡◌, ℕ, Bool, true, false, List, [], ◌∷◌, take, zero, suc, Option, Some, None, refl, sym, ◌∙◌, ap, subst, arith, ◌&&◌, if◌then◌else◌, ServerNo, Tid, WorkId, Tickets, Message, StableState, Prepared, FlagState, Change, AddReady, MarkGoing, RemoveWork, AddFlag, DropFlag, made_by, made_all, RowOutcome, coordinator_row, coordinator_again, close_clients_row, restored_transaction, restored_transactions, Memory, Room, storage_of, server_row, server_step, server_again, server_timeout, of_worker, of_coordinator, of_step, of_timeout, is_for_worker, restored, are_from_server, AreDrawn, is_few, is_near, are_both_near, names_near, are_within, are_works_within, are_transactions_within, is_change_within, are_changes_within, StateWithin, MemoryWithin, RowWithin, WorkerTable, work_of, worker_row, worker_step, worker_again, timed_out, restored_work, restored_worker, tid_tells, work_tells}
use Rattle.jn_row_ranges.proofs.Sending.{IsPlain, both, worker-plain, step-plain, worker-again-are, coordinator-plain, coordinator-again-are}
use Rattle.jn_row_ranges.proofs.NamedByWorkers.{worker-within, step-within, timeout-within, worker-again-within, more-works}
use Rattle.jn_row_ranges.proofs.NamedByCoordinators.{coordinator-within, close-within, coordinator-again-within, sent-both, more-transactions}

some : {A : Type 0} (a b : A) → Some a ≡ Some b → a ≡ b
some a b q = cc

-- the row of a step is that of the worker
module _ (m : Memory) (x : StableState) (room : Room) (P : RowOutcome Memory → Type 0) where
  from-worker : ((r : RowOutcome WorkerTable) → worker_step m.worker (storage_of m x room) m.tickets ≡ Some r → P (of_worker m r)) → (row : RowOutcome Memory) → server_step m x room ≡ Some row → P row
  from-worker h row e = by (worker_step m.worker (storage_of m x room) m.tickets) refl e
    where
      by : (o : Option (RowOutcome WorkerTable)) → worker_step m.worker (storage_of m x room) m.tickets ≡ o → of_step m o ≡ Some row → P row
      by None q f = absurd (cc f)
      by (Some r) q f = subst P (some (of_worker m r) row f) (h r q)

-- the worker's row or the coordinator's
abbrev row_of : Memory → StableState → Room → Message → Bool → RowOutcome Memory
row_of m x room message b = if b then of_worker m (worker_row m.worker (storage_of m x room) m.tickets message) else of_coordinator m (coordinator_row m.coordinator room.free.records m.tickets message)

-- ---- what is sent, and what is drawn

pub row-plain : (m : Memory) (x : StableState) (room : Room) (message : Message) → IsPlain m.tickets (server_row m x room message).messages (server_row m x room message).table.tickets
row-plain m x room message = by (is_for_worker message)
  where
    by : (b : Bool) → IsPlain m.tickets (row_of m x room message b).messages (row_of m x room message b).table.tickets
    by true = worker-plain m.worker (storage_of m x room) m.tickets message
    by false = coordinator-plain m.coordinator m.tickets room.free.records message

pub row-requests : (m : Memory) (x : StableState) (room : Room) (message : Message) → are_from_server (server_row m x room message).messages ≡ true
row-requests m x room message = let p = row-plain m x room message in p.requests

pub row-drawn : (m : Memory) (x : StableState) (room : Room) (message : Message) → AreDrawn m.tickets (server_row m x room message).messages (server_row m x room message).table.tickets
row-drawn m x room message = let p = row-plain m x room message in p.drawn

pub step-requests : (m : Memory) (x : StableState) (room : Room) (row : RowOutcome Memory) → server_step m x room ≡ Some row → are_from_server row.messages ≡ true
step-requests m x room = from-worker m x room (λ row. are_from_server row.messages ≡ true) (λ r e. (step-plain m.worker (storage_of m x room) m.tickets r e).0)

pub step-tickets : (m : Memory) (x : StableState) (room : Room) (row : RowOutcome Memory) → server_step m x room ≡ Some row → row.table.tickets ≡ m.tickets
step-tickets m x room = from-worker m x room (λ row. row.table.tickets ≡ m.tickets) (λ r e. (step-plain m.worker (storage_of m x room) m.tickets r e).1)

pub again-requests : (m : Memory) (x : StableState) → are_from_server (server_again m x) ≡ true
again-requests m x = both (worker_again x m.worker) (coordinator_again m.coordinator.transactions) (worker-again-are x m.worker) (coordinator-again-are m.coordinator.transactions)

pub timeout-tickets : (m : Memory) (T : Tid) → (server_timeout m T).tickets ≡ m.tickets
timeout-tickets m T = by (timed_out m.worker (work_of T m.worker))
  where
    by : (o : Option WorkerTable) → (of_timeout m o).tickets ≡ m.tickets
    by None = refl
    by (Some t) = refl

-- ---- what is named

module _ (n : ℕ) (s : ServerNo) (m : Memory) (h : MemoryWithin n s m) where
  mine : is_near n s ≡ true → is_near n m.tickets.server ≡ true
  mine near = subst (λ (q : ServerNo). is_near n q ≡ true) (sym h.own) near

  pub row-within : (x : StableState) (room : Room) (message : Message) → is_near n s ≡ true → names_near n message ≡ true → RowWithin n s (server_row m x room message)
  row-within x room message near names = by (is_for_worker message) ((row-drawn m x room message).server)
    where
      by : (b : Bool) → (row_of m x room message b).table.tickets.server ≡ m.tickets.server → RowWithin n s (row_of m x room message b)
      by true own = let r = worker-within n m.worker (storage_of m x room) m.tickets h.works message (mine near) names in
          record { memory = record { own = own ∙ h.own; works = r.table; transactions = h.transactions }; changes = r.changes_are; sent = r.sent_are }
      by false own = let r = coordinator-within n m.coordinator room.free.records m.tickets h.transactions message (mine near) names in
          record { memory = record { own = own ∙ h.own; works = h.works; transactions = r.table }; changes = r.changes_are; sent = r.sent_are }

  pub step-row-within : (x : StableState) (room : Room) (row : RowOutcome Memory) → server_step m x room ≡ Some row → RowWithin n s row
  step-row-within x room = from-worker m x room (λ row. RowWithin n s row) (λ r e. let w = step-within n m.worker (storage_of m x room) m.tickets h.works r e in let same = (step-plain m.worker (storage_of m x room) m.tickets r e).1 in
      record { memory = record { own = ap (λ (k : Tickets). k.server) same ∙ h.own; works = w.table; transactions = h.transactions }; changes = w.changes_are; sent = w.sent_are })

  pub again-within : (x : StableState) → are_within n (server_again m x) ≡ true
  again-within x = sent-both n (worker_again x m.worker) (coordinator_again m.coordinator.transactions) (worker-again-within n x m.worker h.works) (coordinator-again-within n m.coordinator.transactions h.transactions)

  pub timeout-memory-within : (T : Tid) → MemoryWithin n s (server_timeout m T)
  timeout-memory-within T = by (timed_out m.worker (work_of T m.worker)) refl
    where
      by : (o : Option WorkerTable) → timed_out m.worker (work_of T m.worker) ≡ o → MemoryWithin n s (of_timeout m o)
      by None e = h
      by (Some t) e = record { own = h.own; works = timeout-within n m.worker (storage_of m (record { epoch = 0; files = λ u. None; works = λ W. None; flags = λ U. None }) (record { free = record { records = 0; heads = 0; pages = 0 }; maps = λ f j. false; rubbish = false })) m.tickets h.works (work_of T m.worker) t e; transactions = h.transactions }

  pub close-row-within : RowWithin n s (of_coordinator m (close_clients_row m.coordinator m.tickets))
  close-row-within = let r = close-within n m.coordinator 0 m.tickets h.transactions in
      record { memory = record { own = h.own; works = h.works; transactions = r.table }; changes = r.changes_are; sent = r.sent_are }

-- ---- what is stable

first-of : (a b : Bool) → (a && b) ≡ true → a ≡ true
first-of a b h = grind arith

second-of : (a b : Bool) → (a && b) ≡ true → b ≡ true
second-of a b h = grind arith

change-works : (n : ℕ) (c : Change) (x : StableState) → is_change_within n c ≡ true → StateWithin n x → (W : WorkId) (p : Prepared) → (made_by c x).works W ≡ Some p → are_both_near n p.tid W ≡ true
change-works n (AddReady head list reads) x h old W p e = let tells = work_tells head.work W in let before = old.works W p in grind (arith, h, e)
change-works n (MarkGoing V) x h old W p e = let tells = work_tells V W in let before = old.works V in let other = old.works W p in grind (arith, e)
change-works n (RemoveWork V) x h old W p e = let before = old.works W p in grind (arith, e)
change-works n c x h old W p e = old.works W p e

change-flags : (n : ℕ) (c : Change) (x : StableState) → is_change_within n c ≡ true → StateWithin n x → (T : Tid) (flag : FlagState) → (made_by c x).flags T ≡ Some flag → (is_near n T.server && is_few n flag.works) ≡ true
change-flags n (AddFlag f) x h old T flag e = let tells = tid_tells f.tid T in let before = old.flags T flag in grind (arith, h, e)
change-flags n (DropFlag U) x h old T flag e = let before = old.flags T flag in grind (arith, e)
change-flags n c x h old T flag e = old.flags T flag e

pub changes-within : (n k : ℕ) (changes : List Change) (x : StableState) → are_changes_within n changes ≡ true → StateWithin n x → StateWithin n (made_all (take k changes) x)
changes-within n zero [] x h old = old
changes-within n (suc k) [] x h old = old
changes-within n zero (c ∷ changes) x h old = old
changes-within n (suc k) (c ∷ changes) x h old = let one = first-of _ _ h in changes-within n k changes (made_by c x) (second-of _ _ h) (record { works = change-works n c x one old; flags = change-flags n c x one old })

pub all-changes-within : (n : ℕ) (changes : List Change) (x : StableState) → are_changes_within n changes ≡ true → StateWithin n x → StateWithin n (made_all changes x)
all-changes-within n [] x h old = old
all-changes-within n (c ∷ changes) x h old = let one = first-of _ _ h in all-changes-within n changes (made_by c x) (second-of _ _ h) (record { works = change-works n c x one old; flags = change-flags n c x one old })

-- ---- after a restart

restored-works : (n : ℕ) (x : StableState) (Ws : List WorkId) → StateWithin n x → are_works_within n (restored_worker x Ws) ≡ true
restored-works n x [] h = refl
restored-works n x (W ∷ Ws) h = more-works n (restored_work W (x.works W)) (restored_worker x Ws) (by (x.works W) refl) (restored-works n x Ws h)
  where
    by : (o : Option Prepared) → x.works W ≡ o → are_works_within n (restored_work W o) ≡ true
    by None e = refl
    by (Some p) e = let own = h.works W p e in grind (arith, own)

restored-transactions : (n : ℕ) (x : StableState) (Ts : List Tid) → StateWithin n x → are_transactions_within n (restored_transactions x Ts) ≡ true
restored-transactions n x [] h = refl
restored-transactions n x (T ∷ Ts) h = more-transactions n (restored_transaction T (x.flags T)) (restored_transactions x Ts) (by (x.flags T) refl) (restored-transactions n x Ts h)
  where
    by : (o : Option FlagState) → x.flags T ≡ o → are_transactions_within n (restored_transaction T o) ≡ true
    by None e = refl
    by (Some f) e = let own = h.flags T f e in grind (arith, own)

pub restored-within : (n : ℕ) (s : ServerNo) (x : StableState) (Ws : List WorkId) (Ts : List Tid) → StateWithin n x → MemoryWithin n s (restored s x Ws Ts)
restored-within n s x Ws Ts h = record { own = refl; works = restored-works n x Ws h; transactions = restored-transactions n x Ts h }

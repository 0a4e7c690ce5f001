-- No work, no message and no stable state has a block from `most_blocks` on, whatever steps come one after another.
use Rattle.jn_laws.proofs.Common.{◌≡◌, ◌≢◌, ◌⊎◌, inl, inr, ℕ, Bool, true, false, true≢false, List, [], ◌∷◌, ◌++◌, length, take, zero, suc, Option, Some, None, refl, sym, ◌∙◌, ap, subst, ◌&&◌, if◌then◌else◌, nat_lt, nat_le, slice_get, ⊤, list_all, AllByRecursion, take-length, All-nil, All-cons, All-append, ServerNo, ClientNo, FileNo, BlockNo, WorkId, Tid, Block, Party, Server, most_blocks, file_eq, block_eq, work_eq, block_tells, Files, change, or_else, IntentionWrite, Message, Text, Taken, Transaction, ActiveWork, Phase, Active, Broken, Stored, Work, ClientTable, take_row, CoordinatorTable, coordinator_row, close_clients_row, RowOutcome, Sent, StableState, Prepared, Pick, Change, AddReady, MarkGoing, CarryOut, RemoveWork, AddFlag, DropFlag, gone_on, ready_work, made_by, made_all, stable, WorkerTable, WorkStorage, is_fit, intentions_of, restored_work, restored_worker, timeout_row, units_for, vulnerable, wants_of, worker_row, worker_step, unit_in_range, World, Memory, with_epoch, Room, storage_of, server_row, server_step, server_again, server_timeout, of_worker, of_coordinator, of_step, of_timeout, is_for_worker, restored, Step, Tell, after, run, sent_now, CoordinatorCase, begins_anew, finds_no_room, coordinator-case, WorkerCase, prepares_it, WorkerStep, carries_out, worker-case, worker-step-case, CanBeTaken, CommandInRange, command-fits, take-fits, over-fits, servers-taken, both, first-of, second-of, some-more, wants-in-range, list-in-range, BlockInRange, InRange, Left, left_of}
use Rattle.jn_records.specs.NetEdits.{list_after}
use Rattle.jn_row_ranges.specs.Taking.{AllCanBeTaken, ClientFits, CommandFits, sent_for}
use Rattle.jn_base.specs.declared.names.Tickets.{Tickets}
use Rattle.jn_base.specs.declared.op.Op.{Op}
use Rattle.jn_records.specs.declared.intention.Intention.{Intention}
use Rattle.jn_records.specs.declared.intention.What.{What}
use Rattle.jn_records.specs.declared.intention.What.TheVariants.{Fresh, Gone, Cut, Put}
use Rattle.jn_records.specs.NetLists.{change_by}
use Rattle.jn_records.specs.NetEdits.{intention_for}
use Rattle.jn_rows.specs.declared.client.Taken.TheVariants as taken
use Rattle.jn_rows.proofs.Left.{left-files}
use Rattle.jn_worker.proofs.EachPhase.{Rules, joined, row-keeps, step-keeps, timeout-keeps}
use Rattle.jn_worker.proofs.Listed.{all_after, new_in_range}
use Rattle.jn_intent.proofs.NetOrder.{all_at}
use Rattle.jn_system.proofs.WholeSystem.Closes.{Closes, Empty, Stays, Goes, Waits, Forgets, client-closes, outcomes-close}
use Rattle.jn_system.proofs.WholeSystem.OneChange.{one-client, memory-now, memory-gone}
use Rattle.jn_system.proofs.WholeSystem.StepCases.{ClientRow, by_command, by_ignoring, by_answering, by_telling, ServerRow, of_message, of_work, of_closing, Quiet, client_repeats, server_repeats, StepCase, client_row, row_done, row_stopped, gone_late, gone_down, come_up, found_anew, dismissed, quietly, step-case, found-now, found-then}
use Rattle.jn_system_order.proofs.Mirroring.StepMoves.{holds-of}
use Rattle.jn_row_ranges.proofs.ServerRows.{row-requests, step-requests, again-requests}

-- ---- what is in range

abbrev is_in_range : Intention → Bool
is_in_range i = nat_lt i.block.0 most_blocks

abbrev are_in_range : List Intention → Bool
are_in_range list = list_all is_in_range list

-- what a work holds for writing, and what it would be prepared with
abbrev pub PhaseInRange : Phase → Type 0
PhaseInRange (Active a) = (list_all unit_in_range a.writes ≡ true) × (are_in_range a.list ≡ true)
PhaseInRange (Stored q) = list_all unit_in_range q.writes ≡ true
PhaseInRange (Broken u by) = ⊤

abbrev pub WorksInRange : WorkerTable → Type 0
WorksInRange t = AllByRecursion (λ (w : Work). PhaseInRange w.phase) t

-- what a change adds to a list or to the files
abbrev change_in_range : Change → Bool
change_in_range (AddReady head list reads) = are_in_range list
change_in_range (CarryOut W i) = is_in_range i
change_in_range c = true

-- a row for a message carries no intention out, so this is all that is asked of it
abbrev ready_in_range : Change → Bool
ready_in_range (AddReady head list reads) = are_in_range list
ready_in_range c = true

-- no block from `most_blocks` on is stored
abbrev pub FilesInRange : Files → Type 0
FilesInRange files = (f : FileNo) (p : BlockNo) → nat_lt p.0 most_blocks ≡ false → files (Block f p) ≡ None

pub record StateInRange (x : StableState) : Type 0 where
  pub files : FilesInRange x.files
  pub works : (W : WorkId) (p : Prepared) → x.works W ≡ Some p → are_in_range p.list ≡ true

-- Whatever may yet be handed over asks for blocks in range, so this holds step after step.
pub record WorldInRange (w : World) : Type 0 where
  pub sent : AllCanBeTaken w.sent
  pub clients : (c : ClientNo) → ClientFits (w.clients c)
  pub memory : (q : ServerNo) (m : Memory) → w.memory q ≡ Some m → WorksInRange m.worker
  pub found : (q : ServerNo) (c : Pick) → StateInRange (w.found q c)

-- a block comes in by a client's command alone
abbrev pub StepInRange : Step → Type 0
StepInRange (Tell c command) = CommandInRange command
StepInRange step = ⊤

-- ---- a worker's rows

listed : (b : Bool) (a : ActiveWork) (op : Op) → BlockInRange op → are_in_range a.list ≡ true → are_in_range (if b then list_after (intention_for a.list op) op a.list else a.list) ≡ true
listed true a op r h = all_after is_in_range is_in_range op a.list (intention_for a.list op) refl (λ i stays p. p) (λ new e. new_in_range a.list op new e r) h
listed false a op r h = h

rules : Rules PhaseInRange ready_in_range
rules = record {
  new = λ W T. (refl, refl);
  broken = λ u T. tt;
  refused = λ a answer i. i;
  done = λ a op answer r i. (some-more (units_for IntentionWrite (wants_of op (is_fit answer))) a.writes (wants-in-range op (is_fit answer) r) i.0, listed (is_fit answer) a op r i.1);
  stored = λ a i. i.0;
  vulnerable = same;
  adds = λ c w a i. i.1;
  marks = λ W. refl;
  carries = λ W i. refl;
  removes = λ W. refl;
}
  where
    same : (p : Phase) → PhaseInRange p → PhaseInRange (vulnerable p)
    same (Active a) i = i
    same (Broken u by) i = i
    same (Stored q) i = i

module _ (t : WorkerTable) (s : WorkStorage) (k : Tickets) (h : WorksInRange t) where
  abbrev Keeps : RowOutcome WorkerTable → Type 0
  Keeps row = WorksInRange row.table × (list_all change_in_range row.changes ≡ true)

  worker-keeps : (m : Message) → InRange m → Keeps (worker_row t s k m)
  worker-keeps m r = let keeps = row-keeps PhaseInRange ready_in_range rules t h s k m r in (keeps.0, by m (worker_row t s k m) (worker-case t s k m) keeps.1)
    where
      by : (m : Message) (row : RowOutcome WorkerTable) → WorkerCase t s k m row → list_all ready_in_range row.changes ≡ true → list_all change_in_range row.changes ≡ true
      by _ _ (prepares_it T c W w a e f v) ready = ready
      by _ _ _ ready = refl

  step-in-range : (x : StateInRange s.state) (row : RowOutcome WorkerTable) → worker_step t s k ≡ Some row → Keeps row
  step-in-range x row e = ((step-keeps PhaseInRange ready_in_range rules t h s k row e).0, by row (worker-step-case t s k row e))
    where
      carried : (o : Option Prepared) (n : ℕ) (i : Intention) → ((p : Prepared) → o ≡ Some p → are_in_range p.list ≡ true) → slice_get (intentions_of o) n ≡ Some i → is_in_range i ≡ true
      carried None n i are at = absurd (cc at)
      carried (Some p) n i are at = all_at is_in_range p.list n i (are p refl) at

      by : (row : RowOutcome WorkerTable) → WorkerStep t s k row → list_all change_in_range row.changes ≡ true
      by _ (carries_out w i e at) = both (carried (s.state.works w.name) (s.next w.name) i (x.works w.name) at) refl
      by _ _ = refl

-- ---- a server's rows

closes-flags : {P : Transaction → Type 0} {xs ys : List Transaction} {cs : List Change} → Closes P xs ys cs → list_all change_in_range cs ≡ true
closes-flags Empty = refl
closes-flags (Stays y c) = closes-flags c
closes-flags (Goes y p e c) = closes-flags c
closes-flags (Waits y d p e c) = closes-flags c
closes-flags (Forgets y d p e g c) = closes-flags c

coordinator-flags : (t : CoordinatorTable) (free : ℕ) (k : Tickets) (m : Message) → list_all change_in_range (coordinator_row t free k m).changes ≡ true
coordinator-flags t free k m = by m (coordinator_row t free k m) (coordinator-case t free k m)
  where
    by : (m : Message) (row : RowOutcome CoordinatorTable) → CoordinatorCase t free k m row → list_all change_in_range row.changes ≡ true
    by _ _ (begins_anew c q later room) = closes-flags (client-closes c t.transactions)
    by _ _ (finds_no_room c q later full) = closes-flags (client-closes c t.transactions)
    by _ _ _ = refl

record RowInRange (row : RowOutcome Memory) : Type 0 where
  works : WorksInRange row.table.worker
  changes : list_all change_in_range row.changes ≡ true
  sent : AllCanBeTaken row.messages

module _ (m : Memory) (h : WorksInRange m.worker) where
  message-row : (x : StableState) (room : Room) (message : Message) → InRange message → RowInRange (server_row m x room message)
  message-row x room message r = record { works = rows.0; changes = rows.1; sent = servers-taken (server_row m x room message).messages (row-requests m x room message) }
    where
      by : (b : Bool) → (row : RowOutcome Memory) → row ≡ (if b then of_worker m (worker_row m.worker (storage_of m x room) m.tickets message) else of_coordinator m (coordinator_row m.coordinator room.free.records m.tickets message))
          → WorksInRange row.table.worker × (list_all change_in_range row.changes ≡ true)
      by true row e = subst (λ (z : RowOutcome Memory). WorksInRange z.table.worker × (list_all change_in_range z.changes ≡ true)) (sym e) (worker-keeps m.worker (storage_of m x room) m.tickets h message r)
      by false row e = subst (λ (z : RowOutcome Memory). WorksInRange z.table.worker × (list_all change_in_range z.changes ≡ true)) (sym e) (h, coordinator-flags m.coordinator room.free.records m.tickets message)

      rows : WorksInRange (server_row m x room message).table.worker × (list_all change_in_range (server_row m x room message).changes ≡ true)
      rows = by (is_for_worker message) (server_row m x room message) refl

  work-row : (x : StableState) (room : Room) (row : RowOutcome Memory) → StateInRange x → server_step m x room ≡ Some row → RowInRange row
  work-row x room row are e = by (worker_step m.worker (storage_of m x room) m.tickets) refl e
    where
      some : (a b : RowOutcome Memory) → Some a ≡ Some b → a ≡ b
      some a b q = cc

      by : (o : Option (RowOutcome WorkerTable)) → worker_step m.worker (storage_of m x room) m.tickets ≡ o → of_step m o ≡ Some row → RowInRange row
      by None f q = absurd (cc q)
      by (Some r) f q = let keeps = step-in-range m.worker (storage_of m x room) m.tickets h are r f in let same = some (of_worker m r) row q in record {
        works = subst (λ (z : RowOutcome Memory). WorksInRange z.table.worker) same keeps.0;
        changes = subst (λ (z : RowOutcome Memory). list_all change_in_range z.changes ≡ true) same keeps.1;
        sent = servers-taken row.messages (step-requests m x room row e);
      }

  closing-row : RowInRange (of_coordinator m (close_clients_row m.coordinator m.tickets))
  closing-row = record { works = h; changes = closes-flags (outcomes-close m.coordinator.transactions); sent = All-nil (λ (x : Sent). CanBeTaken x.1) }

  late : (T : Tid) → WorksInRange (server_timeout m T).worker
  late T = by (timeout_row m.worker T) refl
    where
      by : (o : Option WorkerTable) → timeout_row m.worker T ≡ o → WorksInRange (of_timeout m o).worker
      by None e = h
      by (Some t) e = timeout-keeps PhaseInRange ready_in_range rules m.worker T t h e

-- ---- what is stable

files-changed : (what : What) (f : FileNo) (n : BlockNo) (bytes : List ℕ) (files : Files) → nat_lt n.0 most_blocks ≡ true → FilesInRange files → FilesInRange (change (change_by what f n bytes) files)
files-changed what f n bytes files r h g p past = by what
  where
    gone : (b : Bool) (o : Option (List ℕ)) → o ≡ None → or_else (if b then Some None else None) o ≡ None
    gone true o e = refl
    gone false o e = e

    put : (a b : Bool) (o : Option (List ℕ)) → o ≡ None → b ≡ false → or_else (if a && b then Some (Some bytes) else None) o ≡ None
    put a true o e z = absurd (true≢false z)
    put true false o e z = e
    put false false o e z = e

    other : ((block_eq n p ≡ true) × (n ≡ p)) ⊎ ((block_eq n p ≡ false) × (n ≢ p)) → block_eq n p ≡ false
    other (inl t) = absurd (true≢false (sym r ∙ ap (λ (q : BlockNo). nat_lt q.0 most_blocks) t.1 ∙ past))
    other (inr t) = t.0

    by : (what : What) → change (change_by what f n bytes) files (Block g p) ≡ None
    by Fresh = gone (file_eq f g) (files (Block g p)) (h g p past)
    by Gone = gone (file_eq f g) (files (Block g p)) (h g p past)
    by Cut = gone (file_eq f g && nat_le n.0 p.0) (files (Block g p)) (h g p past)
    by Put = put (file_eq f g) (block_eq n p) (files (Block g p)) (h g p past) (other (block_tells n p))

made-one : (c : Change) (x : StableState) → change_in_range c ≡ true → StateInRange x → StateInRange (made_by c x)
made-one (AddReady head list reads) x r h = record { files = h.files; works = λ W p. by W p (work_eq head.work W) }
  where
    its : (p q : Prepared) → Some p ≡ Some q → p ≡ q
    its p q e = cc

    by : (W : WorkId) (p : Prepared) (b : Bool) → (if b then Some (ready_work head list reads) else x.works W) ≡ Some p → are_in_range p.list ≡ true
    by W p true e = subst (λ (q : Prepared). are_in_range q.list ≡ true) (its (ready_work head list reads) p e) r
    by W p false e = h.works W p e
made-one (MarkGoing V) x r h = record { files = h.files; works = λ W p. by W p (work_eq V W) }
  where
    its : (p q : Prepared) → Some p ≡ Some q → p ≡ q
    its p q e = cc

    marked : (o : Option Prepared) (p : Prepared) → ((q : Prepared) → o ≡ Some q → are_in_range q.list ≡ true) → gone_on o ≡ Some p → are_in_range p.list ≡ true
    marked None p are e = absurd (cc e)
    marked (Some q) p are e = subst (λ (z : Prepared). are_in_range z.list ≡ true) (its (record q { going = true }) p e) (are q refl)

    by : (W : WorkId) (p : Prepared) (b : Bool) → (if b then gone_on (x.works V) else x.works W) ≡ Some p → are_in_range p.list ≡ true
    by W p true e = marked (x.works V) p (h.works V) e
    by W p false e = h.works W p e
made-one (CarryOut W i) x r h = record { files = files-changed i.what i.file i.block i.bytes x.files r h.files; works = h.works }
made-one (RemoveWork V) x r h = record { files = h.files; works = λ W p. by W p (work_eq V W) }
  where
    by : (W : WorkId) (p : Prepared) (b : Bool) → (if b then None else x.works W) ≡ Some p → are_in_range p.list ≡ true
    by W p true e = absurd (cc e)
    by W p false e = h.works W p e
made-one (AddFlag flag) x r h = record { files = h.files; works = h.works }
made-one (DropFlag T) x r h = record { files = h.files; works = h.works }

made-some : (k : ℕ) (changes : List Change) (x : StableState) → list_all change_in_range changes ≡ true → StateInRange x → StateInRange (made_all (take k changes) x)
made-some zero [] x r h = h
made-some (suc k) [] x r h = h
made-some zero (c ∷ changes) x r h = h
made-some (suc k) (c ∷ changes) x r h = made-some k changes (made_by c x) (second-of (change_in_range c) (list_all change_in_range changes) r) (made-one c x (first-of (change_in_range c) (list_all change_in_range changes) r) h)

made-each : (changes : List Change) (x : StableState) → list_all change_in_range changes ≡ true → StateInRange x → StateInRange (made_all changes x)
made-each changes x r h = subst (λ (cs : List Change). StateInRange (made_all cs x)) (take-length changes) (made-some (length changes) changes x r h)

-- what a stop leaves has no other blocks than the whole changes that are made
left-in-range : (l : Left) (changes : List Change) (x : StableState) → StateInRange (made_all (take l.whole changes) x) → StateInRange (left_of l changes x)
left-in-range l changes x h = record { files = λ f p past. by f p past (left-files l changes x (Block f p)); works = h.works }
  where
    by : (f : FileNo) (p : BlockNo) → nat_lt p.0 most_blocks ≡ false
        → ((left_of l changes x).files (Block f p) ≡ (made_all (take l.whole changes) x).files (Block f p)) ⊎ ((left_of l changes x).files (Block f p) ≡ None) → (left_of l changes x).files (Block f p) ≡ None
    by f p past (inl e) = e ∙ h.files f p past
    by f p past (inr e) = e

restored-works : (x : StableState) (Ws : List WorkId) → StateInRange x → WorksInRange (restored_worker x Ws)
restored-works x [] h = tt
restored-works x (W ∷ Ws) h = joined PhaseInRange ready_in_range rules (restored_work W (x.works W)) (restored_worker x Ws) (by (x.works W) (h.works W)) (restored-works x Ws h)
  where
    by : (o : Option Prepared) → ((p : Prepared) → o ≡ Some p → are_in_range p.list ≡ true) → WorksInRange (restored_work W o)
    by None are = tt
    by (Some p) are = (list-in-range p.list (are p refl), tt)

-- ---- every step

module _ (w : World) (h : WorldInRange w) where
  more : (sent : List Sent) → AllCanBeTaken sent → AllCanBeTaken (w.sent ++ sent)
  more sent r = All-append (λ (x : Sent). CanBeTaken x.1) w.sent sent h.sent r

  at-sent : (k : ℕ) (x : Sent) → slice_get w.sent k ≡ Some x → CanBeTaken x.1
  at-sent k x e = holds-of (λ (y : Sent). CanBeTaken y.1) w.sent k x h.sent e

  taken-fits : (c : ClientNo) (message : Message) (t : ClientTable) (r : Taken) → take_row (w.clients c) message ≡ (t, r) → ClientFits t × AllCanBeTaken (sent_for r)
  taken-fits c message t r is = subst (λ (z : ClientTable × Taken). ClientFits z.0 × AllCanBeTaken (sent_for z.1)) is (take-fits (w.clients c) message (h.clients c))

  client-fits : (step : Step) (c : ClientNo) (t : ClientTable) (sent : List Sent) (lines : List Text) → StepInRange step → ClientRow w c step t sent lines → ClientFits t × AllCanBeTaken sent
  client-fits _ c _ _ _ r (by_command command t to message is) = let fits = subst CommandFits is (command-fits (w.clients c) w.event command (h.clients c) r) in
      (fits.0, more ((to, message) ∷ []) (one-sent to message fits.1))
    where
      one-sent : (to : Party) (message : Message) → CanBeTaken message → AllCanBeTaken ((to, message) ∷ [])
      one-sent to message can = All-cons (λ (x : Sent). CanBeTaken x.1) (to, message) [] can (All-nil (λ (x : Sent). CanBeTaken x.1))
  client-fits _ c _ _ _ r (by_ignoring k room stop message t e is) = ((taken-fits c message t taken.Ignored is).0, h.sent)
  client-fits _ c _ _ _ r (by_answering k room stop message t to answer e is) = let fits = taken-fits c message t (taken.Send to answer) is in (fits.0, more ((to, answer) ∷ []) fits.1)
  client-fits _ c _ _ _ r (by_telling k room stop message t line answer e is) = let fits = taken-fits c message t (taken.Told line answer) is in (fits.0, more (sent_now answer) fits.1)

  its-row : (s : ServerNo) (m : Memory) (stop : Option (Pick → Left)) (step : Step) (k : Option ℕ) (row : RowOutcome Memory) → w.memory s ≡ Some m → ServerRow w s m stop step k row → RowInRange row
  its-row s m _ _ _ _ e (of_message stop k room message is) = message-row m (h.memory s m e) (stable (w.found s)) room message (at-sent k (Server s, message) is).in_range
  its-row s m _ _ _ _ e (of_work stop room row is) = work-row m (h.memory s m e) (stable (w.found s)) room row (h.found s (λ n. false)) is
  its-row s m _ _ _ _ e of_closing = closing-row m (h.memory s m e)

  quiet-sent : (step : Step) (event : ℕ) (sent : List Sent) (lines : List Text) → Quiet w step event sent lines → AllCanBeTaken sent
  quiet-sent _ _ _ _ (client_repeats c) = more _ (h.clients c).again
  quiet-sent _ _ _ _ (server_repeats s m e) = more _ (servers-taken (server_again m (stable (w.found s))) (again-requests m (stable (w.found s))))
  quiet-sent _ _ _ _ is = h.sent

  raised : (x : StableState) → StateInRange x → StateInRange (with_epoch x)
  raised x old = record { files = old.files; works = old.works }

  by-case : (step : Step) (now : World) → StepInRange step → StepCase w step now → WorldInRange now
  by-case step _ r (client_row _ c t sent lines row) = let fits = client-fits step c t sent lines r row in record {
    sent = fits.1;
    clients = one-client (λ d. ClientFits) w.clients c t fits.0 (λ d other. h.clients d);
    memory = h.memory;
    found = h.found;
  }
  by-case step _ r (row_done _ s m k row e is) = let its = its-row s m None step k row e is in record {
    sent = more row.messages its.sent;
    clients = h.clients;
    memory = memory-now (λ (z : Memory). WorksInRange z.worker) w.memory h.memory s row.table its.works;
    found = found-now StateInRange w h.found s (λ c. made_all row.changes (w.found s c)) (λ c. made-each row.changes (w.found s c) its.changes (h.found s c));
  }
  by-case step _ r (row_stopped _ s m k row made e is) = let its = its-row s m (Some made) step k row e is in record {
    sent = h.sent;
    clients = h.clients;
    memory = memory-gone (λ (z : Memory). WorksInRange z.worker) w.memory h.memory s;
    found = found-now StateInRange w h.found s (λ c. left_of (made c) row.changes (w.found s c))
        (λ c. left-in-range (made c) row.changes (w.found s c) (made-some (made c).whole row.changes (w.found s c) its.changes (h.found s c)));
  }
  by-case _ _ r (gone_late s m T e) = record { sent = h.sent; clients = h.clients; memory = memory-now (λ (z : Memory). WorksInRange z.worker) w.memory h.memory s (server_timeout m T) (late m (h.memory s m e) T); found = h.found }
  by-case _ _ r (gone_down s m e) = record { sent = h.sent; clients = h.clients; memory = memory-gone (λ (z : Memory). WorksInRange z.worker) w.memory h.memory s; found = h.found }
  by-case _ _ r (come_up s pick Ws Ts e) = record {
    sent = h.sent;
    clients = h.clients;
    memory = memory-now (λ (z : Memory). WorksInRange z.worker) w.memory h.memory s (restored s (w.found s pick) Ws Ts) (restored-works (w.found s pick) Ws (h.found s pick));
    found = found-now StateInRange w h.found s (λ c. with_epoch (w.found s pick)) (λ c. raised (w.found s pick) (h.found s pick));
  }
  by-case step _ r (found_anew _ s found lines e is) = record { sent = h.sent; clients = h.clients; memory = h.memory; found = found-then StateInRange w h.found s raised step found lines is }
  by-case _ _ r dismissed = record { sent = h.sent; clients = λ c. over-fits (w.clients c) (h.clients c); memory = h.memory; found = h.found }
  by-case step _ r (quietly _ event sent lines is) = record { sent = quiet-sent step event sent lines is; clients = h.clients; memory = h.memory; found = h.found }

  pub after-in-range : (step : Step) → StepInRange step → WorldInRange (after step w)
  after-in-range step r = by-case step (after step w) r (step-case w step)

pub run-in-range : (steps : List Step) (w : World) → AllByRecursion StepInRange steps → WorldInRange w → WorldInRange (run steps w)
run-in-range [] w r h = h
run-in-range (step ∷ steps) w r h = run-in-range steps (after step w) r.1 (after-in-range w h step r.0)

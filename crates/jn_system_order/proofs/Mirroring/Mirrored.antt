-- Where the machine's steps do what a row does, the machine stands again where the whole system does.
use Rattle.jn_system_order.proofs.Common.{◌≡◌, ◌≢◌, ◌⊎◌, inl, inr, ℕ, zero, suc, Bool, true, false, List, [], ◌∷◌, ◌++◌, append-nil, Option, Some, None, is_some, refl, sym, ◌∙◌, ap, subst, if◌then◌else◌, take, All, All-append, ServerNo, Tid, WorkId, server_eq, server_tells, Message, Inquire, Note, Text, Transaction, Stage, Open, Voting, Committed, Aborted, transaction_at, Work, OpenWork, Outstanding, ClientTable, StableState, Change, Pick, made_by, made_all, next_after, RowOutcome, Sent, WorkerTable, work_at, Machine, Unknown, AreParts, Says, World, Memory, at_server, commits_in, committed_in, of_worker, line_of, lines_of, done, stopped, Mirrors, IsTrue, IsAddressed, AreOpen, IsCurrent, IsOutstanding, IsClient, IsStage, IsTransaction, AreTransactions, commits_of, working_of, active_in, next_in, knowledge_of, known_in, crash, some-memory, none-memory, Left, left_of, part_of, slice_get, LockUnit, AddReady, MarkGoing, RemoveWork, AddFlag, DropFlag, CarryOut, true≢false, left-is, BlockNo}
use Rattle.jn_msgs.specs.declared.message.Message.TheVariants as messages
use Rattle.jn_msgs.specs.declared.message.Outcome.TheVariants as outcomes
use Rattle.jn_msgs.specs.declared.message.Note.TheVariants as notes
use Rattle.jn_report.specs.declared.line.Text.TheVariants as says

-- what the machine's steps have changed at the server of a worker's row
pub record DoesRow (s : ServerNo) (m : Memory) (row : RowOutcome WorkerTable) (w v : Machine) : Type 0 where
  pub up : (q : ServerNo) → v.up q ≡ w.up q
  pub found : (q : ServerNo) (c : Pick) → v.found q c ≡ (if server_eq s q then made_all row.changes (w.found s c) else w.found q c)
  pub here : (W : WorkId) → W.server ≡ s → v.active W ≡ working_of (work_at W row.table)
  pub elsewhere : (W : WorkId) → s ≢ W.server → v.active W ≡ w.active W
  pub next_here : (W : WorkId) → W.server ≡ s → v.next W ≡ next_after row.changes m.next W
  pub next_elsewhere : (W : WorkId) → s ≢ W.server → v.next W ≡ w.next W
  pub ticket_here : v.ticket s ≡ row.tickets.next
  pub ticket_elsewhere : (q : ServerNo) → s ≢ q → v.ticket q ≡ w.ticket q
  pub knowledge : (T : Tid) → v.knowledge T ≡ w.knowledge T
  pub history : v.history ≡ w.history
  pub ended : v.ended ≡ w.ended
  pub owner : (W : WorkId) (x : Work) → work_at W row.table ≡ Some x → Says v (Inquire x.tid W)
  pub grows : (message : Message) → Says w message → Says v message
  pub says : All (IsTrue v) row.messages
  pub addressed : All IsAddressed row.messages

-- ---- lines

-- the transactions that notes say have committed
abbrev pub named_in : Note → List Tid
named_in (notes.Commit T) = T ∷ []
named_in note = []

abbrev pub named_by : List Note → List Tid
named_by [] = []
named_by (note ∷ told) = named_in note ++ named_by told

pub append-append : (a b c : List Tid) → (a ++ b) ++ c ≡ a ++ (b ++ c)
append-append [] b c = refl
append-append (x ∷ a) b c = ap (λ z. x ∷ z) (append-append a b c)

pub commits-more : (a b : List Text) → commits_in (a ++ b) ≡ commits_in a ++ commits_in b
commits-more [] b = refl
commits-more (x ∷ a) b = ap (λ z. committed_in x ++ z) (commits-more a b) ∙ sym (append-append (committed_in x) (commits_in a) (commits_in b))

line-commits : (s : ServerNo) (k : Option ℕ) (note : Note) → commits_in (line_of s k note) ≡ named_in note
line-commits s k (notes.Commit T) = refl
line-commits s k (notes.Broke T u U) = refl
line-commits s (Some k) notes.Ignored = refl
line-commits s None notes.Ignored = refl

pub lines-commit : (s : ServerNo) (k : Option ℕ) (told : List Note) → commits_in (lines_of s k told) ≡ named_by told
lines-commit s k [] = refl
lines-commit s k (note ∷ told) = commits-more (line_of s k note) (lines_of s k told) ∙ ap (λ z. z ++ commits_in (lines_of s k told)) (line-commits s k note) ∙ ap (λ z. named_in note ++ z) (lines-commit s k told)

-- ---- what grows

pub All-grows : (w v : Machine) → ((message : Message) → Says w message → Says v message) → (sent : List Sent) → All (IsTrue w) sent → All (IsTrue v) sent
All-grows w v g sent h = λ k d l. g _ (h k d l)

module _ (w v : Machine) (g : (message : Message) → Says w message → Says v message) where
  ended-still : (T : Tid) (works : List WorkId) → w.begun T ≡ true → w.ended T ≡ true → AreParts w T works → (w.ended T ≡ true → v.ended T ≡ true) × AreParts v T works
  ended-still T works b e parts = let h = g (messages.End (record { 0 = 0 }) (record { 0 = 0 }) T works) (b, e, parts) in (λ q. h.1, h.2)

  stage-still : (T : Tid) (stage : Stage) → w.begun T ≡ true → IsStage w T stage → IsStage v T stage
  stage-still T Open b h = tt
  stage-still T (Voting y) b h = let k = ended-still T y.works b h.0 h.1 in (k.0 h.0, k.1)
  stage-still T (Committed d) b h = let k = ended-still T d.works b h.0 h.1 in (k.0 h.0, k.1, λ e. g (messages.Thanks (record { 0 = 0 }) T) (h.2 e))
  stage-still T (Aborted cause) b h = g (messages.Outcome (record { 0 = 0 }) T (outcomes.Aborted cause)) h

  pub transaction-still : (s : ServerNo) (x : Transaction) → IsTransaction w s x → IsTransaction v s x
  transaction-still s x h = record { place = h.place; begun = g (messages.Open (record { 0 = 0 }) (record { 0 = 0 }) x.tid) h.begun; is = stage-still x.tid x.stage h.begun h.is }

  pub transactions-still : (s : ServerNo) (xs : List Transaction) → AreTransactions w s xs → AreTransactions v s xs
  transactions-still s [] h = tt
  transactions-still s (x ∷ xs) h = (transaction-still s x h.0, h.1, transactions-still s xs h.2)

-- a client's table too
module _ (w v : Machine) (g : (message : Message) → Says w message → Says v message) where
  pub open-still : (T : Tid) (works : List OpenWork) → AreOpen w T works → AreOpen v T works
  open-still T [] h = tt
  open-still T (x ∷ works) h = (g (messages.Inquire T x.work) h.0, h.1, open-still T works h.2)

  current-still : (o : Option Tid) (works : List OpenWork) → IsCurrent w o works → IsCurrent v o works
  current-still None works h = tt
  current-still (Some T) works h = (g (messages.Open (record { 0 = 0 }) (record { 0 = 0 }) T) h.0, open-still T works h.1)

  waits-still : (o : Option Outstanding) → IsOutstanding w o → IsOutstanding v o
  waits-still None h = tt
  waits-still (Some o) h = (g o.message h.0, h.1)

  pub client-still : (t : ClientTable) → IsClient w t → IsClient v t
  client-still t h = record { current = current-still t.transaction t.works h.current; waits = waits-still t.outstanding h.waits; opening = h.opening }

-- ---- a row that is done

-- what the machine's steps have changed at the server of a row
pub record DoesServer (s : ServerNo) (row : RowOutcome Memory) (w v : Machine) : Type 0 where
  pub up : (q : ServerNo) → v.up q ≡ w.up q
  pub found : (q : ServerNo) (c : Pick) → v.found q c ≡ (if server_eq s q then made_all row.changes (w.found s c) else w.found q c)
  pub here : (W : WorkId) → W.server ≡ s → v.active W ≡ working_of (work_at W row.table.worker)
  pub elsewhere : (W : WorkId) → s ≢ W.server → v.active W ≡ w.active W
  pub next_here : (W : WorkId) → W.server ≡ s → v.next W ≡ row.table.next W
  pub next_elsewhere : (W : WorkId) → s ≢ W.server → v.next W ≡ w.next W
  pub ticket_here : v.ticket s ≡ row.table.tickets.next
  pub ticket_elsewhere : (q : ServerNo) → s ≢ q → v.ticket q ≡ w.ticket q
  pub knowledge_here : (T : Tid) → T.server ≡ s → v.knowledge T ≡ knowledge_of (transaction_at T row.table.coordinator.transactions)
  pub knowledge_elsewhere : (T : Tid) → s ≢ T.server → v.knowledge T ≡ w.knowledge T
  pub owner : (W : WorkId) (x : Work) → work_at W row.table.worker ≡ Some x → Says v (Inquire x.tid W)
  pub transactions : AreTransactions v s row.table.coordinator.transactions
  pub commits : commits_of v.history ≡ commits_of w.history ++ named_by row.notes
  pub ended : v.ended ≡ w.ended
  pub grows : (message : Message) → Says w message → Says v message
  pub says : All (IsTrue v) row.messages
  pub addressed : All IsAddressed row.messages

module _ (r : World) (w v : Machine) (s : ServerNo) (m : Memory) (row : RowOutcome Memory) (k : Option ℕ) (mirrors : Mirrors r w) (is : r.memory s ≡ Some m) (does : DoesServer s row w v) where
  abbrev Tells : ServerNo → Type 0
  Tells q = ((server_eq s q ≡ true) × (s ≡ q)) ⊎ ((server_eq s q ≡ false) × (s ≢ q))

  -- memory is that of the row at the server, and as before elsewhere
  memory-here : (q : ServerNo) → server_eq s q ≡ true → at_server r.memory s (Some row.table) q ≡ Some row.table
  memory-here q e = ap (λ (b : Bool). if b then Some row.table else r.memory q) e

  memory-there : (q : ServerNo) → server_eq s q ≡ false → at_server r.memory s (Some row.table) q ≡ r.memory q
  memory-there q e = ap (λ (b : Bool). if b then Some row.table else r.memory q) e

  is-up : (q : ServerNo) → Tells q → v.up q ≡ is_some (at_server r.memory s (Some row.table) q)
  is-up q (inl p) = does.up q ∙ mirrors.up q ∙ ap (λ (z : ServerNo). is_some (r.memory z)) (sym p.1) ∙ ap is_some is ∙ sym (ap is_some (memory-here q p.0))
  is-up q (inr p) = does.up q ∙ mirrors.up q ∙ sym (ap is_some (memory-there q p.0))

  is-found : (q : ServerNo) (c : Pick) (b : Bool) → (if b then made_all row.changes (w.found s c) else w.found q c) ≡ (if b then made_all row.changes (r.found s c) else r.found q c)
  is-found q c true = ap (λ x. made_all row.changes x) (mirrors.found s c)
  is-found q c false = mirrors.found q c

  is-active : (W : WorkId) → Tells W.server → v.active W ≡ active_in (at_server r.memory s (Some row.table) W.server) W
  is-active W (inl p) = does.here W (sym p.1) ∙ sym (ap (λ o. active_in o W) (memory-here W.server p.0))
  is-active W (inr p) = does.elsewhere W p.1 ∙ mirrors.active W ∙ sym (ap (λ o. active_in o W) (memory-there W.server p.0))

  is-next : (W : WorkId) → Tells W.server → v.next W ≡ next_in (at_server r.memory s (Some row.table) W.server) W
  is-next W (inl p) = does.next_here W (sym p.1) ∙ sym (ap (λ o. next_in o W) (memory-here W.server p.0))
  is-next W (inr p) = does.next_elsewhere W p.1 ∙ mirrors.next W ∙ sym (ap (λ o. next_in o W) (memory-there W.server p.0))

  is-ticket : (q : ServerNo) (n : Memory) → Tells q → at_server r.memory s (Some row.table) q ≡ Some n → v.ticket q ≡ n.tickets.next
  is-ticket q n (inl p) e = subst (λ (z : ServerNo). v.ticket z ≡ n.tickets.next) p.1 (does.ticket_here ∙ ap (λ (x : Memory). x.tickets.next) (some-memory row.table n (sym (memory-here q p.0) ∙ e)))
  is-ticket q n (inr p) e = does.ticket_elsewhere q p.1 ∙ mirrors.ticket q n (sym (memory-there q p.0) ∙ e)

  is-known : (T : Tid) → Tells T.server → v.knowledge T ≡ known_in (at_server r.memory s (Some row.table) T.server) T
  is-known T (inl p) = does.knowledge_here T (sym p.1) ∙ sym (ap (λ o. known_in o T) (memory-here T.server p.0))
  is-known T (inr p) = does.knowledge_elsewhere T p.1 ∙ mirrors.knowledge T ∙ sym (ap (λ o. known_in o T) (memory-there T.server p.0))

  has-transactions : (q : ServerNo) (n : Memory) → Tells q → at_server r.memory s (Some row.table) q ≡ Some n → AreTransactions v q n.coordinator.transactions
  has-transactions q n (inl p) e = subst (λ (z : ServerNo). AreTransactions v z n.coordinator.transactions) p.1
      (subst (λ (z : Memory). AreTransactions v s z.coordinator.transactions) (some-memory row.table n (sym (memory-here q p.0) ∙ e)) does.transactions)
  has-transactions q n (inr p) e = transactions-still w v does.grows q n.coordinator.transactions (mirrors.transactions q n (sym (memory-there q p.0) ∙ e))

  is-owner : (q : ServerNo) (n : Memory) (W : WorkId) (x : Work) → Tells q → at_server r.memory s (Some row.table) q ≡ Some n → work_at W n.worker ≡ Some x → Says v (Inquire x.tid W)
  is-owner q n W x (inl p) e h = does.owner W x (subst (λ (z : Memory). work_at W z.worker ≡ Some x) (sym (some-memory row.table n (sym (memory-here q p.0) ∙ e))) h)
  is-owner q n W x (inr p) e h = does.grows (Inquire x.tid W) (mirrors.owner q n W x (sym (memory-there q p.0) ∙ e) h)

  pub mirrored : Mirrors (done s k row r) v
  mirrored = record {
    up = λ q. is-up q (server_tells s q);
    found = λ q c. does.found q c ∙ is-found q c (server_eq s q);
    active = λ W. is-active W (server_tells s W.server);
    next = λ W. is-next W (server_tells s W.server);
    ticket = λ q n e. is-ticket q n (server_tells s q) e;
    knowledge = λ T. is-known T (server_tells s T.server);
    owner = λ q n W x e h. is-owner q n W x (server_tells s q) e h;
    transactions = λ q n e. has-transactions q n (server_tells s q) e;
    clients = λ c. client-still w v does.grows (r.clients c) (mirrors.clients c);
    commits = does.commits ∙ ap (λ z. z ++ named_by row.notes) mirrors.commits ∙ ap (λ z. commits_in r.lines ++ z) (sym (lines-commit s k row.notes)) ∙ sym (commits-more r.lines (lines_of s k row.notes));
    says = All-append (IsTrue v) r.sent row.messages (All-grows w v does.grows r.sent mirrors.says) does.says;
    addressed = All-append IsAddressed r.sent row.messages mirrors.addressed does.addressed;
  }

-- a worker's row as one of both tables
pub worker-does : (r : World) (w v : Machine) (s : ServerNo) (m : Memory) (row : RowOutcome WorkerTable) → Mirrors r w → r.memory s ≡ Some m → named_by row.notes ≡ [] → DoesRow s m row w v → DoesServer s (of_worker m row) w v
worker-does r w v s m row mirrors is none does = record {
  up = does.up;
  found = does.found;
  here = does.here;
  elsewhere = does.elsewhere;
  next_here = does.next_here;
  next_elsewhere = does.next_elsewhere;
  ticket_here = does.ticket_here;
  ticket_elsewhere = does.ticket_elsewhere;
  knowledge_here = λ T e. does.knowledge T ∙ mirrors.knowledge T ∙ ap (λ (z : ServerNo). known_in (r.memory z) T) e ∙ ap (λ o. known_in o T) is;
  knowledge_elsewhere = λ T ne. does.knowledge T;
  owner = does.owner;
  transactions = transactions-still w v does.grows s m.coordinator.transactions (mirrors.transactions s m is);
  commits = ap commits_of does.history ∙ sym (append-nil (commits_of w.history)) ∙ ap (λ z. commits_of w.history ++ z) (sym none);
  ended = does.ended;
  grows = does.grows;
  says = does.says;
  addressed = does.addressed;
}

-- ---- a row that is stopped

-- of one change, none or all is made
abbrev pub some_made : ℕ → Bool
some_made zero = false
some_made (suc n) = true

pub made-one : (step : Change) (n : ℕ) (z : StableState) → (if some_made n then made_by step z else z) ≡ made_all (take n (step ∷ [])) z
made-one step zero z = refl
made-one step (suc zero) z = refl
made-one step (suc (suc n)) z = refl

abbrev pub is_carrying : Change → Bool
is_carrying (CarryOut W i) = true
is_carrying _ = false

-- of one change that carries out no intention, none or all is made
pub left-one : (step : Change) (l : Left) (z : StableState) → is_carrying step ≡ false → (if some_made l.whole then made_by step z else z) ≡ left_of l (step ∷ []) z
left-one step l z h = made-one step l.whole z ∙ sym (left-is l (step ∷ []) z (λ g u. none l.whole g step h u))
  where
    none : (n : ℕ) (gone : BlockNo → Bool) (step : Change) → is_carrying step ≡ false → (u : LockUnit) → part_of gone (slice_get (step ∷ []) n) u ≡ None
    none zero gone (AddReady head list reads) e u = refl
    none zero gone (MarkGoing W) e u = refl
    none zero gone (RemoveWork W) e u = refl
    none zero gone (AddFlag flag) e u = refl
    none zero gone (DropFlag T) e u = refl
    none zero gone (CarryOut W i) e u = absurd (true≢false e)
    none (suc zero) gone step e u = refl
    none (suc (suc n)) gone step e u = refl

-- what the machine's steps have changed of the stable states when a worker's row stops
pub record DoesStop (s : ServerNo) (row : RowOutcome WorkerTable) (made : Pick → Left) (w v : Machine) : Type 0 where
  pub up : (q : ServerNo) → v.up q ≡ w.up q
  pub found : (q : ServerNo) (c : Pick) → v.found q c ≡ (if server_eq s q then left_of (made c) row.changes (w.found s c) else w.found q c)
  pub elsewhere : (W : WorkId) → s ≢ W.server → v.active W ≡ w.active W
  pub next : (W : WorkId) → s ≢ W.server → v.next W ≡ w.next W
  pub ticket : (q : ServerNo) → s ≢ q → v.ticket q ≡ w.ticket q
  pub knowledge : (T : Tid) → s ≢ T.server → v.knowledge T ≡ w.knowledge T
  pub history : v.history ≡ w.history
  pub ended : v.ended ≡ w.ended
  pub grows : (message : Message) → Says w message → Says v message

-- when any row's server stops
pub record StopsServer (s : ServerNo) (row : RowOutcome Memory) (made : Pick → Left) (w v : Machine) : Type 0 where
  pub up : (q : ServerNo) → s ≢ q → v.up q ≡ w.up q
  pub found : (q : ServerNo) (c : Pick) → v.found q c ≡ (if server_eq s q then left_of (made c) row.changes (w.found s c) else w.found q c)
  pub elsewhere : (W : WorkId) → s ≢ W.server → v.active W ≡ w.active W
  pub next : (W : WorkId) → s ≢ W.server → v.next W ≡ w.next W
  pub ticket : (q : ServerNo) → s ≢ q → v.ticket q ≡ w.ticket q
  pub knowledge : (T : Tid) → s ≢ T.server → v.knowledge T ≡ w.knowledge T
  pub history : v.history ≡ w.history
  pub ended : v.ended ≡ w.ended
  pub grows : (message : Message) → Says w message → Says v message

pub worker-stops : (s : ServerNo) (m : Memory) (row : RowOutcome WorkerTable) (made : Pick → Left) (w v : Machine) → DoesStop s row made w v → StopsServer s (of_worker m row) made w v
worker-stops s m row made w v does = record {
  up = λ q ne. does.up q;
  found = does.found;
  elsewhere = does.elsewhere;
  next = does.next;
  ticket = does.ticket;
  knowledge = does.knowledge;
  history = does.history;
  ended = does.ended;
  grows = does.grows;
}

module _ (r : World) (w v : Machine) (s : ServerNo) (row : RowOutcome Memory) (made : Pick → Left) (mirrors : Mirrors r w) (does : StopsServer s row made w v)
    (grow : (message : Message) → Says v message → Says (crash s v) message) where
  abbrev Either : ServerNo → Type 0
  Either q = ((server_eq s q ≡ true) × (s ≡ q)) ⊎ ((server_eq s q ≡ false) × (s ≢ q))

  gone-up : (q : ServerNo) → Either q → (if server_eq s q then false else v.up q) ≡ is_some (at_server r.memory s None q)
  gone-up q (inl p) = ap (λ (b : Bool). if b then false else v.up q) p.0 ∙ sym (ap (λ (b : Bool). is_some (if b then None else r.memory q)) p.0)
  gone-up q (inr p) = ap (λ (b : Bool). if b then false else v.up q) p.0 ∙ does.up q p.1 ∙ mirrors.up q ∙ sym (ap (λ (b : Bool). is_some (if b then None else r.memory q)) p.0)

  gone-active : (W : WorkId) → Either W.server → (if server_eq s W.server then None else v.active W) ≡ active_in (at_server r.memory s None W.server) W
  gone-active W (inl p) = ap (λ (b : Bool). if b then None else v.active W) p.0 ∙ sym (ap (λ (b : Bool). active_in (if b then None else r.memory W.server) W) p.0)
  gone-active W (inr p) = ap (λ (b : Bool). if b then None else v.active W) p.0 ∙ does.elsewhere W p.1 ∙ mirrors.active W ∙ sym (ap (λ (b : Bool). active_in (if b then None else r.memory W.server) W) p.0)

  gone-next : (W : WorkId) → Either W.server → (if server_eq s W.server then 0 else v.next W) ≡ next_in (at_server r.memory s None W.server) W
  gone-next W (inl p) = ap (λ (b : Bool). if b then 0 else v.next W) p.0 ∙ sym (ap (λ (b : Bool). next_in (if b then None else r.memory W.server) W) p.0)
  gone-next W (inr p) = ap (λ (b : Bool). if b then 0 else v.next W) p.0 ∙ does.next W p.1 ∙ mirrors.next W ∙ sym (ap (λ (b : Bool). next_in (if b then None else r.memory W.server) W) p.0)

  gone-known : (T : Tid) → Either T.server → (crash s v).knowledge T ≡ known_in (at_server r.memory s None T.server) T
  gone-known T (inl p) = ap (λ (b : Bool). if b then Unknown else v.knowledge T) p.0 ∙ sym (ap (λ (b : Bool). known_in (if b then None else r.memory T.server) T) p.0)
  gone-known T (inr p) = ap (λ (b : Bool). if b then Unknown else v.knowledge T) p.0 ∙ does.knowledge T p.1 ∙ mirrors.knowledge T ∙ sym (ap (λ (b : Bool). known_in (if b then None else r.memory T.server) T) p.0)

  gone-ticket : (q : ServerNo) (n : Memory) → Either q → at_server r.memory s None q ≡ Some n → v.ticket q ≡ n.tickets.next
  gone-ticket q n (inl p) e = absurd (none-memory n (subst (λ (b : Bool). (if b then None else r.memory q) ≡ Some n) p.0 e))
  gone-ticket q n (inr p) e = does.ticket q p.1 ∙ mirrors.ticket q n (subst (λ (b : Bool). (if b then None else r.memory q) ≡ Some n) p.0 e)

  gone-owner : (q : ServerNo) (n : Memory) (W : WorkId) (x : Work) → Either q → at_server r.memory s None q ≡ Some n → work_at W n.worker ≡ Some x → Says (crash s v) (Inquire x.tid W)
  gone-owner q n W x (inl p) e h = absurd (none-memory n (subst (λ (b : Bool). (if b then None else r.memory q) ≡ Some n) p.0 e))
  gone-owner q n W x (inr p) e h = grow (Inquire x.tid W) (does.grows (Inquire x.tid W) (mirrors.owner q n W x (subst (λ (b : Bool). (if b then None else r.memory q) ≡ Some n) p.0 e) h))

  gone-transactions : (q : ServerNo) (n : Memory) → Either q → at_server r.memory s None q ≡ Some n → AreTransactions (crash s v) q n.coordinator.transactions
  gone-transactions q n (inl p) e = absurd (none-memory n (subst (λ (b : Bool). (if b then None else r.memory q) ≡ Some n) p.0 e))
  gone-transactions q n (inr p) e = transactions-still w (crash s v) (λ message h. grow message (does.grows message h)) q n.coordinator.transactions (mirrors.transactions q n (subst (λ (b : Bool). (if b then None else r.memory q) ≡ Some n) p.0 e))

  gone-found : (q : ServerNo) (c : Pick) (b : Bool) → (if b then left_of (made c) row.changes (w.found s c) else w.found q c) ≡ (if b then left_of (made c) row.changes (r.found s c) else r.found q c)
  gone-found q c true = ap (λ x. left_of (made c) row.changes x) (mirrors.found s c)
  gone-found q c false = mirrors.found q c

  pub stop-mirrored : Mirrors (stopped s made row r) (crash s v)
  stop-mirrored = record {
    up = λ q. gone-up q (server_tells s q);
    found = λ q c. does.found q c ∙ gone-found q c (server_eq s q);
    active = λ W. gone-active W (server_tells s W.server);
    next = λ W. gone-next W (server_tells s W.server);
    ticket = λ q n e. gone-ticket q n (server_tells s q) e;
    knowledge = λ T. gone-known T (server_tells s T.server);
    owner = λ q n W x e h. gone-owner q n W x (server_tells s q) e h;
    transactions = λ q n e. gone-transactions q n (server_tells s q) e;
    clients = λ c. client-still w (crash s v) (λ message h. grow message (does.grows message h)) (r.clients c) (mirrors.clients c);
    commits = ap commits_of does.history ∙ mirrors.commits ∙ sym (append-nil (commits_in r.lines)) ∙ sym (commits-more r.lines (says.Stopped s ∷ []));
    says = All-grows w (crash s v) (λ message h. grow message (does.grows message h)) r.sent mirrors.says;
    addressed = mirrors.addressed;
  }

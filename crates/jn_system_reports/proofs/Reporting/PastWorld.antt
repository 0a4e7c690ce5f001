-- What is past after each step.
use Rattle.jn_system_reports.proofs.Common.{◌≡◌, ◌≢◌, ◌⊎◌, inl, inr, ℕ, ◌+◌, Bool, true, false, List, [], ◌∷◌, ◌++◌, take, append-nil, Option, Some, None, is_some, refl, sym, ◌∙◌, ap, subst, arith, fun_ext, ◌||◌, if◌then◌else◌, slice_get, nat_lt, list_any, ServerNo, ClientNo, Tid, WorkId, Cause, LostAt, FullAt, Server, server_eq, tid_eq, tid_tells, Message, Text, Transaction, Stage, Ballot, StableState, FlagState, Pick, Change, AddFlag, DropFlag, made_all, stable, is_going, RowOutcome, Tickets, Resource, Intention, Work, WorkerTable, WorkStorage, going_work, carried_row, intentions_of, going_row, worker_row, worker_step, worker_again, timeout_row, ClientTable, CoordinatorTable, transaction_at, coordinator_row, coordinator_again, seen_in_flags, restored_transaction, restored_transactions, Machine, Unknown, Invariant, Knows, Atom, with_epoch, MayRun, Says, none_of, false_unless, not_both, World, Memory, at_server, commits_in, has_line, Room, storage_of, of_worker, server_again, of_timeout, restored, lines_of, named_now, AreNames, tid_before, done, stopped, works, LockFacts, ServerFact, UpFact, is_committed, Mirrors, IsAddressed, IsStage, knowledge_in, knowledge_of, knows, stage-is, stage-known, commits-more, lines-commit, named_by, worker-none, step-none, same-server, holds-of, Sent, Step, IsStep, still-says, Opening, openings, Has, Began, openings-begun, one-server, one-found, ServerRow, of_message, of_work, of_closing, FoundThen, by_narrowing, by_raising, server_timeout, restart_with, row-either, row-of-step, Left, left_of}
use Rattle.jn_msgs.specs.declared.message.Message.TheVariants as messages
use Rattle.jn_msgs.specs.declared.message.Outcome.TheVariants as outcomes
use Rattle.jn_report.specs.declared.line.Text.TheVariants as says
use Rattle.jn_rows.specs.declared.coordinator.Stage.TheVariants.{Open, Voting, Committed, Aborted}
use Rattle.jn_system.specs.SmallSteps.Steps.{run}
use Rattle.jn_system_order.proofs.Ordering.Facts.{opening}
use Rattle.jn_system_reports.proofs.Reporting.Lists.{In, Each, each-append, each-more, each-in, get-in}
use Rattle.jn_system_reports.proofs.Reporting.Past.{Had, Past, OutcomeFact, SaysPast, EntryFact, ChangeFact, FlagPast}
use Rattle.jn_system_reports.proofs.Reporting.PastRows.{IsThere, NoFlag, RowPast, entry-opened, is_broke, ComesHere, row-past, close-past as row-closes, again-says, restored-past}
use Rattle.jn_system_reports.proofs.Reporting.PastSteps.{PastFacts, each-take, all-flags, StaysOrPast, all-stay, server-past}
use Rattle.jn_system.proofs.WholeSystem.WorkerChanges.{IsOfWorks, worker-aside, step-aside, works-flags}

-- ---- which names are new

any-in : (T : Tid) (Ts : List Tid) → list_any (λ (U : Tid). tid_eq U T) Ts ≡ true → In T Ts
any-in T [] h = absurd (grind arith)
any-in T (U ∷ Ts) h = by (tid_tells U T) h (any-in T Ts)
  where
    by : ((tid_eq U T ≡ true) × (U ≡ T)) ⊎ ((tid_eq U T ≡ false) × (U ≢ T)) → (tid_eq U T || list_any (λ (V : Tid). tid_eq V T) Ts) ≡ true → (list_any (λ (V : Tid). tid_eq V T) Ts ≡ true → In T Ts) → (U ≡ T) ⊎ In T Ts
    by (inl p) k on = inl p.1
    by (inr p) k on = inr (on (subst (λ (b : Bool). (b || list_any (λ (V : Tid). tid_eq V T) Ts) ≡ true) p.0 k))

any-either : (T : Tid) (Ts Us : List Tid) → list_any (λ (U : Tid). tid_eq U T) (Ts ++ Us) ≡ true → (list_any (λ (U : Tid). tid_eq U T) Ts ≡ true) ⊎ In T Us
any-either T [] Us h = inr (any-in T Us h)
any-either T (U ∷ Ts) Us h = by (tid_eq U T) h (any-either T Ts Us)
  where
    by : (b : Bool) → (b || list_any (λ (V : Tid). tid_eq V T) (Ts ++ Us)) ≡ true → (list_any (λ (V : Tid). tid_eq V T) (Ts ++ Us) ≡ true → (list_any (λ (V : Tid). tid_eq V T) Ts ≡ true) ⊎ In T Us)
        → ((b || list_any (λ (V : Tid). tid_eq V T) Ts) ≡ true) ⊎ In T Us
    by true k on = inl refl
    by false k on = on k

-- ---- changes of works

works-change : (os : List Opening) (clients : ClientNo → ClientTable) (w : Machine) (Caused : ClientNo → Tid → Cause → Type 0) (change : Change) → IsOfWorks change → ChangeFact os clients w Caused change
works-change os clients w Caused (AddFlag flag) h = absurd h
works-change os clients w Caused (DropFlag T) h = absurd h
works-change os clients w Caused _ h = tt

-- a worker that works reports nothing of transactions
step-says : (os : List Opening) (clients : ClientNo → ClientTable) (w : Machine) (Caused : ClientNo → Tid → Cause → Type 0) (t : WorkerTable) (s : WorkStorage) (k : Tickets) (row : RowOutcome WorkerTable) → worker_step t s k ≡ Some row → Each (SaysPast os clients w Caused) row.messages
step-says os clients w Caused t s k row h = by (going_work s.state t) h
  where
    some : {a b : RowOutcome WorkerTable} → Some a ≡ Some b → a ≡ b
    some q = cc

    none : None ≡ Some row → ⊥
    none z = cc

    carried : (x : Work) (o : Option Intention) → Each (SaysPast os clients w Caused) (carried_row t k x o).messages
    carried x (Some i) = tt
    carried x None = (tt, tt)

    rest : (b : Bool) → (if b then Some (record { table = t; changes = []; messages = []; notes = []; tickets = k }) else None) ≡ Some row → Each (SaysPast os clients w Caused) row.messages
    rest true q = subst (λ (z : RowOutcome WorkerTable). Each (SaysPast os clients w Caused) z.messages) (some q) tt
    rest false q = absurd (none q)

    by : (o : Option Work) → going_row t s k o ≡ Some row → Each (SaysPast os clients w Caused) row.messages
    by (Some x) q = subst (λ (z : RowOutcome WorkerTable). Each (SaysPast os clients w Caused) z.messages) (some q) (carried x (slice_get (intentions_of (s.state.works x.name)) (s.next x.name)))
    by None q = rest s.rubbish q

-- what holds in the world after a step
pub record Later (r' : World) (v : Machine) : Type 0 where
  pub named : (T : Tid) → v.named T ≡ has_line T r'.lines
  pub placed : (s : ServerNo) (c : Pick) (T : Tid) → is_some ((r'.found s c).flags T) ≡ true → T.server ≡ s
  pub unique : (a b : Opening) → Has a (openings r'.sent) → Has b (openings r'.sent) → a.tid ≡ b.tid → a ≡ b

module _ (r : World) (w v : Machine) (Caused Caused' : ClientNo → Tid → Cause → Type 0) (past : PastFacts r.sent r.clients r.memory r.found w Caused)
    (caused : (c : ClientNo) (T : Tid) (cause : Cause) → Caused c T cause → Caused' c T cause) (aborted : (T : Tid) → w.aborted T ≡ true → v.aborted T ≡ true) (grown : (T : Tid) → w.named T ≡ true → v.named T ≡ true)
    (runs : (c : ClientNo) (T : Tid) → (r.clients c).transaction ≡ Some T → Began (openings r.sent) c (r.clients c).next T) (named : (T : Tid) → w.named T ≡ has_line T r.lines)
    (once : (a b : Opening) → Has a (openings r.sent) → Has b (openings r.sent) → a.tid ≡ b.tid → a ≡ b)
    (full : (c : ClientNo) (T : Tid) (s : ServerNo) (n : Resource) (free need : ℕ) → nat_lt free need ≡ true → Caused c T (FullAt s n free need)) where
  abbrev Now : World → Type 0
  Now q = PastFacts q.sent q.clients q.memory q.found v Caused'

  newly : (texts : List Text) → ((T : Tid) → v.named T ≡ has_line T (r.lines ++ texts)) → (T : Tid) → v.named T ≡ true → (w.named T ≡ true) ⊎ In T (commits_in texts)
  newly texts is T e = by (any-either T (commits_in r.lines) (commits_in texts) (ap (λ l. list_any (λ (U : Tid). tid_eq U T) l) (sym (commits-more r.lines texts)) ∙ sym (is T) ∙ e))
    where
      by : (list_any (λ (U : Tid). tid_eq U T) (commits_in r.lines) ≡ true) ⊎ In T (commits_in texts) → (w.named T ≡ true) ⊎ In T (commits_in texts)
      by (inl k) = inl (named T ∙ k)
      by (inr i) = inr i

  -- nothing new is named
  pub same-names : (texts : List Text) → commits_in texts ≡ [] → ((T : Tid) → v.named T ≡ has_line T (r.lines ++ texts)) → (T : Tid) → v.named T ≡ true → w.named T ≡ true
  same-names texts none is T e = by (newly texts is T e)
    where
      by : (w.named T ≡ true) ⊎ In T (commits_in texts) → w.named T ≡ true
      by (inl k) = k
      by (inr i) = absurd (subst (λ l. In T l) none i)

  pub no-names : ((T : Tid) → v.named T ≡ has_line T r.lines) → (T : Tid) → v.named T ≡ true → w.named T ≡ true
  no-names is T e = named T ∙ sym (is T) ∙ e

  pub old-entries : (q : ServerNo) (n : Memory) → r.memory q ≡ Some n → (more : List Opening) → Each (EntryFact (openings r.sent ++ more) r.clients w Caused n.coordinator.seen) n.coordinator.transactions
  old-entries q n e more = each-more (EntryFact (openings r.sent) r.clients w Caused n.coordinator.seen) (EntryFact (openings r.sent ++ more) r.clients w Caused n.coordinator.seen) n.coordinator.transactions
      (entry-grown n.coordinator.seen more) (past.entries q n e)
    where
      entry-grown : (seen : ClientNo → ℕ) (more : List Opening) (y : Transaction) → EntryFact (openings r.sent) r.clients w Caused seen y → EntryFact (openings r.sent ++ more) r.clients w Caused seen y
      entry-grown seen more y h = entry-opened (openings r.sent) r.clients w Caused once full seen more y h

  -- ---- what a step leaves of one server

  abbrev Entries : List Opening → CoordinatorTable → Type 0
  Entries more t = Each (EntryFact (openings r.sent ++ more) r.clients w Caused t.seen) t.transactions

  abbrev HasFlags : StableState → CoordinatorTable → Type 0
  HasFlags x t = (T : Tid) → is_some (x.flags T) ≡ true → IsThere T t.transactions

  abbrev StaysHere : StableState → Tid → Type 0
  StaysHere x T = StaysOrPast (openings r.sent) r.clients w Caused x T

  abbrev IfUp : (Memory → Type 0) → Option Memory → Type 0
  IfUp P None = Unit {0}
  IfUp P (Some m) = P m

  -- its memory, what may be found of it, and what is sent; what is named anew has its flag there
  record Leaves (s : ServerNo) (o : Option Memory) (found : Pick → StableState) (more : List Sent) : Type 0 where
    says : Each (SaysPast (openings r.sent) r.clients w Caused) more
    table : IfUp (λ (n : Memory). Entries (openings more) n.coordinator × HasFlags (stable found) n.coordinator) o
    flags : (c : Pick) (T : Tid) → FlagPast (openings r.sent) r.clients w Caused T ((found c).flags T)
    kept : (T : Tid) (c : Pick) → T.server ≡ s → w.named T ≡ true → StaysHere (found c) T
    names : (T : Tid) → v.named T ≡ true → (w.named T ≡ true) ⊎ ((c : Pick) → is_some ((found c).flags T) ≡ true)

  leaves-past : (s : ServerNo) (o : Option Memory) (found : Pick → StableState) (more sent : List Sent) (lines : List Text) → r.sent ++ more ≡ sent → Leaves s o found more
      → Later (record r { memory = at_server r.memory s o; found = λ q c. if server_eq s q then found c else r.found q c; sent = sent; lines = lines }) v
      → PastFacts sent r.clients (at_server r.memory s o) (λ q c. if server_eq s q then found c else r.found q c) v Caused'
  leaves-past s o found more sent lines e h l = subst (λ z. PastFacts z r.clients (at_server r.memory s o) (λ q c. if server_eq s q then found c else r.found q c) v Caused') e
      (server-past r w v Caused Caused' past caused aborted grown runs more (subst (λ z. (a b : Opening) → Has a (openings z) → Has b (openings z) → a.tid ≡ b.tid → a ≡ b) (sym e) l.unique) _ _ record {
        says = h.says;
        entries = one-server (λ q o. (n : Memory) → o ≡ Some n → Entries (openings more) n.coordinator) r.memory s o (λ n k. (own n k).0) (λ q ne n k. old-entries q n k (openings more));
        flags = one-found (λ q c (x : StableState). (T : Tid) → FlagPast (openings r.sent) r.clients w Caused T (x.flags T)) r.found s found h.flags (λ q ne. past.flags q);
        held = λ q n k T f. held q n T (server_eq s q) k f;
        stays = λ T c k. one-found (λ q c x. q ≡ T.server → StaysHere x T) r.found s found (λ c p. here T c (sym p) (h.names T k)) (λ q ne c p. there T c q ne p (h.names T k)) T.server c refl;
      })
    where
      own : (n : Memory) → o ≡ Some n → Entries (openings more) n.coordinator × HasFlags (stable found) n.coordinator
      own n k = subst (λ o. IfUp (λ (n : Memory). Entries (openings more) n.coordinator × HasFlags (stable found) n.coordinator) o) k h.table

      held : (q : ServerNo) (n : Memory) (T : Tid) (b : Bool) → (if b then o else r.memory q) ≡ Some n → is_some ((if b then found (λ j. false) else r.found q (λ j. false)).flags T) ≡ true → IsThere T n.coordinator.transactions
      held q n T true k f = (own n k).1 T f
      held q n T false k f = past.held q n k T f

      here : (T : Tid) (c : Pick) → T.server ≡ s → (w.named T ≡ true) ⊎ ((c : Pick) → is_some ((found c).flags T) ≡ true) → StaysHere (found c) T
      here T c p (inl n) = h.kept T c p n
      here T c p (inr f) = inl (f c)

      there : (T : Tid) (c : Pick) (q : ServerNo) → s ≢ q → q ≡ T.server → (w.named T ≡ true) ⊎ ((c : Pick) → is_some ((found c).flags T) ≡ true) → StaysHere (r.found q c) T
      there T c q ne p (inl n) = subst (λ (z : ServerNo). StaysHere (r.found z c) T) (sym p) (past.named T c n)
      there T c q ne p (inr f) = absurd (ne (sym (l.placed s c T (subst (λ (b : Bool). is_some ((if b then found c else r.found s c).flags T) ≡ true) (sym (same-server s)) (f c))) ∙ sym p))

  kept-at : (T : Tid) (c : Pick) (s : ServerNo) → T.server ≡ s → w.named T ≡ true → StaysHere (r.found s c) T
  kept-at T c s e n = subst (λ (q : ServerNo). StaysHere (r.found q c) T) e (past.named T c n)

  after-all : (changes : List Change) (x : StableState) → Each (ChangeFact (openings r.sent) r.clients w Caused) changes → (T : Tid) → StaysHere x T → StaysHere (made_all changes x) T
  after-all changes x h T (inl k) = all-stay (openings r.sent) r.clients w Caused changes x h T k
  after-all changes x h T (inr p) = inr p

  -- nothing but its memory changes
  memory-past : (s : ServerNo) (o : Option Memory) (lines : List Text) → Leaves s o (r.found s) [] → Later (record r { memory = at_server r.memory s o; lines = lines }) v → PastFacts r.sent r.clients (at_server r.memory s o) r.found v Caused'
  memory-past s o lines h = subst (λ f. Later (record r { memory = at_server r.memory s o; found = f; lines = lines }) v → PastFacts r.sent r.clients (at_server r.memory s o) f v Caused')
      (fun_ext (λ q. fun_ext (λ c. one-found (λ q c x. x ≡ r.found q c) r.found s (r.found s) (λ c. refl) (λ q ne c. refl) q c))) (leaves-past s o (r.found s) [] r.sent lines (append-nil r.sent) h)

  -- ---- a server's row

  record Gives (s : ServerNo) (row : RowOutcome Memory) : Type 0 where
    sends : Each (SaysPast (openings r.sent) r.clients w Caused) row.messages
    entries : Entries (openings row.messages) row.table.coordinator
    changes : Each (ChangeFact (openings r.sent) r.clients w Caused) row.changes
    held : HasFlags (made_all row.changes (stable (r.found s))) row.table.coordinator
    names : (T : Tid) → In T (named_by row.notes) → is_some ((made_all row.changes (stable (r.found s))).flags T) ≡ true

  stopped-past : (s : ServerNo) (made : Pick → Left) (row : RowOutcome Memory) → Gives s row → Later (stopped s made row r) v → Now (stopped s made row r)
  stopped-past s made row h l = leaves-past s None (λ c. left_of (made c) row.changes (r.found s c)) [] r.sent _ (append-nil r.sent) (record {
    says = tt;
    table = tt;
    flags = λ c. all-flags (openings r.sent) r.clients w Caused (take (made c).whole row.changes) (r.found s c) (each-take _ (made c).whole row.changes h.changes) (past.flags s c);
    kept = λ T c e n. after-all (take (made c).whole row.changes) (r.found s c) (each-take _ (made c).whole row.changes h.changes) T (kept-at T c s e n);
    names = λ T e. inl (same-names (says.Stopped s ∷ []) refl l.named T e);
  }) l

  done-past : (s : ServerNo) (k : Option ℕ) (row : RowOutcome Memory) → ((c : Pick) → r.found s c ≡ stable (r.found s)) → Gives s row → Later (done s k row r) v → Now (done s k row r)
  done-past s k row same h l = leaves-past s (Some row.table) (λ c. made_all row.changes (r.found s c)) row.messages _ _ refl (record {
    says = h.sends;
    table = (h.entries, h.held);
    flags = λ c. all-flags (openings r.sent) r.clients w Caused row.changes (r.found s c) h.changes (past.flags s c);
    kept = λ T c e n. after-all row.changes (r.found s c) h.changes T (kept-at T c s e n);
    names = λ T e. by T (newly (lines_of s k row.notes) l.named T e);
  }) l
    where
      by : (T : Tid) → (w.named T ≡ true) ⊎ In T (commits_in (lines_of s k row.notes)) → (w.named T ≡ true) ⊎ ((c : Pick) → is_some ((made_all row.changes (r.found s c)).flags T) ≡ true)
      by T (inl n) = inl n
      by T (inr i) = inr (λ c. subst (λ (x : StableState). is_some ((made_all row.changes x).flags T) ≡ true) (sym (same c)) (h.names T (subst (λ l. In T l) (lines-commit s k row.notes) i)))

  by-worker : (s : ServerNo) (m : Memory) → r.memory s ≡ Some m → (row : RowOutcome WorkerTable) → Each IsOfWorks row.changes → named_by row.notes ≡ [] → Each (SaysPast (openings r.sent) r.clients w Caused) row.messages → Gives s (of_worker m row)
  by-worker s m is row works none says = record {
    sends = says;
    entries = old-entries s m is (openings row.messages);
    changes = each-more IsOfWorks (ChangeFact (openings r.sent) r.clients w Caused) row.changes (works-change (openings r.sent) r.clients w Caused) works;
    held = λ T h. past.held s m is T (subst (λ f. is_some (f T) ≡ true) (works-flags row.changes (stable (r.found s)) works) h);
    names = λ T i. absurd (subst (λ l. In T l) none i);
  }

  -- ---- steps of servers

  module _ (mirrors : Mirrors r w) (inv : Invariant w) (locks : LockFacts r)
      (votes : (s : ServerNo) (m : Memory) → r.memory s ≡ Some m → (room : Room) (message : Message) → In (Server s, message) r.sent → Each (SaysPast (openings r.sent) r.clients w Caused) (worker_row m.worker (storage_of m (stable (r.found s)) room) m.tickets message).messages)
      (lost : (s : ServerNo) (m : Memory) → r.memory s ≡ Some m → (c : ClientNo) (T : Tid) → T.server ≡ s → transaction_at T m.coordinator.transactions ≡ None → Had (openings r.sent) r.clients w Caused c T → Past (openings r.sent) r.clients w Caused c T ⊎ Caused c T (LostAt s)) where
    module _ (s : ServerNo) (m : Memory) (is : r.memory s ≡ Some m) (up : UpFact s m (r.found s)) where
      abbrev grow : (atoms : List Atom) → MayRun atoms w → (message : Message) → Says w message → Says (run atoms w) message
      grow = λ atoms may message said. still-says atoms w may inv message said

      known-stage : (T : Tid) (y : Transaction) → transaction_at T m.coordinator.transactions ≡ Some y → Knows w T (knowledge_in y.stage)
      known-stage T y e = stage-known r w s m mirrors is up grow inv T y e

      undecided : (T : Tid) (y : Transaction) (b : Ballot) → transaction_at T m.coordinator.transactions ≡ Some y → y.stage ≡ Voting b → (w.named T ≡ false) × (w.aborted T ≡ false)
      undecided T y b e f = let h = subst (λ (z : Stage). Knows w T (knowledge_in z)) f (known-stage T y e) in (h.0, h.1)

      is-up : w.up s ≡ true
      is-up = mirrors.up s ∙ ap is_some is

      -- a flag here is of a named transaction
      flagged : (T : Tid) → is_some ((stable (r.found s)).flags T) ≡ true → w.named T ≡ true
      flagged T e = inv.flags s (λ n. false) T is-up (ap (λ (x : StableState). is_some (x.flags T)) (mirrors.found s (λ n. false)) ∙ e)

      not-named : (T : Tid) → w.named T ≡ false → (stable (r.found s)).flags T ≡ None
      not-named T e = none_of ((stable (r.found s)).flags T) (false_unless (is_some ((stable (r.found s)).flags T)) (λ k. not_both (w.named T) (flagged T k) e))

      no-flag : NoFlag (stable (r.found s)).flags m.coordinator.transactions
      no-flag T y e k = by y.stage refl k
        where
          by : (stage : Stage) → y.stage ≡ stage → is_committed stage ≡ false → (stable (r.found s)).flags T ≡ None
          by Open f g = not-named T (subst (λ (z : Stage). Knows w T (knowledge_in z)) f (known-stage T y e)).0
          by (Voting b) f g = not-named T (undecided T y b e f).0
          by (Committed d) f g = absurd (grind arith)
          by (Aborted cause) f g = not-named T (inv.core.aborted T (subst (λ (z : Stage). IsStage w T z) f (stage-is r w s m mirrors is up grow inv T y e))).not_named

      none-there : (T : Tid) → transaction_at T m.coordinator.transactions ≡ None → IsThere T m.coordinator.transactions → ⊥
      none-there T e k = not_both (is_some (transaction_at T m.coordinator.transactions)) k (ap is_some e)

      unknown : (c : ClientNo) (T : Tid) → T.server ≡ s → transaction_at T m.coordinator.transactions ≡ None → Had (openings r.sent) r.clients w Caused c T → OutcomeFact (openings r.sent) r.clients w Caused c T (outcomes.NotKnown m.tickets.server m.tickets.epoch)
      unknown c T at none had = by (subst (λ k. Knows w T k) (ap knowledge_of none) (knows r w s m mirrors is up grow inv T at (openings-begun w r.sent mirrors.says (opening c had.request T) had.has))) (lost s m is c T at none had)
        where
          here : (d : ClientNo) → Past (openings r.sent) r.clients w Caused d T → Past (openings r.sent) r.clients w Caused c T
          here d p = subst (λ (z : ClientNo). Past (openings r.sent) r.clients w Caused z T) (ap (λ (a : Opening). a.client) (once (opening d p.request T) (opening c had.request T) p.has had.has refl)) p

          by : Knows w T Unknown → Past (openings r.sent) r.clients w Caused c T ⊎ Caused c T (LostAt s) → OutcomeFact (openings r.sent) r.clients w Caused c T (outcomes.NotKnown m.tickets.server m.tickets.epoch)
          by k (inl p) = inl p
          by (inl k) (inr l) = inr (k, subst (λ (q : ServerNo). Caused c T (LostAt q)) (sym up.server) l)
          by (inr k) (inr l) = inl (at-named (past.named T (λ n. false) k.0))
            where
              at-named : (is_some ((r.found T.server (λ n. false)).flags T) ≡ true) ⊎ ((d : ClientNo) × Past (openings r.sent) r.clients w Caused d T) → Past (openings r.sent) r.clients w Caused c T
              at-named (inl f) = absurd (none-there T none (past.held s m is T (subst (λ (q : ServerNo). is_some ((r.found q (λ n. false)).flags T) ≡ true) at f)))
              at-named (inr p) = here p.0 p.1

      row-here : (room : Room) (message : Message) → IsAddressed (Server s, message) → SaysPast (openings r.sent) r.clients w Caused (Server s, message)
          → RowPast (openings r.sent) r.clients w Caused once full m.coordinator m.tickets (stable (r.found s)) (past.entries s m is) no-flag (past.held s m is) (coordinator_row m.coordinator room.free.records m.tickets message)
      row-here room message to said = row-past (openings r.sent) r.clients w Caused once full m.coordinator m.tickets (stable (r.found s)) (past.entries s m is) no-flag (past.held s m is) (λ T. T.server ≡ s) unknown undecided past.last room.free.records (Server s) message (here message to) said
        where
          here : (message : Message) → IsAddressed (Server s, message) → ComesHere (openings r.sent) r.clients w Caused once full m.coordinator m.tickets (stable (r.found s)) (past.entries s m is) no-flag (past.held s m is) (λ T. T.server ≡ s) unknown undecided past.last message
          here (messages.End c q T Ws) h = h
          here (messages.Abort c q T Ws) h = h
          here _ h = tt

      -- no coordinator reports a broken work
      pub coordinator-quiet : (room : Room) (message : Message) → IsAddressed (Server s, message) → SaysPast (openings r.sent) r.clients w Caused (Server s, message) → list_any is_broke (coordinator_row m.coordinator room.free.records m.tickets message).notes ≡ false
      coordinator-quiet room message to said = (row-here room message to said).quiet

      gives : (stop : Option (Pick → Left)) (step : Step) (k : Option ℕ) (row : RowOutcome Memory) → ServerRow r s m stop step k row → IsStep step r → Gives s row
      gives _ _ _ _ (of_message stop k room message e) i = row-either (λ row. Gives s row) m (stable (r.found s)) room message
          (let a = worker-aside m.worker (storage_of m (stable (r.found s)) room) m.tickets message in by-worker s m is (worker_row m.worker (storage_of m (stable (r.found s)) room) m.tickets message) a.works (worker-none m.worker (storage_of m (stable (r.found s)) room) m.tickets message)
          (votes s m is room message (get-in r.sent k (Server s, message) e)))
          (let p = row-here room message (holds-of IsAddressed r.sent k (Server s, message) mirrors.addressed e) (each-in (SaysPast (openings r.sent) r.clients w Caused) r.sent (Server s, message) past.says (get-in r.sent k (Server s, message) e)) in
          record { sends = p.sends; entries = p.entries; changes = p.changes; held = p.held; names = p.names })
      gives _ _ _ _ (of_work stop room row e) i = row-of-step (λ row. Gives s row) m (stable (r.found s)) room row e
          (λ step f. let a = step-aside m.worker (storage_of m (stable (r.found s)) room) m.tickets step f in by-worker s m is step a.works (step-none m.worker (storage_of m (stable (r.found s)) room) m.tickets step f)
          (step-says (openings r.sent) r.clients w Caused m.worker (storage_of m (stable (r.found s)) room) m.tickets step f))
      gives _ _ _ _ of_closing idle = let p = row-closes (openings r.sent) r.clients w Caused once full m.coordinator m.tickets (stable (r.found s)) (past.entries s m is) no-flag (past.held s m is) idle in
          record { sends = p.sends; entries = p.entries; changes = p.changes; held = p.held; names = p.names }

    up-at : (s : ServerNo) (m : Memory) → r.memory s ≡ Some m → UpFact s m (r.found s)
    up-at s m is = subst (λ o. ServerFact s o (r.found s)) is (locks s)

    -- only messages are sent
    pub sent-past : (more : List Sent) → ((a b : Opening) → Has a (openings (r.sent ++ more)) → Has b (openings (r.sent ++ more)) → a.tid ≡ b.tid → a ≡ b) → Each (SaysPast (openings r.sent) r.clients w Caused) more
        → ((T : Tid) → v.named T ≡ true → w.named T ≡ true) → PastFacts (r.sent ++ more) r.clients r.memory r.found v Caused'
    sent-past more unique says same = server-past r w v Caused Caused' past caused aborted grown runs more unique r.memory r.found
        record { says = says; entries = λ q n e. old-entries q n e (openings more); flags = past.flags; held = past.held; stays = λ T c e. past.named T c (same T e) }

    -- nothing changes but lines
    pub quiet-past : (texts : List Text) → commits_in texts ≡ [] → ((T : Tid) → v.named T ≡ has_line T (r.lines ++ texts)) → PastFacts r.sent r.clients r.memory r.found v Caused'
    quiet-past texts none l = subst (λ z. PastFacts z r.clients r.memory r.found v Caused') (append-nil r.sent) (sent-past []
        (subst (λ z. (a b : Opening) → Has a (openings z) → Has b (openings z) → a.tid ≡ b.tid → a ≡ b) (sym (append-nil r.sent)) once) tt (same-names texts none l))

    pub same-past : ((T : Tid) → v.named T ≡ has_line T r.lines) → PastFacts r.sent r.clients r.memory r.found v Caused'
    same-past l = quiet-past [] refl (λ T. l T ∙ ap (λ z. has_line T z) (sym (append-nil r.lines)))

    pub again-past : (s : ServerNo) (m : Memory) → r.memory s ≡ Some m → Later (record r { sent = r.sent ++ server_again m (stable (r.found s)) }) v → PastFacts (r.sent ++ server_again m (stable (r.found s))) r.clients r.memory r.found v Caused'
    again-past s m is l = sent-past (server_again m (stable (r.found s))) l.unique (each-append (SaysPast (openings r.sent) r.clients w Caused) (worker_again (stable (r.found s)) m.worker) (coordinator_again m.coordinator.transactions) (asks m.worker)
        (again-says (openings r.sent) r.clients w Caused once full m.coordinator.seen m.coordinator.transactions (past.entries s m is))) (no-names l.named)
      where
        asks : (t : WorkerTable) → Each (SaysPast (openings r.sent) r.clients w Caused) (worker_again (stable (r.found s)) t)
        asks [] = tt
        asks (x ∷ xs) = by (is_going ((stable (r.found s)).works x.name)) (asks xs)
          where
            by : (b : Bool) → Each (SaysPast (openings r.sent) r.clients w Caused) (worker_again (stable (r.found s)) xs) → Each (SaysPast (openings r.sent) r.clients w Caused) (if b then worker_again (stable (r.found s)) xs else (Server x.tid.server, messages.Inquire x.tid x.name) ∷ worker_again (stable (r.found s)) xs)
            by true h = h
            by false h = (tt, h)

    pub row-done-past : (s : ServerNo) (m : Memory) (step : Step) (k : Option ℕ) (row : RowOutcome Memory) → r.memory s ≡ Some m → ServerRow r s m None step k row → IsStep step r → Later (done s k row r) v → Now (done s k row r)
    row-done-past s m step k row is how i l = let up = up-at s m is in done-past s k row up.same (gives s m is up None step k row how i) l

    pub row-stopped-past : (s : ServerNo) (m : Memory) (step : Step) (k : Option ℕ) (row : RowOutcome Memory) (made : Pick → Left) → r.memory s ≡ Some m → ServerRow r s m (Some made) step k row → IsStep step r → Later (stopped s made row r) v → Now (stopped s made row r)
    row-stopped-past s m step k row made is how i l = stopped-past s made row (gives s m is (up-at s m is) (Some made) step k row how i) l

    pub late-past : (s : ServerNo) (m : Memory) (T : Tid) → r.memory s ≡ Some m → Later (record r { memory = at_server r.memory s (Some (server_timeout m T)) }) v → PastFacts r.sent r.clients (at_server r.memory s (Some (server_timeout m T))) r.found v Caused'
    late-past s m T is l = memory-past s (Some (server_timeout m T)) r.lines (record { says = tt; table = by (timeout_row m.worker T); flags = past.flags s; kept = λ U c e n. kept-at U c s e n; names = λ U e. inl (no-names l.named U e) }) l
      where
        by : (t : Option WorkerTable) → Entries [] (of_timeout m t).coordinator × HasFlags (stable (r.found s)) (of_timeout m t).coordinator
        by None = (old-entries s m is [], past.held s m is)
        by (Some t) = (old-entries s m is [], past.held s m is)

    pub down-past : (s : ServerNo) → Later (record r { memory = at_server r.memory s None; lines = r.lines ++ says.Down s ∷ [] }) v → PastFacts r.sent r.clients (at_server r.memory s None) r.found v Caused'
    down-past s l = memory-past s None (r.lines ++ says.Down s ∷ []) (record { says = tt; table = tt; flags = past.flags s; kept = λ U c e n. kept-at U c s e n; names = λ U e. inl (same-names (says.Down s ∷ []) refl l.named U e) }) l

    -- what is found has the flags of something that was found before
    pub anew-past : (s : ServerNo) (step : Step) (found : Pick → StableState) (lines : List Text) → r.memory s ≡ None → FoundThen r s step found lines → Later (record r { found = λ q c. if server_eq s q then found c else r.found q c; lines = lines }) v
        → PastFacts r.sent r.clients r.memory (λ q c. if server_eq s q then found c else r.found q c) v Caused'
    anew-past s step found lines is how l = subst (λ (f : ServerNo → Option Memory). Later (record r { memory = f; found = λ q c. if server_eq s q then found c else r.found q c; lines = lines }) v → PastFacts r.sent r.clients f (λ q c. if server_eq s q then found c else r.found q c) v Caused')
        (fun_ext (one-server (λ q o. o ≡ r.memory q) r.memory s None (sym is) (λ q ne. refl))) (leaves-past s None found [] r.sent lines (append-nil r.sent) (record {
          says = tt;
          table = tt;
          flags = λ c T. let f = before step found lines how c in subst (λ f. FlagPast (openings r.sent) r.clients w Caused T (f T)) (sym f.1) (past.flags s f.0 T);
          kept = λ T c e n. let f = before step found lines how c in subst (λ f. (is_some (f T) ≡ true) ⊎ ((d : ClientNo) × Past (openings r.sent) r.clients w Caused d T)) (sym f.1) (kept-at T f.0 s e n);
          names = λ T e. inl (same step found lines how l.named T e);
        })) l
      where
        before : (step : Step) (found : Pick → StableState) (lines : List Text) → FoundThen r s step found lines → (c : Pick) → (d : Pick) × ((found c).flags ≡ (r.found s d).flags)
        before _ _ _ (by_narrowing g) c = (g c, refl)
        before _ _ _ (by_raising raise) c = (c, by (raise c))
          where
            by : (b : Bool) → (if b then with_epoch (r.found s c) else r.found s c).flags ≡ (r.found s c).flags
            by true = refl
            by false = refl

        same : (step : Step) (found : Pick → StableState) (lines : List Text) → FoundThen r s step found lines → ((T : Tid) → v.named T ≡ has_line T lines) → (T : Tid) → v.named T ≡ true → w.named T ≡ true
        same _ _ _ (by_narrowing g) is = no-names is
        same _ _ _ (by_raising raise) is = same-names (says.Stopped s ∷ []) refl is

    -- ---- a restart

    pub up-past : (s : ServerNo) (pick : Pick) (Ws : List WorkId) (Ts : List Tid) → AreNames tid_eq tid_before (r.found s pick).flags Ts → Later (restart_with s (r.found s pick) Ws Ts r) v → Now (restart_with s (r.found s pick) Ws Ts r)
    up-past s pick Ws Ts names l = leaves-past s (Some (restored s (r.found s pick) Ws Ts)) (λ c. with_epoch (r.found s pick)) [] r.sent _ (append-nil r.sent) (record {
      says = tt;
      table = (
        subst (λ os. Each (EntryFact os r.clients w Caused (seen_in_flags (r.found s pick) Ts)) (restored_transactions (r.found s pick) Ts)) (sym (append-nil (openings r.sent))) (restored-past (openings r.sent) r.clients w Caused (r.found s pick) Ts (past.flags s pick)),
        λ T h. any-same T Ts (names.each T ∙ h) named-flag,
      );
      flags = λ c. past.flags s pick;
      kept = λ T c e n. kept-at T pick s e n;
      names = λ T e. by T (newly (says.Up s ((r.found s pick).epoch + 1) ∷ named_now Ts r.lines) l.named T e);
    }) l
      where
        any-same : (T : Tid) (Us : List Tid) → list_any (λ (U : Tid). tid_eq U T) Us ≡ true → ((U : Tid) → In U Us → is_some ((r.found s pick).flags U) ≡ true) → IsThere T (restored_transactions (r.found s pick) Us)
        any-same T [] h f = absurd (grind arith)
        any-same T (U ∷ Us) h f = by (tid_tells U T) ((r.found s pick).flags U) refl h (any-same T Us)
          where
            by : ((tid_eq U T ≡ true) × (U ≡ T)) ⊎ ((tid_eq U T ≡ false) × (U ≢ T)) → (o : Option FlagState) → (r.found s pick).flags U ≡ o → (tid_eq U T || list_any (λ (V : Tid). tid_eq V T) Us) ≡ true
                → (list_any (λ (V : Tid). tid_eq V T) Us ≡ true → ((V : Tid) → In V Us → is_some ((r.found s pick).flags V) ≡ true) → IsThere T (restored_transactions (r.found s pick) Us)) → IsThere T (restored_transaction U o ++ restored_transactions (r.found s pick) Us)
            by t None e k on = absurd (not_both _ (f U (inl refl)) (ap is_some e))
            by (inl p) (Some flag) e k on = ap (λ (b : Bool). is_some (if b then Some (record { tid = U; client = flag.client; begun = None; stage = Committed (record { works = flag.works; done = []; thanked = false }) }) else transaction_at T (restored_transactions (r.found s pick) Us))) p.0
            by (inr p) (Some flag) e k on = ap (λ (b : Bool). is_some (if b then Some (record { tid = U; client = flag.client; begun = None; stage = Committed (record { works = flag.works; done = []; thanked = false }) }) else transaction_at T (restored_transactions (r.found s pick) Us))) p.0
                ∙ on (subst (λ (b : Bool). (b || list_any (λ (V : Tid). tid_eq V T) Us) ≡ true) p.0 k) (λ V i. f V (inr i))

        in-any : (T : Tid) (Us : List Tid) → In T Us → list_any (λ (U : Tid). tid_eq U T) Us ≡ true
        in-any T [] i = absurd i
        in-any T (U ∷ Us) (inl e) = subst (λ (V : Tid). (tid_eq V T || list_any (λ (X : Tid). tid_eq X T) Us) ≡ true) (sym e) (own T (list_any (λ (X : Tid). tid_eq X T) Us))
          where
            own : (T : Tid) (b : Bool) → (tid_eq T T || b) ≡ true
            own T b = grind (arith, tid_tells T T)
        in-any T (U ∷ Us) (inr i) = more (tid_eq U T) _ (in-any T Us i)
          where
            more : (a b : Bool) → b ≡ true → (a || b) ≡ true
            more a b k = grind arith

        named-flag : (T : Tid) → In T Ts → is_some ((r.found s pick).flags T) ≡ true
        named-flag T i = sym (names.each T) ∙ in-any T Ts i

        now-in : (T : Tid) (Us : List Tid) → In T (commits_in (named_now Us r.lines)) → In T Us
        now-in T [] i = i
        now-in T (U ∷ Us) i = by (has_line U r.lines) i (now-in T Us)
          where
            by : (b : Bool) → In T (commits_in (if b then named_now Us r.lines else says.Commit U ∷ named_now Us r.lines)) → (In T (commits_in (named_now Us r.lines)) → In T Us) → (U ≡ T) ⊎ In T Us
            by true j on = inr (on j)
            by false (inl e) on = inl e
            by false (inr j) on = inr (on j)

        by : (T : Tid) → (w.named T ≡ true) ⊎ In T (commits_in (named_now Ts r.lines)) → (w.named T ≡ true) ⊎ ((c : Pick) → is_some ((with_epoch (r.found s pick)).flags T) ≡ true)
        by T (inl n) = inl n
        by T (inr i) = inr (λ c. named-flag T (now-in T Ts i))

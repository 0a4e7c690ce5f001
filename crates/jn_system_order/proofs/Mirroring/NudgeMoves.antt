-- What a server sends again is true.
use Rattle.jn_system_order.proofs.Common.{◌≡◌, ◌≢◌, ◌⊎◌, inl, inr, Bool, true, false, List, [], ◌∷◌, ◌++◌, Some, None, refl, sym, ◌∙◌, ap, subst, arith, ◌&&◌, if◌then◌else◌, All, All-nil, All-cons, All-append, ServerNo, Tid, WorkId, Server, tid_eq, tid_tells, Message, Work, Transaction, Stage, Open, Voting, Committed, Aborted, StableState, stable, is_going, Sent, WorkerTable, work_at, worker_again, transaction_at, besides, commits, committed_to, aborted_to, told_again, coordinator_again, work_same, found-behind, not-before, Machine, Knows, Invariant, Atom, run, MayRun, Says, World, Memory, server_again, UpFact, Mirrors, IsTrue, IsAddressed, IsStage, AreTransactions, knowledge_in, knowledge_of, is_before, are_rising}
use Rattle.jn_msgs.specs.declared.message.Message.TheVariants as messages
use Rattle.jn_system_order.proofs.Mirroring.Transactions.{in-besides, All-works}
use Rattle.jn_system_order.proofs.Mirroring.StageMoves.{knows, place, begun}

-- more messages
pub more-sent : (r : World) (w : Machine) (sent : List Sent) → Mirrors r w → All (IsTrue w) sent → All IsAddressed sent → Mirrors (record r { sent = r.sent ++ sent }) w
more-sent r w sent h says addressed = record {
  up = h.up;
  found = h.found;
  active = h.active;
  next = h.next;
  ticket = h.ticket;
  knowledge = h.knowledge;
  owner = h.owner;
  transactions = h.transactions;
  clients = h.clients;
  commits = h.commits;
  says = All-append (IsTrue w) r.sent sent h.says says;
  addressed = All-append IsAddressed r.sent sent h.addressed addressed;
}

first-of : (a b : Bool) → (a && b) ≡ true → a ≡ true
first-of a b h = grind arith

second-of : (a b : Bool) → (a && b) ≡ true → b ≡ true
second-of a b h = grind arith

one : (P : Sent → Type 0) (sent : Sent) → P sent → All P (sent ∷ [])
one P sent h = All-cons P sent [] h (All-nil P)

-- ---- works

-- each work that is found asks what is true
abbrev Asks : (Sent → Type 0) → WorkerTable → Type 0
Asks P t = (V : WorkId) (v : Work) → work_at V t ≡ Some v → P (Server v.tid.server, messages.Inquire v.tid V)

again-all : (P : Sent → Type 0) (x : StableState) (t : WorkerTable) → are_rising t ≡ true → Asks P t → All P (worker_again x t)
again-all P x [] rising h = All-nil P
again-all P x (v ∷ vs) rising h = by (is_going (x.works v.name)) (again-all P x vs (second-of (is_before v.name vs) (are_rising vs) rising) later)
  where
    later : Asks P vs
    later V y e = h V y (ap (λ (b : Bool). if b then Some v else work_at V vs) (not-before v.name V (found-behind V v.name vs y (first-of (is_before v.name vs) (are_rising vs) rising) e)) ∙ e)

    by : (b : Bool) → All P (worker_again x vs) → All P (if b then worker_again x vs else (Server v.tid.server, messages.Inquire v.tid v.name) ∷ worker_again x vs)
    by true k = k
    by false k = All-cons P (Server v.tid.server, messages.Inquire v.tid v.name) (worker_again x vs) (h v.name v (ap (λ (b : Bool). if b then Some v else work_at v.name vs) (work_same v.name))) k

-- ---- transactions

abbrev Known : Machine → List Transaction → Type 0
Known w xs = (U : Tid) (y : Transaction) → transaction_at U xs ≡ Some y → Knows w U (knowledge_in y.stage)

told-true : (w : Machine) (s : ServerNo) (x : Transaction) (stage : Stage) → IsStage w x.tid stage → Knows w x.tid (knowledge_in stage) → All (IsTrue w) (told_again x stage) × All IsAddressed (told_again x stage)
told-true w s x Open h k = (All-nil (IsTrue w), All-nil IsAddressed)
told-true w s x (Voting b) h k = (All-nil (IsTrue w), All-nil IsAddressed)
told-true w s x (Aborted cause) h k = (one (IsTrue w) (aborted_to x cause) h, one IsAddressed (aborted_to x cause) tt)
told-true w s x (Committed d) h k = (All-append (IsTrue w) (commits x.tid (besides d.works d.done)) _ says (by d.thanked).0, All-append IsAddressed (commits x.tid (besides d.works d.done)) _ addressed (by d.thanked).1)
  where
    says : All (IsTrue w) (commits x.tid (besides d.works d.done))
    says = All-works (IsTrue w) (λ W. (Server W.server, messages.Commit x.tid W)) (besides d.works d.done) (λ W i. (k.0, (h.0, h.1.each W (in-besides W d.works d.done i))))

    addressed : All IsAddressed (commits x.tid (besides d.works d.done))
    addressed = All-works IsAddressed (λ W. (Server W.server, messages.Commit x.tid W)) (besides d.works d.done) (λ W i. refl)

    by : (b : Bool) → All (IsTrue w) (if b then [] else committed_to x ∷ []) × All IsAddressed (if b then [] else committed_to x ∷ [])
    by true = (All-nil (IsTrue w), All-nil IsAddressed)
    by false = (one (IsTrue w) (committed_to x) k.0, one IsAddressed (committed_to x) tt)

again-told : (w : Machine) (s : ServerNo) (xs : List Transaction) → AreTransactions w s xs → Known w xs → All (IsTrue w) (coordinator_again xs) × All IsAddressed (coordinator_again xs)
again-told w s [] h k = (All-nil (IsTrue w), All-nil IsAddressed)
again-told w s (x ∷ xs) h k = let rest = again-told w s xs h.2 later in
    (All-append (IsTrue w) (told_again x x.stage) (coordinator_again xs) first.0 rest.0, All-append IsAddressed (told_again x x.stage) (coordinator_again xs) first.1 rest.1)
  where
    self : ((tid_eq x.tid x.tid ≡ true) × (x.tid ≡ x.tid)) ⊎ ((tid_eq x.tid x.tid ≡ false) × (x.tid ≢ x.tid)) → transaction_at x.tid (x ∷ xs) ≡ Some x
    self (inl p) = ap (λ (b : Bool). if b then Some x else transaction_at x.tid xs) p.0
    self (inr p) = absurd (p.1 refl)

    first : All (IsTrue w) (told_again x x.stage) × All IsAddressed (told_again x x.stage)
    first = told-true w s x x.stage h.0.is (k x.tid x (self (tid_tells x.tid x.tid)))

    none : (y : Transaction) → None ≡ Some y → ⊥
    none y e = cc

    later : Known w xs
    later U y e = by (tid_tells x.tid U)
      where
        by : ((tid_eq x.tid U ≡ true) × (x.tid ≡ U)) ⊎ ((tid_eq x.tid U ≡ false) × (x.tid ≢ U)) → Knows w U (knowledge_in y.stage)
        by (inl p) = absurd (none y (sym (subst (λ (z : Tid). transaction_at z xs ≡ None) p.1 h.1) ∙ e))
        by (inr p) = k U y (ap (λ (b : Bool). if b then Some x else transaction_at U xs) p.0 ∙ e)

-- ---- a server that sends again

module _ (r : World) (w : Machine) (s : ServerNo) (m : Memory) (mirrors : Mirrors r w) (is : r.memory s ≡ Some m) (up : UpFact s m (r.found s))
    (grow : (atoms : List Atom) → MayRun atoms w → (message : Message) → Says w message → Says (run atoms w) message) (inv : Invariant w) where
  told : All (IsTrue w) (coordinator_again m.coordinator.transactions) × All IsAddressed (coordinator_again m.coordinator.transactions)
  told = again-told w s m.coordinator.transactions (mirrors.transactions s m is) (λ U y e. subst (λ k. Knows w U k) (ap knowledge_of e)
      (knows r w s m mirrors is up grow inv U (place r w s m mirrors is up grow inv U y e) (begun r w s m mirrors is up grow inv U y e)))

  pub nudged : Mirrors (record r { sent = r.sent ++ server_again m (stable (r.found s)) }) w
  nudged = more-sent r w (server_again m (stable (r.found s))) mirrors
      (All-append (IsTrue w) (worker_again (stable (r.found s)) m.worker) (coordinator_again m.coordinator.transactions) (again-all (IsTrue w) (stable (r.found s)) m.worker up.table.rising (λ V v e. mirrors.owner s m V v is e)) told.0)
      (All-append IsAddressed (worker_again (stable (r.found s)) m.worker) (coordinator_again m.coordinator.transactions) (again-all IsAddressed (stable (r.found s)) m.worker up.table.rising (λ V v e. refl)) told.1)

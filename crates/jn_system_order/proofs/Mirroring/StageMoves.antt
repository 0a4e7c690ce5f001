-- What a coordinator does to one transaction, as steps of the machine: nothing, a new stage, a commit, or its end.
use Rattle.jn_system_order.proofs.Common.{◌≡◌, ◌≢◌, ◌⊎◌, inl, inr, Bool, true, false, List, [], ◌∷◌, ◌++◌, append-nil, Some, None, is_some, refl, sym, ◌∙◌, ap, subst, if◌then◌else◌, All, All-nil, ServerNo, Tid, WorkId, server_eq, tid_eq, server_tells, tid_tells, Flag, Message, Note, Transaction, Stage, Committed, StableState, Pick, AddFlag, DropFlag, made_by, made_all, at_tid, RowOutcome, Sent, CoordinatorTable, transaction_at, staged, with_stage, without, Machine, Knowledge, Unknown, Finishes, AllOver, AreParts, Knows, Invariant, Atom, Learn, Make, Decide, always, run, MayRun, May, MayFlag, Says, World, Memory, of_coordinator, UpFact, Mirrors, IsTrue, IsAddressed, IsStage, IsTransaction, AreTransactions, commits_of, knowledge_of, knowledge_in, known_in, next_in, Crash, crash, Left, left_of, left-none}
use Rattle.jn_system.specs.SmallSteps.Steps.{after}
use Rattle.jn_msgs.specs.declared.message.Message.TheVariants as messages
use Rattle.jn_msgs.specs.declared.message.Note.TheVariants as notes
use Rattle.jn_system_order.proofs.Mirroring.GrantMoves.{active-here, found-same}
use Rattle.jn_system_order.proofs.Mirroring.Mirrored.{left-one, DoesServer, named_by, some_made, transactions-still}
use Rattle.jn_system_order.proofs.Mirroring.QuietMoves.{ServerMoves, ServerStops}
use Rattle.jn_system_order.proofs.Mirroring.Transactions.{found-is, in_stage, at-stage, are-staged, are-less, at-less}

-- what the machine's steps have changed at the server of a coordinator's row
pub record DoesTable (s : ServerNo) (row : RowOutcome CoordinatorTable) (w v : Machine) : Type 0 where
  pub up : (q : ServerNo) → v.up q ≡ w.up q
  pub found : (q : ServerNo) (c : Pick) → v.found q c ≡ (if server_eq s q then made_all row.changes (w.found s c) else w.found q c)
  pub active : (W : WorkId) → v.active W ≡ w.active W
  pub next : (W : WorkId) → v.next W ≡ w.next W
  pub ticket_here : v.ticket s ≡ row.tickets.next
  pub ticket_elsewhere : (q : ServerNo) → s ≢ q → v.ticket q ≡ w.ticket q
  pub knowledge_here : (T : Tid) → T.server ≡ s → v.knowledge T ≡ knowledge_of (transaction_at T row.table.transactions)
  pub knowledge_elsewhere : (T : Tid) → s ≢ T.server → v.knowledge T ≡ w.knowledge T
  pub transactions : AreTransactions v s row.table.transactions
  pub commits : commits_of v.history ≡ commits_of w.history ++ named_by row.notes
  pub ended : v.ended ≡ w.ended
  pub grows : (message : Message) → Says w message → Says v message
  pub says : All (IsTrue v) row.messages
  pub addressed : All IsAddressed row.messages

-- one transaction is known otherwise, and all else is as before
pub record Learns (w v : Machine) (T : Tid) (k : Knowledge) : Type 0 where
  pub up : v.up ≡ w.up
  pub found : v.found ≡ w.found
  pub active : v.active ≡ w.active
  pub next : v.next ≡ w.next
  pub ticket : v.ticket ≡ w.ticket
  pub history : v.history ≡ w.history
  pub ended : v.ended ≡ w.ended
  pub knowledge : v.knowledge ≡ at_tid w.knowledge T k

abbrev IsTid : Tid → Tid → Type 0
IsTid T U = ((tid_eq T U ≡ true) × (T ≡ U)) ⊎ ((tid_eq T U ≡ false) × (T ≢ U))

abbrev IsServer : ServerNo → ServerNo → Type 0
IsServer s q = ((server_eq s q ≡ true) × (s ≡ q)) ⊎ ((server_eq s q ≡ false) × (s ≢ q))

none-made : (l : Left) (x : StableState) → x ≡ left_of l [] x
none-made l x = sym (left-none l x)

module _ (r : World) (w : Machine) (s : ServerNo) (m : Memory) (mirrors : Mirrors r w) (is : r.memory s ≡ Some m) (up : UpFact s m (r.found s))
    (grow : (atoms : List Atom) → MayRun atoms w → (message : Message) → Says w message → Says (run atoms w) message) (inv : Invariant w) where
  abbrev xs : List Transaction
  xs = m.coordinator.transactions

  pub all-here : AreTransactions w s xs
  all-here = mirrors.transactions s m is

  pub known-here : (U : Tid) → U.server ≡ s → w.knowledge U ≡ knowledge_of (transaction_at U xs)
  known-here U e = mirrors.knowledge U ∙ ap (λ (q : ServerNo). known_in (r.memory q) U) e ∙ ap (λ o. known_in o U) is

  pub is-up : (q : ServerNo) → q ≡ s → w.up q ≡ true
  is-up q e = mirrors.up q ∙ ap (λ (z : ServerNo). is_some (r.memory z)) e ∙ ap is_some is

  -- what the table says of a transaction is so
  pub knows : (U : Tid) → U.server ≡ s → w.begun U ≡ true → Knows w U (knowledge_of (transaction_at U xs))
  knows U e b = subst (λ k. Knows w U k) (known-here U e) (inv.core.knowledge U (is-up U.server e) b)

  pub table-does : (row : RowOutcome CoordinatorTable) (v : Machine) → DoesTable s row w v → DoesServer s (of_coordinator m row) w v
  table-does row v does = record {
    up = does.up;
    found = does.found;
    here = λ W e. does.active W ∙ active-here r w s m mirrors is up W e;
    elsewhere = λ W ne. does.active W;
    next_here = λ W e. does.next W ∙ mirrors.next W ∙ ap (λ (q : ServerNo). next_in (r.memory q) W) e ∙ ap (λ o. next_in o W) is;
    next_elsewhere = λ W ne. does.next W;
    ticket_here = does.ticket_here;
    ticket_elsewhere = does.ticket_elsewhere;
    knowledge_here = does.knowledge_here;
    knowledge_elsewhere = does.knowledge_elsewhere;
    owner = λ W x h. does.grows (messages.Inquire x.tid W) (mirrors.owner s m W x is h);
    transactions = does.transactions;
    commits = does.commits;
    ended = does.ended;
    grows = does.grows;
    says = does.says;
    addressed = does.addressed;
  }

  pub still : (row : RowOutcome CoordinatorTable) → row.changes ≡ [] → (made : Pick → Left) → ServerStops s (of_coordinator m row) made w
  still row e made = record {
    atoms = [];
    may = tt;
    does = record {
      up = λ q ne. refl;
      found = λ q c. found-same r w s m mirrors is up q c ∙ ap (λ x. if server_eq s q then x else w.found q c) (none-made (made c) (w.found s c) ∙ ap (λ cs. left_of (made c) cs (w.found s c)) (sym e));
      elsewhere = λ W ne. refl;
      next = λ W ne. refl;
      ticket = λ q ne. refl;
      knowledge = λ T ne. refl;
      history = refl;
      ended = refl;
      grows = λ message h. h;
    };
  }

  -- ---- nothing changes but what is known

  pub table-moves : (row : RowOutcome CoordinatorTable) (atoms : List Atom) → row.changes ≡ [] → MayRun atoms w → DoesTable s row w (run atoms w) → ServerMoves s (of_coordinator m row) w
  table-moves row atoms e may does = record { atoms = atoms; may = may; does = table-does row (run atoms w) does; stops = still row e }

  -- the table says the same of every transaction
  pub same-moves : (now : CoordinatorTable) (sent : List Sent) (told : List Note) → ((U : Tid) → knowledge_of (transaction_at U now.transactions) ≡ knowledge_of (transaction_at U xs)) → AreTransactions w s now.transactions
      → named_by told ≡ [] → All (IsTrue w) sent → All IsAddressed sent → ServerMoves s (of_coordinator m (record { table = now; changes = []; messages = sent; notes = told; tickets = m.tickets })) w
  same-moves now sent told same are none says addressed = table-moves _ [] refl tt record {
    up = λ q. refl;
    found = λ q c. found-same r w s m mirrors is up q c;
    active = λ W. refl;
    next = λ W. refl;
    ticket_here = mirrors.ticket s m is;
    ticket_elsewhere = λ q ne. refl;
    knowledge_here = λ U e. known-here U e ∙ sym (same U);
    knowledge_elsewhere = λ U ne. refl;
    transactions = are;
    commits = sym (append-nil (commits_of w.history)) ∙ ap (λ z. commits_of w.history ++ z) (sym none);
    ended = refl;
    grows = λ message h. h;
    says = says;
    addressed = addressed;
  }

  pub tells-moves : (sent : List Sent) (told : List Note) → named_by told ≡ [] → All (IsTrue w) sent → All IsAddressed sent
      → ServerMoves s (of_coordinator m (record { table = m.coordinator; changes = []; messages = sent; notes = told; tickets = m.tickets })) w
  tells-moves sent told none says addressed = same-moves m.coordinator sent told (λ U. refl) all-here none says addressed

  -- ---- a transaction has another stage

  module _ (T : Tid) (x : Transaction) (found : transaction_at T xs ≡ Some x) where
    pub its : IsTransaction w s x × (x.tid ≡ T)
    its = found-is w s T xs x all-here found

    pub place : T.server ≡ s
    place = ap (λ (U : Tid). U.server) (sym its.1) ∙ its.0.place

    pub begun : w.begun T ≡ true
    begun = subst (λ (U : Tid). w.begun U ≡ true) its.1 its.0.begun

    pub stage-is : IsStage w T x.stage
    stage-is = subst (λ (U : Tid). IsStage w U x.stage) its.1 its.0.is

    pub stage-known : Knows w T (knowledge_in x.stage)
    stage-known = subst (λ k. Knows w T k) (ap knowledge_of found) (knows T place begun)

    staged-known : (stage : Stage) (U : Tid) → U.server ≡ s → IsTid T U → at_tid w.knowledge T (knowledge_in stage) U ≡ knowledge_of (transaction_at U (with_stage T stage xs))
    staged-known stage U e (inl p) = ap (λ (b : Bool). if b then knowledge_in stage else w.knowledge U) p.0
        ∙ sym (ap knowledge_of (at-stage U T stage xs ∙ ap (λ (b : Bool). if b then in_stage stage (transaction_at U xs) else transaction_at U xs) p.0 ∙ ap (in_stage stage) (subst (λ (z : Tid). transaction_at z xs ≡ Some x) p.1 found)))
    staged-known stage U e (inr p) = ap (λ (b : Bool). if b then knowledge_in stage else w.knowledge U) p.0 ∙ known-here U e
        ∙ sym (ap knowledge_of (at-stage U T stage xs ∙ ap (λ (b : Bool). if b then in_stage stage (transaction_at U xs) else transaction_at U xs) p.0))

    other-known : (k : Knowledge) (U : Tid) → s ≢ U.server → IsTid T U → at_tid w.knowledge T k U ≡ w.knowledge U
    other-known k U ne (inl p) = absurd (ne (sym place ∙ ap (λ (z : Tid). z.server) p.1))
    other-known k U ne (inr p) = ap (λ (b : Bool). if b then k else w.knowledge U) p.0

    pub stage-moves : (stage : Stage) (atom : Atom) → May atom w → Learns w (after atom w) T (knowledge_in stage) → IsStage (after atom w) T stage → (sent : List Sent) → All (IsTrue (after atom w)) sent → All IsAddressed sent
        → ServerMoves s (of_coordinator m (record { table = staged m.coordinator T stage; changes = []; messages = sent; notes = []; tickets = m.tickets })) w
    stage-moves stage atom may learns now sent says addressed = table-moves _ (atom ∷ []) refl (may, tt) record {
      up = λ q. ap (λ f. f q) learns.up;
      found = λ q c. ap (λ f. f q c) learns.found ∙ found-same r w s m mirrors is up q c;
      active = λ W. ap (λ f. f W) learns.active;
      next = λ W. ap (λ f. f W) learns.next;
      ticket_here = ap (λ f. f s) learns.ticket ∙ mirrors.ticket s m is;
      ticket_elsewhere = λ q ne. ap (λ f. f q) learns.ticket;
      knowledge_here = λ U e. ap (λ f. f U) learns.knowledge ∙ staged-known stage U e (tid_tells T U);
      knowledge_elsewhere = λ U ne. ap (λ f. f U) learns.knowledge ∙ other-known (knowledge_in stage) U ne (tid_tells T U);
      transactions = are-staged (after atom w) s T stage xs (transactions-still w (after atom w) (grow (atom ∷ []) (may, tt)) s xs all-here) now;
      commits = ap commits_of learns.history ∙ sym (append-nil (commits_of w.history));
      ended = learns.ended;
      grows = grow (atom ∷ []) (may, tt);
      says = says;
      addressed = addressed;
    }

    -- ---- it commits

    module _ (flag : Flag) (same : flag.tid ≡ T) (may : MayFlag w flag) (fresh : w.named flag.tid ≡ false) where
      may-decide : MayRun (Decide flag ∷ []) w
      may-decide = ((may, fresh), tt)

      flag-place : flag.tid.server ≡ s
      flag-place = ap (λ (U : Tid). U.server) same ∙ place

      abbrev stage-now : Stage
      stage-now = Committed (record { works = flag.works; done = []; thanked = false })

      decided-known : (U : Tid) → (after (Decide flag) w).knowledge U ≡ at_tid w.knowledge T (knowledge_in stage-now) U
      decided-known U = ap (λ (b : Bool). at_tid w.knowledge flag.tid (if b then Finishes (λ W. false) else Unknown) U) (is-up flag.tid.server flag-place)
          ∙ ap (λ (z : Tid). at_tid w.knowledge z (Finishes (λ W. false)) U) same

      stage-holds : IsStage (after (Decide flag) w) T stage-now
      stage-holds = (subst (λ (z : Tid). w.ended z ≡ true) same may.ended, subst (λ (z : Tid). AreParts w z flag.works) same may.works, λ e. absurd (no e))
        where
          no : false ≡ true → ⊥
          no e = cc

      abbrev stop-atoms : (Pick → Left) → List Atom
      stop-atoms made = Crash s ∷ Make (λ c. some_made (made c).whole) (AddFlag flag) ∷ []

      may-stop : (made : Pick → Left) → MayRun (stop-atoms made) w
      may-stop made = (tt, (λ c. (record { begun = may.begun; ended = may.ended; not_aborted = may.not_aborted; ready = may.ready; works = may.works }, down (server_tells s flag.tid.server)), tt))
        where
          down : IsServer s flag.tid.server → (if server_eq s flag.tid.server then false else w.up flag.tid.server) ≡ false
          down (inl p) = ap (λ (b : Bool). if b then false else w.up flag.tid.server) p.0
          down (inr p) = absurd (p.1 (sym flag-place))

      off-up : (q : ServerNo) → s ≢ q → IsServer s q → (if server_eq s q then false else w.up q) ≡ w.up q
      off-up q ne (inl p) = absurd (ne p.1)
      off-up q ne (inr p) = ap (λ (b : Bool). if b then false else w.up q) p.0

      off-active : (W : WorkId) → s ≢ W.server → IsServer s W.server → (crash s w).active W ≡ w.active W
      off-active W ne (inl p) = absurd (ne p.1)
      off-active W ne (inr p) = ap (λ (b : Bool). if b then None else w.active W) p.0

      off-next : (W : WorkId) → s ≢ W.server → IsServer s W.server → (crash s w).next W ≡ w.next W
      off-next W ne (inl p) = absurd (ne p.1)
      off-next W ne (inr p) = ap (λ (b : Bool). if b then 0 else w.next W) p.0

      off-known : (U : Tid) → s ≢ U.server → IsServer s U.server → (crash s w).knowledge U ≡ w.knowledge U
      off-known U ne (inl p) = absurd (ne p.1)
      off-known U ne (inr p) = ap (λ (b : Bool). if b then Unknown else w.knowledge U) p.0

      pub decide-moves : (sent : List Sent) → All (IsTrue (after (Decide flag) w)) sent → All IsAddressed sent
          → ServerMoves s (of_coordinator m (record { table = staged m.coordinator T stage-now; changes = AddFlag flag ∷ []; messages = sent; notes = notes.Commit T ∷ []; tickets = m.tickets })) w
      decide-moves sent says addressed = record {
        atoms = Decide flag ∷ [];
        may = may-decide;
        does = table-does _ (after (Decide flag) w) record {
          up = λ q. refl;
          found = λ q c. ap (λ (z : ServerNo). if server_eq z q then made_by (AddFlag flag) (w.found z c) else w.found q c) flag-place;
          active = λ W. refl;
          next = λ W. refl;
          ticket_here = mirrors.ticket s m is;
          ticket_elsewhere = λ q ne. refl;
          knowledge_here = λ U e. decided-known U ∙ staged-known stage-now U e (tid_tells T U);
          knowledge_elsewhere = λ U ne. decided-known U ∙ other-known (knowledge_in stage-now) U ne (tid_tells T U);
          transactions = are-staged (after (Decide flag) w) s T stage-now xs (transactions-still w (after (Decide flag) w) (grow (Decide flag ∷ []) may-decide) s xs all-here) stage-holds;
          commits = ap (λ (z : Tid). commits_of w.history ++ z ∷ []) same;
          ended = refl;
          grows = grow (Decide flag ∷ []) may-decide;
          says = says;
          addressed = addressed;
        };
        stops = λ made. record {
          atoms = stop-atoms made;
          may = may-stop made;
          does = record {
            up = λ q ne. off-up q ne (server_tells s q);
            found = λ q c. ap (λ (z : ServerNo). if server_eq z q then (if some_made (made c).whole then made_by (AddFlag flag) (w.found z c) else w.found z c) else w.found q c) flag-place
                ∙ ap (λ z. if server_eq s q then z else w.found q c) (left-one (AddFlag flag) (made c) (w.found s c) refl);
            elsewhere = λ W ne. off-active W ne (server_tells s W.server);
            next = λ W ne. off-next W ne (server_tells s W.server);
            ticket = λ q ne. refl;
            knowledge = λ U ne. off-known U ne (server_tells s U.server);
            history = refl;
            ended = refl;
            grows = grow (stop-atoms made) (may-stop made);
          };
        };
      }

    -- ---- it is forgotten

    less-known : (U : Tid) → U.server ≡ s → IsTid T U → at_tid w.knowledge T Unknown U ≡ knowledge_of (transaction_at U (without T xs))
    less-known U e (inl p) = ap (λ (b : Bool). if b then Unknown else w.knowledge U) p.0
        ∙ sym (ap knowledge_of (at-less w s U T xs all-here ∙ ap (λ (b : Bool). if b then None else transaction_at U xs) p.0))
    less-known U e (inr p) = ap (λ (b : Bool). if b then Unknown else w.knowledge U) p.0 ∙ known-here U e
        ∙ sym (ap knowledge_of (at-less w s U T xs all-here ∙ ap (λ (b : Bool). if b then None else transaction_at U xs) p.0))

    abbrev less : CoordinatorTable
    less = record m.coordinator { transactions = without T xs }

    module _ (over : AllOver w T) (named : w.named T ≡ true) (not-aborted : w.aborted T ≡ false) where
      abbrev forget-atoms : List Atom
      forget-atoms = Make always (DropFlag T) ∷ Learn T Unknown ∷ []

      may-forget : MayRun forget-atoms w
      may-forget = (λ c. over, (record { up = is-up T.server place; begun = begun; not_aborted = not-aborted; knows = inr (named, over) }, tt))

      may-forget-stop : (made : Pick → Left) → MayRun (Make (λ c. some_made (made c).whole) (DropFlag T) ∷ []) w
      may-forget-stop made = (λ c. over, tt)

      pub forget-moves : ServerMoves s (of_coordinator m (record { table = less; changes = DropFlag T ∷ []; messages = []; notes = []; tickets = m.tickets })) w
      forget-moves = record {
        atoms = forget-atoms;
        may = may-forget;
        does = table-does _ (run forget-atoms w) record {
          up = λ q. refl;
          found = λ q c. ap (λ (z : ServerNo). if server_eq z q then made_by (DropFlag T) (w.found z c) else w.found q c) place;
          active = λ W. refl;
          next = λ W. refl;
          ticket_here = mirrors.ticket s m is;
          ticket_elsewhere = λ q ne. refl;
          knowledge_here = λ U e. less-known U e (tid_tells T U);
          knowledge_elsewhere = λ U ne. other-known Unknown U ne (tid_tells T U);
          transactions = are-less (run forget-atoms w) s T xs (transactions-still w (run forget-atoms w) (grow forget-atoms may-forget) s xs all-here);
          commits = sym (append-nil (commits_of w.history));
          ended = refl;
          grows = grow forget-atoms may-forget;
          says = All-nil (IsTrue (run forget-atoms w));
          addressed = All-nil IsAddressed;
        };
        stops = λ made. record {
          atoms = Make (λ c. some_made (made c).whole) (DropFlag T) ∷ [];
          may = may-forget-stop made;
          does = record {
            up = λ q ne. refl;
            found = λ q c. ap (λ (z : ServerNo). if server_eq z q then (if some_made (made c).whole then made_by (DropFlag T) (w.found z c) else w.found z c) else w.found q c) place
                ∙ ap (λ z. if server_eq s q then z else w.found q c) (left-one (DropFlag T) (made c) (w.found s c) refl);
            elsewhere = λ W ne. refl;
            next = λ W ne. refl;
            ticket = λ q ne. refl;
            knowledge = λ U ne. refl;
            history = refl;
            ended = refl;
            grows = grow (Make (λ c. some_made (made c).whole) (DropFlag T) ∷ []) (may-forget-stop made);
          };
        };
      }

    -- one that was not known anyway
    pub leave-moves : knowledge_in x.stage ≡ Unknown → ServerMoves s (of_coordinator m (record { table = less; changes = []; messages = []; notes = []; tickets = m.tickets })) w
    leave-moves e = same-moves less [] [] (λ U. by U (tid_tells T U)) (are-less w s T xs all-here) refl (All-nil (IsTrue w)) (All-nil IsAddressed)
      where
        by : (U : Tid) → IsTid T U → knowledge_of (transaction_at U (without T xs)) ≡ knowledge_of (transaction_at U xs)
        by U (inl p) = ap knowledge_of (at-less w s U T xs all-here ∙ ap (λ (b : Bool). if b then None else transaction_at U xs) p.0)
            ∙ sym (ap knowledge_of (subst (λ (z : Tid). transaction_at z xs ≡ Some x) p.1 found) ∙ e)
        by U (inr p) = ap knowledge_of (at-less w s U T xs all-here ∙ ap (λ (b : Bool). if b then None else transaction_at U xs) p.0)

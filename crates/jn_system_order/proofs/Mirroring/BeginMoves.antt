-- What a coordinator does with a Begin, as steps of the machine.
use Rattle.jn_system_order.proofs.Common.{◌≡◌, ◌≢◌, ◌⊎◌, inl, inr, ◌+◌, Bool, true, false, List, [], ◌∷◌, ◌++◌, append-nil, Option, Some, None, refl, sym, ◌∙◌, ap, subst, ◌&&◌, if◌then◌else◌, length, nat_lt, nat_eq, All-nil, All-cons, ServerNo, ClientNo, Tid, Client, server_eq, client_eq, tid_eq, server_tells, tid_tells, Message, Transaction, Open, StableState, made_all, at_tid, RowOutcome, CoordinatorTable, transaction_at, after_closing, changes_of_closing, seen_now, name_from, begin_again, begun_by, begin_row, is_begun, Machine, Begun, Invariant, Atom, begin_it, run, MayRun, MayBegin, Says, run_kept, fresh_tid, at_tid_here, not_both, World, Memory, of_coordinator, UpFact, Mirrors, IsTrue, IsAddressed, AreTransactions, commits_of, knowledge_of, Closes, client-closes, RequestNo}
use Rattle.jn_msgs.specs.declared.message.Message.TheVariants as messages
use Rattle.jn_system.specs.SmallSteps.Steps.{Begin}
use Rattle.jn_system.proofs.WholeSystem.CoordinatorRows.{epoch-all}
use Rattle.jn_system_order.proofs.Mirroring.GrantMoves.{found-here}
use Rattle.jn_system_order.proofs.Mirroring.Losing.{run-append, may-append}
use Rattle.jn_system_order.proofs.Mirroring.Mirrored.{transactions-still}
use Rattle.jn_system_order.proofs.Mirroring.QuietMoves.{ServerMoves}
use Rattle.jn_system_order.proofs.Mirroring.Transactions.{found-is, at-more, are-more}
use Rattle.jn_system_order.proofs.Mirroring.StageMoves.{DoesTable, table-does, all-here, is-up}
use Rattle.jn_system_order.proofs.Mirroring.CoordinatorMoves.{ignores, tells}
use Rattle.jn_system_order.proofs.Mirroring.Closing.{still-says, same-server}
use Rattle.jn_system_order.proofs.Mirroring.ClosingMoves.{AllClose, closing, closing-stops, closing-moves, closed-known, closed-elsewhere}

abbrev IsTid : Tid → Tid → Type 0
IsTid T U = ((tid_eq T U ≡ true) × (T ≡ U)) ⊎ ((tid_eq T U ≡ false) × (T ≢ U))

module _ (r : World) (w : Machine) (s : ServerNo) (m : Memory) (mirrors : Mirrors r w) (is : r.memory s ≡ Some m) (up : UpFact s m (r.found s))
    (grow : (atoms : List Atom) → MayRun atoms w → (message : Message) → Says w message → Says (run atoms w) message) (inv : Invariant w) where
  abbrev Moves : RowOutcome CoordinatorTable → Type 0
  Moves row = ServerMoves s (of_coordinator m row) w

  abbrev xs : List Transaction
  xs = m.coordinator.transactions

  module _ (c : ClientNo) (request : RequestNo) where
    abbrev ys : List Transaction
    ys = after_closing c xs

    abbrev its : Closes (λ (x : Transaction). x.client ≡ c) xs ys (changes_of_closing c xs)
    its = client-closes c xs

    abbrev closes : AllClose s xs ys (changes_of_closing c xs) w
    closes = closing r w s m mirrors is up grow inv its

    abbrev v : Machine
    v = closes.now

    closed-inv : Invariant v
    closed-inv = subst (λ (z : Machine). Invariant z) closes.ran (run_kept closes.atoms w closes.may inv)

    abbrev table : CoordinatorTable
    table = record { transactions = ys; seen = seen_now m.coordinator.seen c request }

    -- no room
    full-moves : Moves (record { table = table; changes = changes_of_closing c xs; messages = (Client c, messages.Begun c request None) ∷ []; notes = []; tickets = m.tickets })
    full-moves = closing-moves r w s m mirrors is up grow inv its (seen_now m.coordinator.seen c request) _ (All-cons (IsTrue v) (Client c, messages.Begun c request None) [] tt (All-nil (IsTrue v)))
        (All-cons IsAddressed (Client c, messages.Begun c request None) [] tt (All-nil IsAddressed))

    -- a new one
    abbrev T : Tid
    T = name_from m.tickets

    may-begin : MayBegin v T
    may-begin = record {
      up = ap (λ f. f T.server) closes.keeps.up ∙ is-up r w s m mirrors is up grow inv T.server up.server;
      ticket = sym (ap (λ f. f T.server) closes.keeps.ticket ∙ ap w.ticket up.server ∙ mirrors.ticket s m is);
      epoch = λ p. up.epoch ∙ sym (ap (λ (q : ServerNo). (v.found q p).epoch) up.server ∙ ap (λ (z : StableState). z.epoch) (closes.found s p ∙ ap (λ (b : Bool). if b then made_all (changes_of_closing c xs) (w.found s p) else w.found s p) (same-server s))
          ∙ epoch-all (changes_of_closing c xs) (w.found s p) ∙ ap (λ (z : StableState). z.epoch) (found-here r w s m mirrors is up s p refl));
    }

    -- no transaction of the table has its name
    fresh : transaction_at T ys ≡ None
    fresh = by (transaction_at T ys) refl
      where
        by : (o : Option Transaction) → transaction_at T ys ≡ o → o ≡ None
        by None h = refl
        by (Some y) h = let f = found-is v s T ys y closes.transactions h in
            absurd (not_both (v.begun T) (subst (λ (U : Tid). v.begun U ≡ true) f.1 f.0.begun) (fresh_tid v T closed-inv.names may-begin))

    abbrev new : Transaction
    new = record { tid = T; client = c; begun = Some request; stage = Open }

    abbrev begun-row : RowOutcome CoordinatorTable
    begun-row = record {
      table = record table { transactions = ys ++ new ∷ [] };
      changes = changes_of_closing c xs;
      messages = (Client c, messages.Begun c request (Some T)) ∷ [];
      notes = [];
      tickets = record m.tickets { next = m.tickets.next + 1 };
    }

    abbrev begun-atoms : List Atom
    begun-atoms = closes.atoms ++ Begin T ∷ []

    begun-ran : run begun-atoms w ≡ begin_it T v
    begun-ran = run-append closes.atoms (Begin T ∷ []) w ∙ ap (λ (z : Machine). begin_it T z) closes.ran

    begun-may : MayRun begun-atoms w
    begun-may = may-append closes.atoms (Begin T ∷ []) w closes.may (subst (λ (z : Machine). MayBegin z T) (sym closes.ran) may-begin, tt)

    begun-grows : (message : Message) → Says w message → Says (begin_it T v) message
    begun-grows message h = subst (λ (z : Machine). Says z message) begun-ran (grow begun-atoms begun-may message h)

    later-says : (message : Message) → Says v message → Says (begin_it T v) message
    later-says message h = still-says (Begin T ∷ []) v (may-begin, tt) closed-inv message h

    its-begun : (begin_it T v).begun T ≡ true
    its-begun = at_tid_here v.begun T true

    begun-known : (U : Tid) → U.server ≡ s → IsTid T U → at_tid v.knowledge T Begun U ≡ knowledge_of (transaction_at U (ys ++ new ∷ []))
    begun-known U e (inl p) = ap (λ (b : Bool). if b then Begun else v.knowledge U) p.0 ∙ sym (ap knowledge_of (at-more U ys new fresh ∙ ap (λ (b : Bool). if b then Some new else transaction_at U ys) p.0))
    begun-known U e (inr p) = ap (λ (b : Bool). if b then Begun else v.knowledge U) p.0 ∙ closed-known r w s m mirrors is up grow inv its U e
        ∙ sym (ap knowledge_of (at-more U ys new fresh ∙ ap (λ (b : Bool). if b then Some new else transaction_at U ys) p.0))

    begun-elsewhere : (U : Tid) → s ≢ U.server → IsTid T U → at_tid v.knowledge T Begun U ≡ w.knowledge U
    begun-elsewhere U ne (inl p) = absurd (ne (sym up.server ∙ ap (λ (z : Tid). z.server) p.1))
    begun-elsewhere U ne (inr p) = ap (λ (b : Bool). if b then Begun else v.knowledge U) p.0 ∙ closed-elsewhere r w s m mirrors is up grow inv its U ne

    abbrev IsServer : ServerNo → Type 0
    IsServer q = ((server_eq T.server q ≡ true) × (T.server ≡ q)) ⊎ ((server_eq T.server q ≡ false) × (T.server ≢ q))

    ticket-here : IsServer s → (begin_it T v).ticket s ≡ m.tickets.next + 1
    ticket-here (inl p) = ap (λ (b : Bool). if b then v.ticket T.server + 1 else v.ticket s) p.0 ∙ ap (λ n. n + 1) (sym may-begin.ticket)
    ticket-here (inr p) = absurd (p.1 up.server)

    ticket-there : (q : ServerNo) → s ≢ q → IsServer q → (begin_it T v).ticket q ≡ w.ticket q
    ticket-there q ne (inl p) = absurd (ne (sym up.server ∙ p.1))
    ticket-there q ne (inr p) = ap (λ (b : Bool). if b then v.ticket T.server + 1 else v.ticket q) p.0 ∙ ap (λ f. f q) closes.keeps.ticket

    begun-does : DoesTable s begun-row w (begin_it T v)
    begun-does = record {
      up = λ q. ap (λ f. f q) closes.keeps.up;
      found = closes.found;
      active = λ W. ap (λ f. f W) closes.keeps.active;
      next = λ W. ap (λ f. f W) closes.keeps.next;
      ticket_here = ticket-here (server_tells T.server s);
      ticket_elsewhere = λ q ne. ticket-there q ne (server_tells T.server q);
      knowledge_here = λ U e. begun-known U e (tid_tells T U);
      knowledge_elsewhere = λ U ne. begun-elsewhere U ne (tid_tells T U);
      transactions = are-more (begin_it T v) s ys new (transactions-still v (begin_it T v) later-says s ys closes.transactions) (record { place = up.server; begun = its-begun; is = tt }) fresh;
      commits = ap commits_of closes.keeps.history ∙ sym (append-nil (commits_of w.history));
      ended = closes.keeps.ended;
      grows = begun-grows;
      says = All-cons (IsTrue (begin_it T v)) (Client c, messages.Begun c request (Some T)) [] its-begun (All-nil (IsTrue (begin_it T v)));
      addressed = All-cons IsAddressed (Client c, messages.Begun c request (Some T)) [] tt (All-nil IsAddressed);
    }

    begun-moves : Moves begun-row
    begun-moves = record {
      atoms = begun-atoms;
      may = begun-may;
      does = table-does r w s m mirrors is up grow inv begun-row (run begun-atoms w) (subst (λ (z : Machine). DoesTable s begun-row w z) (sym begun-ran) begun-does);
      stops = closing-stops r w s m mirrors is up grow inv its begun-row refl;
    }

    -- ---- a Begin that was taken before

    none : (y : Transaction) → None ≡ Some y → ⊥
    none y e = cc

    begun-in : (zs : List Transaction) (y : Transaction) → AreTransactions w s zs → begun_by c request zs ≡ Some y → w.begun y.tid ≡ true
    begun-in [] y h k = absurd (none y k)
    begun-in (z ∷ zs) y h k = by (client_eq z.client c && is_begun z.begun request) k (begun-in zs y h.2)
      where
        some : Some z ≡ Some y → z ≡ y
        some q = cc

        by : (b : Bool) → (if b then Some z else begun_by c request zs) ≡ Some y → (begun_by c request zs ≡ Some y → w.begun y.tid ≡ true) → w.begun y.tid ≡ true
        by true q on = subst (λ (t : Transaction). w.begun t.tid ≡ true) (some q) h.0.begun
        by false q on = on q

    again-moves : (o : Option Transaction) → begun_by c request xs ≡ o → Moves (begin_again m.coordinator m.tickets c request o)
    again-moves None h = ignores r w s m mirrors is up grow inv
    again-moves (Some y) h = tells r w s m mirrors is up grow inv ((Client c, messages.Begun c request (Some y.tid)) ∷ [])
        (All-cons (IsTrue w) (Client c, messages.Begun c request (Some y.tid)) [] (begun-in xs y (all-here r w s m mirrors is up grow inv) h) (All-nil (IsTrue w)))
        (All-cons IsAddressed (Client c, messages.Begun c request (Some y.tid)) [] tt (All-nil IsAddressed))

    either : (b : Bool) (p q : RowOutcome CoordinatorTable) → Moves p → Moves q → Moves (if b then p else q)
    either true p q h l = h
    either false p q h l = l

    pub begin-moves : Moves (begin_row m.coordinator m.tickets c request)
    begin-moves = either (nat_lt (m.coordinator.seen c) request.0) _ _ (either (nat_lt (length ys) 64) _ _ begun-moves full-moves)
        (either (nat_eq (m.coordinator.seen c) request.0) _ _ (again-moves (begun_by c request xs) refl) (ignores r w s m mirrors is up grow inv))

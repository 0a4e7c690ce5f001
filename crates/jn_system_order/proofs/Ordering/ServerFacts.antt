-- A server's steps keep what holds of the openings.
use Rattle.jn_system_order.proofs.Common.{Step, ◌≡◌, ◌⊎◌, inl, inr, ℕ, Bool, true, false, List, [], ◌∷◌, ◌++◌, append-nil, Option, Some, None, is_some, ◌+◌, refl, sym, ◌∙◌, ap, subst, arith, ◌&&◌, if◌then◌else◌, nat_eq, nat_lt, length, nat_tests, ServerNo, ClientNo, Tid, Client, client_eq, client_tells, Message, Transaction, Open, StableState, stable, RowOutcome, WorkerTable, worker_again, timeout_row, CoordinatorTable, coordinator_again, name_from, after_closing, changes_of_closing, seen_now, begin_again, begun_by, begin_row, is_begun, Machine, Invariant, fresh_tid, World, Memory, at_server, Room, storage_of, of_worker, of_coordinator, server_row, server_again, of_timeout, done, works, UpFact, client-closes, outcomes-close, Mirrors, RequestNo, server_timeout, ServerRow, of_message, of_work, of_closing, memory-now, memory-gone, row-of-step}
use Rattle.jn_msgs.specs.declared.message.Message.TheVariants as messages
use Rattle.jn_system_order.proofs.Mirroring.GrantMoves.{found-here}
use Rattle.jn_system_order.proofs.Ordering.Openings.{Opening, openings, openings-more, Has, has-first, has-second, has-either, HasOpening, HaveOpenings, more-openings}
use Rattle.jn_system_order.proofs.Ordering.RowOpenings.{worker-none, step-none, again-none, Quiet, closes-have, coordinator-quiet, coordinator-again-quiet}
use Rattle.jn_system_order.proofs.Ordering.Facts.{opening, Facts, facts-keep}

-- what a row's messages and table have
pub record RowFacts (os : List Opening) (w : Machine) (row : RowOutcome Memory) : Type 0 where
  pub fresh : Opening
  pub back : (a : Opening) → Has a (openings row.messages) → Has a os ⊎ ((a ≡ fresh) × (w.begun fresh.tid ≡ false))
  pub tables : HaveOpenings (os ++ openings row.messages) row.table.coordinator.transactions

no-opening : Opening
no-opening = record { client = record { 0 = 0 }; request = record { 0 = 0 }; tid = record { server = record { 0 = 0 }; epoch = 0; ticket = 0 } }

append-have : (os : List Opening) (xs ys : List Transaction) → HaveOpenings os xs → HaveOpenings os ys → HaveOpenings os (xs ++ ys)
append-have os [] ys h k = k
append-have os (x ∷ xs) ys h k = (h.0, append-have os xs ys h.1 k)

-- ---- rows

module _ (os : List Opening) (w : Machine) (m : Memory) (have : HaveOpenings os m.coordinator.transactions) where
  -- nothing is opened
  plain : (row : RowOutcome Memory) → openings row.messages ≡ [] → HaveOpenings os row.table.coordinator.transactions → RowFacts os w row
  plain row none h = record {
    fresh = no-opening;
    back = λ a k. absurd (subst (λ l. Has a l) none k);
    tables = more-openings os (openings row.messages) row.table.coordinator.transactions h;
  }

  by-worker : (row : RowOutcome WorkerTable) → openings row.messages ≡ [] → RowFacts os w (of_worker m row)
  by-worker row none = plain (of_worker m row) none have

  by-quiet : (row : RowOutcome CoordinatorTable) → Quiet m.coordinator row → RowFacts os w (of_coordinator m row)
  by-quiet row q = plain (of_coordinator m row) q.none (q.keeps os have)

  -- a Begin
  module _ (c : ClientNo) (request : RequestNo) (not-begun : w.begun (name_from m.tickets) ≡ false) where
    abbrev ys : List Transaction
    ys = after_closing c m.coordinator.transactions

    ys-have : HaveOpenings os ys
    ys-have = closes-have os (client-closes c m.coordinator.transactions) have

    abbrev table : CoordinatorTable
    table = record { transactions = ys; seen = seen_now m.coordinator.seen c request }

    abbrev new : Transaction
    new = record { tid = name_from m.tickets; client = c; begun = Some request; stage = Open }

    its : HasOpening (os ++ opening c request (name_from m.tickets) ∷ []) new
    its q e = has-second _ os (opening c request (name_from m.tickets) ∷ []) (inl (ap (λ n. opening c n (name_from m.tickets)) (some e)))
      where
        some : {q : RequestNo} → Some request ≡ Some q → request ≡ q
        some f = cc

    begun-facts : RowFacts os w (of_coordinator m (record {
      table = record table { transactions = ys ++ new ∷ [] };
      changes = changes_of_closing c m.coordinator.transactions;
      messages = (Client c, messages.Begun c request (Some (name_from m.tickets))) ∷ [];
      notes = [];
      tickets = record m.tickets { next = m.tickets.next + 1 };
    }))
    begun-facts = record {
      fresh = opening c request (name_from m.tickets);
      back = λ a k. inr (by a k, not-begun);
      tables = append-have (os ++ opening c request (name_from m.tickets) ∷ []) ys (new ∷ []) (more-openings os (opening c request (name_from m.tickets) ∷ []) ys ys-have) (its, tt);
    }
      where
        by : (a : Opening) → (opening c request (name_from m.tickets) ≡ a) ⊎ ⊥ → a ≡ opening c request (name_from m.tickets)
        by a (inl e) = sym e
        by a (inr e) = absurd e

    either : (b : Bool) (p q : RowOutcome CoordinatorTable) → RowFacts os w (of_coordinator m p) → RowFacts os w (of_coordinator m q) → RowFacts os w (of_coordinator m (if b then p else q))
    either true p q h l = h
    either false p q h l = l

    -- one that was begun before
    found-begun : (zs : List Transaction) (y : Transaction) → HaveOpenings os zs → begun_by c request zs ≡ Some y → Has (opening c request y.tid) os
    found-begun [] y h k = absurd (none k)
      where
        none : None ≡ Some y → ⊥
        none q = cc
    found-begun (z ∷ zs) y h k = by (client_eq z.client c && is_begun z.begun request) refl k (found-begun zs y h.1)
      where
        some : Some z ≡ Some y → z ≡ y
        some q = cc

        first : (a b : Bool) → (a && b) ≡ true → a ≡ true
        first a b q = grind arith

        second : (a b : Bool) → (a && b) ≡ true → b ≡ true
        second a b q = grind arith

        same-client : client_eq z.client c ≡ true → z.client ≡ c
        same-client e = grind (arith, client_tells z.client c, e)

        same-request : (o : Option RequestNo) → is_begun o request ≡ true → o ≡ Some request
        same-request None e = absurd (no e)
          where
            no : false ≡ true → ⊥
            no q = grind arith
        same-request (Some q) e = grind (arith, nat_tests)

        by : (b : Bool) → (client_eq z.client c && is_begun z.begun request) ≡ b → (if b then Some z else begun_by c request zs) ≡ Some y → (begun_by c request zs ≡ Some y → Has (opening c request y.tid) os) → Has (opening c request y.tid) os
        by true e q on = subst (λ (t : Transaction). Has (opening c request t.tid) os) (some q)
            (subst (λ (d : ClientNo). Has (opening d request z.tid) os) (same-client (first (client_eq z.client c) (is_begun z.begun request) e)) (h.0 request (same-request z.begun (second (client_eq z.client c) (is_begun z.begun request) e))))
        by false e q on = on q

    again-facts : (o : Option Transaction) → begun_by c request m.coordinator.transactions ≡ o → RowFacts os w (of_coordinator m (begin_again m.coordinator m.tickets c request o))
    again-facts None h = plain _ refl have
    again-facts (Some y) h = record {
      fresh = no-opening;
      back = λ a k. by a k;
      tables = more-openings os (opening c request y.tid ∷ []) m.coordinator.transactions have;
    }
      where
        by : (a : Opening) → (opening c request y.tid ≡ a) ⊎ ⊥ → Has a os ⊎ ((a ≡ no-opening) × (w.begun no-opening.tid ≡ false))
        by a (inl e) = inl (subst (λ (z : Opening). Has z os) e (found-begun m.coordinator.transactions y have h))
        by a (inr e) = absurd e

    begin-facts : RowFacts os w (of_coordinator m (begin_row m.coordinator m.tickets c request))
    begin-facts = either (nat_lt (m.coordinator.seen c) request.0) _ _ (either (nat_lt (length ys) 64) _ _ begun-facts (plain _ refl ys-have))
        (either (nat_eq (m.coordinator.seen c) request.0) _ _ (again-facts (begun_by c request m.coordinator.transactions) refl) (plain _ refl have))

  row-facts : (x : StableState) (room : Room) (message : Message) → w.begun (name_from m.tickets) ≡ false → RowFacts os w (server_row m x room message)
  row-facts x room (messages.Open c request T) fresh = by-worker _ (worker-none m.worker (storage_of m x room) m.tickets (messages.Open c request T))
  row-facts x room (messages.Op c request W number op) fresh = by-worker _ (worker-none m.worker (storage_of m x room) m.tickets (messages.Op c request W number op))
  row-facts x room (messages.Prepare T c W) fresh = by-worker _ (worker-none m.worker (storage_of m x room) m.tickets (messages.Prepare T c W))
  row-facts x room (messages.Commit T W) fresh = by-worker _ (worker-none m.worker (storage_of m x room) m.tickets (messages.Commit T W))
  row-facts x room (messages.Drop T W) fresh = by-worker _ (worker-none m.worker (storage_of m x room) m.tickets (messages.Drop T W))
  row-facts x room (messages.Begin c request) fresh = begin-facts c request fresh
  row-facts x room (messages.End c request T works) fresh = by-quiet _ (coordinator-quiet m.coordinator room.free.records m.tickets (messages.End c request T works) refl)
  row-facts x room (messages.Abort c request T works) fresh = by-quiet _ (coordinator-quiet m.coordinator room.free.records m.tickets (messages.Abort c request T works) refl)
  row-facts x room (messages.Thanks c T) fresh = by-quiet _ (coordinator-quiet m.coordinator room.free.records m.tickets (messages.Thanks c T) refl)
  row-facts x room (messages.Vote T W vote) fresh = by-quiet _ (coordinator-quiet m.coordinator room.free.records m.tickets (messages.Vote T W vote) refl)
  row-facts x room (messages.Done T W) fresh = by-quiet _ (coordinator-quiet m.coordinator room.free.records m.tickets (messages.Done T W) refl)
  row-facts x room (messages.Inquire T W) fresh = by-quiet _ (coordinator-quiet m.coordinator room.free.records m.tickets (messages.Inquire T W) refl)
  row-facts x room _ fresh = plain _ refl have

-- ---- the world

module _ (r : World) (w v : Machine) (mirrors : Mirrors r w) (facts : Facts r w) (inv : Invariant w) (ended : v.ended ≡ w.ended) (grow : (T : Tid) → w.begun T ≡ true → v.begun T ≡ true) where
  abbrev os : List Opening
  os = openings r.sent

  -- nothing is sent
  pub still-facts : (r' : World) → r'.clients ≡ r.clients → openings r'.sent ≡ openings r.sent → ((s : ServerNo) (m : Memory) → r'.memory s ≡ Some m → HaveOpenings (openings r.sent) m.coordinator.transactions) → Facts r' v
  still-facts r' clients same tables = facts-keep r r' w v mirrors facts clients ended grow no-opening (λ a h. subst (λ l. Has a l) (sym same) h) (λ a h. inl (subst (λ l. Has a l) same h))
      (λ s m e. subst (λ l. HaveOpenings l m.coordinator.transactions) (sym same) (tables s m e))

  abbrev Have : List Opening → Memory → Type 0
  Have now m = HaveOpenings now m.coordinator.transactions

  -- a server's table changes, and nothing is sent
  pub up-tables : (s : ServerNo) (m : Memory) → Have os m → (q : ServerNo) (n : Memory) → at_server r.memory s (Some m) q ≡ Some n → Have os n
  up-tables = memory-now (Have os) r.memory facts.tables

  pub down-tables : (s q : ServerNo) (n : Memory) → at_server r.memory s None q ≡ Some n → Have os n
  down-tables = memory-gone (Have os) r.memory facts.tables

  pub late-tables : (s : ServerNo) (m : Memory) (T : Tid) → r.memory s ≡ Some m → (q : ServerNo) (n : Memory) → at_server r.memory s (Some (server_timeout m T)) q ≡ Some n → Have os n
  late-tables s m T is = up-tables s (server_timeout m T) (by (timeout_row m.worker T))
    where
      by : (t : Option WorkerTable) → HaveOpenings os (of_timeout m t).coordinator.transactions
      by None = facts.tables s m is
      by (Some t) = facts.tables s m is

  -- what a server sends again opens nothing
  pub again-opens : (s : ServerNo) (m : Memory) → openings (r.sent ++ server_again m (stable (r.found s))) ≡ os
  again-opens s m = openings-more r.sent (server_again m (stable (r.found s))) ∙ ap (λ l. os ++ l) (openings-more (worker_again (stable (r.found s)) m.worker) (coordinator_again m.coordinator.transactions)
      ∙ ap (λ l. l ++ openings (coordinator_again m.coordinator.transactions)) (again-none (stable (r.found s)) m.worker) ∙ coordinator-again-quiet m.coordinator.transactions) ∙ append-nil os

  module _ (s : ServerNo) (m : Memory) (is : r.memory s ≡ Some m) (up : UpFact s m (r.found s)) where
    -- a name that is given next was never given
    next-fresh : w.begun (name_from m.tickets) ≡ false
    next-fresh = fresh_tid w (name_from m.tickets) inv.names record {
      up = mirrors.up m.tickets.server ∙ ap (λ (q : ServerNo). is_some (r.memory q)) up.server ∙ ap is_some is;
      ticket = sym (ap w.ticket up.server ∙ mirrors.ticket s m is);
      epoch = λ c. up.epoch ∙ sym (ap (λ x. x.epoch) (found-here r w s m mirrors is up m.tickets.server c up.server));
    }

    row-opens : (step : Step) (k : Option ℕ) (row : RowOutcome Memory) → ServerRow r s m None step k row → RowFacts os w row
    row-opens _ _ _ (of_message _ k room message e) = row-facts os w m (facts.tables s m is) (stable (r.found s)) room message next-fresh
    row-opens _ _ _ (of_work _ room row e) = row-of-step (RowFacts os w) m (stable (r.found s)) room row e
        (λ x i. by-worker os w m (facts.tables s m is) x (step-none m.worker (storage_of m (stable (r.found s)) room) m.tickets x i))
    row-opens _ _ _ of_closing = plain os w m (facts.tables s m is) _ refl (closes-have os (outcomes-close m.coordinator.transactions) (facts.tables s m is))

    pub done-facts : (step : Step) (k : Option ℕ) (row : RowOutcome Memory) → ServerRow r s m None step k row → Facts (done s k row r) v
    done-facts step k row of = facts-keep r (done s k row r) w v mirrors facts refl ended grow h.fresh (λ a e. subst (λ l. Has a l) (sym more) (has-first a os (openings row.messages) e))
        (λ a e. by a (has-either a os (openings row.messages) (subst (λ l. Has a l) more e)))
        (subst (λ l. (q : ServerNo) (n : Memory) → at_server r.memory s (Some row.table) q ≡ Some n → Have l n) (sym more)
        (memory-now (Have (os ++ openings row.messages)) r.memory (λ q n e. more-openings os (openings row.messages) n.coordinator.transactions (facts.tables q n e)) s row.table h.tables))
      where
        h : RowFacts os w row
        h = row-opens step k row of

        more : openings (r.sent ++ row.messages) ≡ os ++ openings row.messages
        more = openings-more r.sent row.messages

        by : (a : Opening) → Has a os ⊎ Has a (openings row.messages) → Has a os ⊎ ((a ≡ h.fresh) × (w.begun h.fresh.tid ≡ false))
        by a (inl p) = inl p
        by a (inr p) = h.back a p

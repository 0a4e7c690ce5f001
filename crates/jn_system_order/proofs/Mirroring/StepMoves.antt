-- Steps of the whole system as steps of the machine.
use Rattle.jn_system_order.proofs.Common.{◌≡◌, ◌⊎◌, ◌<◌, ◌≤◌, inl, inr, Bool, true, List, [], ◌∷◌, ◌++◌, Option, Some, None, is_some, refl, sym, ◌∙◌, ap, subst, arith, ◌||◌, if◌then◌else◌, slice_get, All, get_or, list_any, All-get_or, All-nil, ServerNo, Tid, Client, Server, server_eq, tid_eq, AllFiles, Message, Work, Phase, Active, Broken, Stored, Outstanding, StableState, Pick, stable, RowOutcome, Sent, transaction_at, over, worker_row, WorkerTable, work_at, work_of, timed_out, vulnerable, Text, Machine, PartFact, Atom, Crashes, Narrows, RaiseEpoch, with_epoch, run, opening_world, MayRun, Says, run_kept, opening_kept, Invariant, run_told, opening_told, still_true, grows, says_still, World, Memory, at_server, opening, new_memory, commits_in, storage_of, Room, of_worker, server_row, of_timeout, works, Step, done, stopped, IsStep, LockFacts, ServerFact, UpFact, Mirrors, AreTransactions, IsClient, commits_of, MovesTo, IsTrue, IsAddressed, is_shown, active_in, next_in, known_in, working_in, of-found, append-nil, fun_ext, one-found, ServerRow, of_message, of_work, of_closing, FoundThen, by_narrowing, by_raising, Quiet, event_begins, none_changes, is_refused, client_repeats, server_repeats, is_lost, StepCase, client_row, row_done, row_stopped, gone_late, gone_down, come_up, found_anew, dismissed, quietly, step-case, some-memory, row-of-step, after, Left, whole_only}
use Rattle.std.proofs.Common.{ℕ, length}
use Rattle.std.proofs.lemmas.Option.{slice_get_cases}
use Rattle.jn_msgs.specs.declared.message.Message.TheVariants as messages
use Rattle.jn_report.specs.declared.line.Text.TheVariants as says
use Rattle.jn_system.specs.SmallSteps.World.{Commit}
use Rattle.jn_system.specs.SmallSteps.Order.{has_committed}
use Rattle.jn_system_order.proofs.Mirroring.Mirrored.{All-grows, mirrored, stop-mirrored, transactions-still, client-still}
use Rattle.jn_system_order.proofs.Mirroring.WorkerNotes.{worker-none, step-none}
use Rattle.jn_system_order.proofs.Mirroring.QuietMoves.{sends-moves, RowMoves, ServerMoves, ServerStops, worker-moves, phase-moves}
use Rattle.jn_system_order.proofs.Mirroring.Losing.{run-append, may-append}
use Rattle.jn_system_order.proofs.Mirroring.CarryMoves.{step-move}
use Rattle.jn_system_order.proofs.Mirroring.CoordinatorMoves.{ignores, inquires-move, vote-row-moves, done-row-moves, thanks-row-moves, end-row-moves, abort-row-moves}
use Rattle.jn_system_order.proofs.Mirroring.ClosingMoves.{close-moves}
use Rattle.jn_system_order.proofs.Mirroring.BeginMoves.{begin-moves}
use Rattle.jn_system_order.proofs.Mirroring.ClientMoves.{quiet-line, stays-with, line-moves, again-moves, row-moves}
use Rattle.jn_system_order.proofs.Mirroring.NudgeMoves.{nudged}
use Rattle.jn_system_order.proofs.Mirroring.RestartMoves.{restart-moves}
use Rattle.jn_system_order.proofs.Mirroring.WorkerMoves.{worker-row-moves}

-- what holds of every message that was sent
pub holds-of : (P : Sent → Type 0) (sent : List Sent) (k : ℕ) (x : Sent) → All P sent → slice_get sent k ≡ Some x → P x
holds-of P sent k x all h = by (slice_get_cases sent k).1
  where
    some : (a b : Sent) → Some a ≡ Some b → a ≡ b
    some a b e = cc

    by : ((y : Sent) × (k < length sent) × (slice_get sent k ≡ Some y) × (get_or sent k y ≡ y)) ⊎ ((length sent ≤ k) × (slice_get sent k ≡ None)) → P x
    by (inl p) = subst P (some p.0 x (sym p.2 ∙ h)) (subst P p.3 (All-get_or P sent k p.0 p.1 all))
    by (inr p) = absurd (none (sym p.1 ∙ h))
      where
        none : None ≡ Some x → ⊥
        none q = cc

-- what has committed has its line
any-more : (T : Tid) (Ts : List Tid) (U : Tid) → list_any (λ (V : Tid). tid_eq V T) (Ts ++ U ∷ []) ≡ (tid_eq U T || list_any (λ (V : Tid). tid_eq V T) Ts)
any-more T [] U = refl
any-more T (V ∷ Ts) U = ap (λ (b : Bool). tid_eq V T || b) (any-more T Ts U) ∙ swap (tid_eq V T) (tid_eq U T) (list_any (λ (X : Tid). tid_eq X T) Ts)
  where
    swap : (a b c : Bool) → (a || (b || c)) ≡ (b || (a || c))
    swap a b c = grind arith

pub committed-any : (T : Tid) (history : List Commit) → has_committed T history ≡ list_any (λ (V : Tid). tid_eq V T) (commits_of history)
committed-any T [] = refl
committed-any T (c ∷ history) = ap (λ (b : Bool). tid_eq c.tid T || b) (committed-any T history) ∙ sym (any-more T (commits_of history) c.tid)

-- what moves to a world moves to one with the same tables, states and messages
as-well : (w : Machine) (r q : World) → MovesTo r w → ((s : ServerNo) → q.memory s ≡ r.memory s) → ((s : ServerNo) (c : Pick) → q.found s c ≡ r.found s c) → q.clients ≡ r.clients → q.sent ≡ r.sent → commits_in q.lines ≡ commits_in r.lines → MovesTo q w
as-well w r q moves memory found clients sent lines = let h = moves.mirrors in record {
  atoms = moves.atoms;
  may = moves.may;
  ended = moves.ended;
  mirrors = record {
    up = λ s. h.up s ∙ sym (ap is_some (memory s));
    found = λ s c. h.found s c ∙ sym (found s c);
    active = λ W. h.active W ∙ sym (ap (λ o. active_in o W) (memory W.server));
    next = λ W. h.next W ∙ sym (ap (λ o. next_in o W) (memory W.server));
    ticket = λ s n e. h.ticket s n (sym (memory s) ∙ e);
    knowledge = λ T. h.knowledge T ∙ sym (ap (λ o. known_in o T) (memory T.server));
    owner = λ s n W v e k. h.owner s n W v (sym (memory s) ∙ e) k;
    transactions = λ s n e. h.transactions s n (sym (memory s) ∙ e);
    clients = λ c. subst (λ f. IsClient (run moves.atoms w) (f c)) (sym clients) (h.clients c);
    commits = h.commits ∙ sym lines;
    says = subst (λ l. All (IsTrue (run moves.atoms w)) l) (sym sent) h.says;
    addressed = subst (λ l. All IsAddressed l) (sym sent) h.addressed;
  };
}

module _ (w : Machine) (grow : (atoms : List Atom) → MayRun atoms w → (message : Message) → Says w message → Says (run atoms w) message) (parts : PartFact w)
    (sound : (atoms : List Atom) → MayRun atoms w → Invariant (run atoms w)) (told : (T : Tid) → w.named T ≡ has_committed T w.history) (r : World) (h : Mirrors r w) (locks : LockFacts r) where
  -- nothing that the machine sees
  stays : MovesTo r w
  stays = record { atoms = []; may = tt; mirrors = h; ended = refl }

  inv : Invariant w
  inv = sound [] tt

  -- ---- a server's row

  of-row : (s : ServerNo) (m : Memory) (k : Option ℕ) (row : RowOutcome Memory) → r.memory s ≡ Some m → ServerMoves s row w → MovesTo (done s k row r) w
  of-row s m k row is moves = record { atoms = moves.atoms; may = moves.may; mirrors = mirrored r w (run moves.atoms w) s m row k h is moves.does; ended = moves.does.ended }

  -- or stopped
  of-stop : (s : ServerNo) (made : Pick → Left) (row : RowOutcome Memory) → ServerStops s row made w → MovesTo (stopped s made row r) w
  of-stop s made row moves = record {
    atoms = moves.atoms ++ Crashes s ∷ [];
    may = may-append moves.atoms (Crashes s ∷ []) w moves.may (tt, tt);
    ended = ap (λ (v : Machine). v.ended) (run-append moves.atoms (Crashes s ∷ []) w) ∙ moves.does.ended;
    mirrors = subst (λ (v : Machine). Mirrors (stopped s made row r) v) (sym (run-append moves.atoms (Crashes s ∷ []) w))
        (stop-mirrored r w (run moves.atoms w) s row made h moves.does (λ message said. says_still (run moves.atoms w) (run (Crashes s ∷ []) (run moves.atoms w)) (grows (Crashes s) (run moves.atoms w) tt (sound moves.atoms moves.may).names) message said));
  }

  module _ (s : ServerNo) (m : Memory) (is : r.memory s ≡ Some m) where
    up : UpFact s m (r.found s)
    up = subst (λ o. ServerFact s o (r.found s)) is (locks s)

    module _ (room : Room) where
      by-worker : (message : Message) → Says w message → IsAddressed (Server s, message) → ServerMoves s (of_worker m (worker_row m.worker (storage_of m (stable (r.found s)) room) m.tickets message)) w
      by-worker message said to = worker-moves r w s m _ h is (worker-none m.worker (storage_of m (stable (r.found s)) room) m.tickets message) (worker-row-moves r w s m h is up grow parts inv room message said to)

      delivered : (message : Message) → Says w message → IsAddressed (Server s, message) → ServerMoves s (server_row m (stable (r.found s)) room message) w
      delivered (messages.Open c request T) said to = by-worker (messages.Open c request T) said to
      delivered (messages.Op c request W number op) said to = by-worker (messages.Op c request W number op) said to
      delivered (messages.Prepare T c W) said to = by-worker (messages.Prepare T c W) said to
      delivered (messages.Commit T W) said to = by-worker (messages.Commit T W) said to
      delivered (messages.Drop T W) said to = by-worker (messages.Drop T W) said to
      delivered (messages.Begin c request) said to = begin-moves r w s m h is up grow inv c request
      delivered (messages.End c request T works) said to = end-row-moves r w s m h is up grow inv room.free.records c request T works (transaction_at T m.coordinator.transactions) refl said to
      delivered (messages.Abort c request T works) said to = abort-row-moves r w s m h is up grow inv c request T works (transaction_at T m.coordinator.transactions) refl said to
      delivered (messages.Thanks c T) said to = thanks-row-moves r w s m h is up grow inv c T (transaction_at T m.coordinator.transactions) refl said
      delivered (messages.Vote T W vote) said to = vote-row-moves r w s m h is up grow inv T W vote (transaction_at T m.coordinator.transactions) refl said to
      delivered (messages.Done T W) said to = done-row-moves r w s m h is up grow inv T W (transaction_at T m.coordinator.transactions) refl said
      delivered (messages.Inquire T W) said to = inquires-move r w s m h is up grow inv T W (transaction_at T m.coordinator.transactions) refl said to
      delivered _ said to = ignores r w s m h is up grow inv

    server-moves : (stop : Option (Pick → Left)) (step : Step) (k : Option ℕ) (row : RowOutcome Memory) → ServerRow r s m stop step k row → ServerMoves s row w
    server-moves _ _ _ _ (of_message stop k room message e) = delivered room message (holds-of (IsTrue w) r.sent k (Server s, message) h.says e) (holds-of IsAddressed r.sent k (Server s, message) h.addressed e)
    server-moves _ _ _ _ (of_work stop room row e) = row-of-step (λ z. ServerMoves s z w) m (stable (r.found s)) room row e
        (λ x i. worker-moves r w s m x h is (step-none m.worker (storage_of m (stable (r.found s)) room) m.tickets x i) (step-move r w s m h is up grow inv room x i))
    server-moves _ _ _ _ of_closing = close-moves r w s m h is up grow inv

    -- ---- a row that changes the worker's table at most

    abbrev only : WorkerTable → RowOutcome WorkerTable
    only t = record { table = t; changes = []; messages = []; notes = []; tickets = m.tickets }

    none-moves : RowMoves s m (only m.worker) w
    none-moves = sends-moves r w s m h is up [] [] (All-nil (IsTrue w), All-nil IsAddressed)

    same-found : (q : ServerNo) (c : Pick) → r.found q c ≡ (if server_eq s q then r.found s c else r.found q c)
    same-found = one-found (λ q c x. r.found q c ≡ x) r.found s (r.found s) (λ c. refl) (λ q other c. refl)

    table-moves : (t : WorkerTable) → RowMoves s m (only t) w → MovesTo (record r { memory = at_server r.memory s (Some (record m { worker = t })) }) w
    table-moves t moves = as-well w _ _ (of-row s m None _ is (worker-moves r w s m _ h is refl moves)) (λ q. refl) same-found refl (sym (append-nil r.sent)) (ap commits_in (sym (append-nil r.lines)))

    vulnerable-same : (p : Phase) → working_in (vulnerable p) ≡ working_in p
    vulnerable-same (Active a) = refl
    vulnerable-same (Broken u T) = refl
    vulnerable-same (Stored p) = refl

    late-moves : (T : Tid) (v : Option Work) → work_of T m.worker ≡ v → MovesTo (record r { memory = at_server r.memory s (Some (of_timeout m (timed_out m.worker v))) }) w
    late-moves T None e = table-moves m.worker none-moves
    late-moves T (Some x) e = table-moves _ (phase-moves r w s m h is up x (vulnerable x.phase) [] [] (of-found T m.worker x up.table.rising e) (vulnerable-same x.phase) (All-nil (IsTrue w), All-nil IsAddressed))

    -- a crash is a stop before a change
    crash-moves : MovesTo (record r { memory = at_server r.memory s None; lines = r.lines ++ says.Down s ∷ [] }) w
    crash-moves = as-well w _ _ (of-stop s (λ c. whole_only 0) _ ((worker-moves r w s m _ h is refl none-moves).stops (λ c. whole_only 0))) (λ q. refl) same-found refl refl (quiet-line r.lines (says.Down s) refl ∙ sym (quiet-line r.lines (says.Stopped s) refl))

  -- ---- what is found of a server that is down

  states : w.found ≡ r.found
  states = fun_ext (λ s. fun_ext (λ c. h.found s c))

  finds : (f g : ServerNo → Pick → StableState) (lines : List Text) → ((message : Message) → Says w message → Says (record w { found = f }) message) → ((q : ServerNo) (c : Pick) → f q c ≡ g q c) → commits_in lines ≡ commits_in r.lines
      → Mirrors (record r { found = g; lines = lines }) (record w { found = f })
  finds f g lines still same quiet = record {
    up = h.up;
    found = same;
    active = h.active;
    next = h.next;
    ticket = h.ticket;
    knowledge = h.knowledge;
    owner = h.owner;
    transactions = λ q n e. transactions-still w (record w { found = f }) still q n.coordinator.transactions (h.transactions q n e);
    clients = λ c. client-still w (record w { found = f }) still (r.clients c) (h.clients c);
    commits = h.commits ∙ sym quiet;
    says = All-grows w (record w { found = f }) still r.sent h.says;
    addressed = h.addressed;
  }

  found-moves : (s : ServerNo) (step : Step) (found : Pick → StableState) (lines : List Text) → r.memory s ≡ None → FoundThen r s step found lines → MovesTo (record r { found = λ q c. if server_eq s q then found c else r.found q c; lines = lines }) w
  found-moves s _ _ _ is (by_narrowing g) = record {
    atoms = Narrows s g ∷ [];
    ended = refl;
    may = (tt, tt);
    mirrors = finds _ _ r.lines (grow (Narrows s g ∷ []) (tt, tt)) (λ q c. ap (λ f. if server_eq s q then f s (g c) else f q c) states) refl;
  }
  found-moves s _ _ _ is (by_raising raise) = let may : MayRun (RaiseEpoch s raise ∷ []) w = (h.up s ∙ ap is_some is, tt) in record {
    atoms = RaiseEpoch s raise ∷ [];
    ended = refl;
    may = may;
    mirrors = finds _ _ _ (grow (RaiseEpoch s raise ∷ []) may) (λ q c. ap (λ f. if server_eq s q then (if raise c then with_epoch (f s c) else f s c) else f q c) states) (quiet-line r.lines (says.Stopped s) refl);
  }

  -- ---- every step that is shown

  quiet-moves : (step : Step) (event : ℕ) (sent : List Sent) (lines : List Text) → Quiet r step event sent lines → MovesTo (record r { event = event; sent = sent; lines = lines }) w
  quiet-moves _ _ _ _ event_begins = as-well w r _ stays (λ q. refl) (λ q c. refl) refl refl refl
  quiet-moves _ _ _ _ (none_changes step) = stays
  quiet-moves _ _ _ _ (is_refused c command refusal e) = line-moves r w h grow (says.Refused c r.event refusal) refl
  quiet-moves _ _ _ _ (client_repeats c) = again-moves r w h grow c
  quiet-moves _ _ _ _ (server_repeats s m is) = record { atoms = []; may = tt; ended = refl; mirrors = nudged r w s m h is (up s m is) grow inv }
  quiet-moves _ _ _ _ (is_lost k room stop s message e is) = line-moves r w h grow (says.Lost k) refl

  by-case : (step : Step) (now : World) → StepCase r step now → IsStep step r → is_shown step ≡ true → MovesTo now w
  by-case step _ (client_row _ c t sent lines row) may shown = row-moves r w h grow c (λ k message is. holds-of (IsTrue w) r.sent k (Client c, message) h.says is) step t sent lines row shown
  by-case step _ (row_done _ s m k row is of) may shown = of-row s m k row is (server-moves s m is None step k row of)
  by-case step _ (row_stopped _ s m k row made is of) may shown = of-stop s made row ((server-moves s m is (Some made) step k row of).stops made)
  by-case _ _ (gone_late s m T is) may shown = late-moves s m is T (work_of T m.worker) refl
  by-case _ _ (gone_down s m is) may shown = crash-moves s m is
  by-case _ _ (come_up s pick Ws Ts is) may shown = restart-moves r w h s is grow inv (λ T. told T ∙ committed-any T w.history ∙ ap (λ l. list_any (λ (V : Tid). tid_eq V T) l) h.commits) pick Ws Ts may.1
  by-case step _ (found_anew _ s found lines is of) may shown = found-moves s step found lines is of
  by-case _ _ dismissed may shown = stays-with r w h grow (λ c. over (r.clients c)) (λ c. record { current = tt; waits = tt; opening = λ o s e. absurd (none o e) }) r.sent h.says h.addressed r.lines refl
    where
      none : (o : Outstanding) → None ≡ Some o → ⊥
      none o e = cc
  by-case step _ (quietly _ event sent lines of) may shown = quiet-moves step event sent lines of

pub step-moves : (files : AllFiles) (epochs : ServerNo → ℕ) (before : List Atom) (r : World) → MayRun before (opening_world files epochs) → Mirrors r (run before (opening_world files epochs)) → LockFacts r
    → (step : Step) → IsStep step r → is_shown step ≡ true → MovesTo (after step r) (run before (opening_world files epochs))
step-moves files epochs before r may h locks step i shown = by-case (run before (opening_world files epochs)) (λ atoms further message said. still_true files epochs before atoms may further message said)
    (run_kept before (opening_world files epochs) may (opening_kept files epochs)).core.parts
    (λ atoms further. run_kept atoms (run before (opening_world files epochs)) further (run_kept before (opening_world files epochs) may (opening_kept files epochs)))
    (run_told files before (opening_world files epochs) may (opening_kept files epochs) (opening_told files epochs)).1.named r h locks step (after step r) (step-case r step) i shown

pub opening-mirrors : (servers : ℕ) (files : AllFiles) (epochs : ServerNo → ℕ) → Mirrors (opening servers files epochs) (opening_world files epochs)
opening-mirrors servers files epochs = record {
  up = λ s. refl;
  found = λ s c. refl;
  active = λ W. refl;
  next = λ W. refl;
  ticket = λ s m e. ap (λ (x : Memory). x.tickets.next) (some-memory (new_memory s (epochs s)) m e);
  knowledge = λ T. refl;
  owner = λ s m W v e h. absurd (none v (subst (λ (x : Memory). work_at W x.worker ≡ Some v) (sym (some-memory (new_memory s (epochs s)) m e)) h));
  transactions = λ s m e. subst (λ (x : Memory). AreTransactions (opening_world files epochs) s x.coordinator.transactions) (some-memory (new_memory s (epochs s)) m e) tt;
  clients = λ c. record { current = tt; waits = tt; opening = λ o s e f. absurd (none-out o e) };
  commits = refl;
  says = All-nil (IsTrue (opening_world files epochs));
  addressed = All-nil IsAddressed;
}
  where
    none : (v : Work) → None ≡ Some v → ⊥
    none v e = cc

    none-out : (o : Outstanding) → None ≡ Some o → ⊥
    none-out o e = cc

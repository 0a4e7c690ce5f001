-- A broken work of a table was broken there before a step, or active; where a step names a commit, it breaks none.
use Rattle.jn_system_reports.proofs.Common.{◌≡◌, ◌⊎◌, inl, inr, ℕ, ◌+◌, Bool, true, false, List, [], ◌∷◌, ◌++◌, append-nil, Option, Some, None, refl, sym, ◌∙◌, ap, subst, if◌then◌else◌, nat_eq, nat_lt, length, slice_get, ServerNo, ClientNo, Tid, WorkId, Tickets, Answer, work_eq, Files, change, answer_to, list_change, length_with, Read, Intention, Message, Vote, Work, Phase, Active, Broken, Stored, ActiveWork, is_going, stable, RowOutcome, WorkerTable, WorkStorage, Wanted, Held, gives_way, work_at, work_of, without, new_work, name_from, open_row, conflict, commit_wants, wants_of, is_fit, past_limit, units_for, with_units, refusal_of, counted, performed-work, granted_row, performed, repeated, op_phase, op_row, vote_of, shortage, need_in, prepared_row, prepare_phase, prepare_row, commit_phase, drop_phase, drop_row, worker_row, going_work, intentions_of, carried_row, going_row, worker_step, vulnerable, timed_out, timeout_row, coordinator_row, close_clients_row, are_rising, is_after, at-more, at-less, some_is, none_some, not_both, World, Memory, at_server, commits_in, storage_of, of_worker, of_coordinator, of_timeout, lines_of, restored, Step, after, LockFacts, ServerFact, UpFact, Regrants, Origin, Mine, Kept, Broke, granted, phase_changed, restored-is, of-found, no-lock, named_by, commits-more, lines-commit, worker-none, step-none, done, RequestNo, one-server, ServerRow, of_message, of_work, of_closing, StepCase, client_row, row_done, row_stopped, gone_late, gone_down, come_up, found_anew, dismissed, quietly, step-case, row-either, row-of-step, Asked, Here, asked_for, asked_here}
use Rattle.jn_msgs.specs.declared.message.Message.TheVariants as messages
use Rattle.jn_msgs.specs.declared.message.Vote.TheVariants as votes
use Rattle.jn_rows.specs.Worker.{commit_row}

abbrev pub is_broken : Phase → Bool
is_broken (Broken u by) = true
is_broken phase = false

abbrev pub is_stored : Phase → Bool
is_stored (Stored p) = true
is_stored phase = false

-- ---- tables

abbrev pub BreaksFrom : WorkerTable → WorkerTable → Type 0
BreaksFrom t now = (W : WorkId) (x : Work) → work_at W now ≡ Some x → is_broken x.phase ≡ true → (y : Work) × (work_at W t ≡ Some y) × (y.tid ≡ x.tid) × (is_stored y.phase ≡ false)

-- each broken work was broken so
abbrev pub BreaksNone : WorkerTable → WorkerTable → Type 0
BreaksNone t now = (W : WorkId) (x : Work) → work_at W now ≡ Some x → is_broken x.phase ≡ true → work_at W t ≡ Some x

broken-free : (p : Phase) → is_broken p ≡ true → is_stored p ≡ false
broken-free (Broken u by) h = refl
broken-free (Active a) h = absurd (not_both false h refl)
broken-free (Stored p) h = absurd (not_both false h refl)

pub from-none : (t now : WorkerTable) → BreaksNone t now → BreaksFrom t now
from-none t now h W x e b = (x, h W x e b, refl, broken-free x.phase b)

same-none : (t : WorkerTable) → BreaksNone t t
same-none t W x e b = e

same-from : (t : WorkerTable) → BreaksFrom t t
same-from t = from-none t t (same-none t)

less-none : (N : WorkId) (t : WorkerTable) → are_rising t ≡ true → BreaksNone t (without N t)
less-none N t rising W x e b = by (work_eq N W) (sym (at-less W N t rising) ∙ e)
  where
    by : (c : Bool) → (if c then None else work_at W t) ≡ Some x → work_at W t ≡ Some x
    by true k = absurd (none_some x k)
    by false k = k

more-none : (N : WorkId) (T : Tid) (t : WorkerTable) → is_after N t ≡ true → BreaksNone t (t ++ new_work N T ∷ [])
more-none N T t after W x e b = by (work_eq N W) (sym (at-more W t (new_work N T) after) ∙ e)
  where
    by : (c : Bool) → (if c then Some (new_work N T) else work_at W t) ≡ Some x → work_at W t ≡ Some x
    by true k = absurd (not_both (is_broken x.phase) b (ap (λ (z : Work). is_broken z.phase) (sym (some_is (new_work N T) x k))))
    by false k = k

way-free : (p : Phase) → gives_way p ≡ true → is_stored p ≡ false
way-free (Active a) h = refl
way-free (Broken u by) h = refl
way-free (Stored p) h = absurd (not_both false h refl)

regrants-from : (N : WorkId) (wants : List Wanted) (phase : Phase) (t now : WorkerTable) → Regrants N wants phase t now → ((v : Work) → work_at N t ≡ Some v → is_broken phase ≡ true → is_stored v.phase ≡ false) → BreaksFrom t now
regrants-from N wants phase t now g mine W x e b = by (g.origin W x e)
  where
    by : Origin N wants phase t W x → (y : Work) × (work_at W t ≡ Some y) × (y.tid ≡ x.tid) × (is_stored y.phase ≡ false)
    by (Mine same y l k) = (y, subst (λ (U : WorkId). work_at U t ≡ Some y) same l, ap (λ (z : Work). z.tid) (sym k), mine y l (ap (λ (z : Work). is_broken z.phase) (sym k) ∙ b))
    by (Kept ne l clear) = (x, l, refl, broken-free x.phase b)
    by (Broke ne y l way u T k) = (y, l, ap (λ (z : Work). z.tid) (sym k), way-free y.phase way)

-- ---- a worker's rows

module _ (t : WorkerTable) (k : Tickets) (rising : are_rising t ≡ true) (before : is_after (name_from k) t ≡ true) where
  abbrev Ok : RowOutcome WorkerTable → Type 0
  Ok row = BreaksFrom t row.table

  either : (b : Bool) (p q : RowOutcome WorkerTable) → Ok p → Ok q → Ok (if b then p else q)
  either true p q h l = h
  either false p q h l = l

  never : {A : Type 0} → (b : Bool) → b ≡ false → b ≡ true → A
  never b f h = absurd (not_both b h f)

  less : (N : WorkId) → BreaksFrom t (without N t)
  less N = from-none t (without N t) (less-none N t rising)

  opens : (c : ClientNo) (request : RequestNo) (T : Tid) (o : Option Work) → Ok (open_row t k c request T o)
  opens c request T (Some w) = same-from t
  opens c request T None = either (nat_lt (length t) 64) _ _ (from-none t _ (more-none (name_from k) T t before)) (same-from t)

  module _ (files : Files) (q : Asked) where
    abbrev op-here : Here
    op-here = asked_here t files k

    grants : (w : Work) (a : ActiveWork) (answer : Answer) (wants : List Wanted) (o : Option Answer) → (o ≡ None → conflict w.name wants t ≡ None) → Ok (granted_row op-here q w a answer wants o)
    grants w a answer wants (Some refusal) free = regrants-from w.name [] (Active (counted a refusal)) t _ (phase_changed w.name (Active (counted a refusal)) t) (λ v l b. never false refl b)
    grants w a answer wants None free = regrants-from w.name wants (Active (performed-work a q.op answer wants)) t _ (granted w.tid w.name wants (Active (performed-work a q.op answer wants)) t (free refl)) (λ v l b. never false refl b)

    repeats : (o : Option Answer) → Ok (repeated op-here q o)
    repeats (Some answer) = same-from t
    repeats None = same-from t

    performs : (w : Work) (a : ActiveWork) (answer : Answer) → Ok (performed op-here q w a answer)
    performs w a answer = let wants = wants_of q.op (is_fit answer) in grants w a answer wants (refusal_of t w.name a q.op answer wants) (λ e. no-lock (past_limit (length (with_units (units_for Read wants) a.reads)) (if is_fit answer then length_with a.list q.op else length a.list)) (conflict w.name wants t) e)

    op-phases : (w : Work) (p : Phase) → Ok (op_phase op-here q w p)
    op-phases w (Active a) = either (nat_eq q.number.0 (a.last + 1)) _ _ (performs w a (answer_to q.op (change (list_change a.list) files))) (either (nat_eq q.number.0 a.last) _ _ (repeats a.kept) (same-from t))
    op-phases w (Broken u by) = same-from t
    op-phases w (Stored p) = same-from t

    ops : (W : WorkId) (o : Option Work) → Ok (op_row op-here q W o)
    ops W (Some w) = op-phases w w.phase
    ops W None = same-from t

  ready : (T : Tid) (c : ClientNo) (w : Work) (a : ActiveWork) → conflict w.name (commit_wants a.writes) t ≡ None → Ok (prepared_row t k T c w a votes.Ready)
  ready T c w a free = regrants-from w.name (commit_wants a.writes) _ t _ (granted w.tid w.name (commit_wants a.writes) (Stored (record { reads = a.reads; writes = a.writes })) t free) (λ v l b. never false refl b)

  votes-so : (T : Tid) (c : ClientNo) (w : Work) (a : ActiveWork) (o : Option Held) (short : Option Vote) → conflict w.name (commit_wants a.writes) t ≡ o → Ok (prepared_row t k T c w a (vote_of o short))
  votes-so T c w a (Some held) short h = same-from t
  votes-so T c w a None (Some votes.Ready) h = ready T c w a h
  votes-so T c w a None (Some (votes.Waiting u by)) h = same-from t
  votes-so T c w a None (Some (votes.Broken u by)) h = same-from t
  votes-so T c w a None (Some (votes.Lost n l)) h = same-from t
  votes-so T c w a None (Some (votes.Full n l m)) h = same-from t
  votes-so T c w a None None h = ready T c w a h

  prepares : (s : WorkStorage) (T : Tid) (c : ClientNo) (W : WorkId) (o : Option Work) → Ok (prepare_row t s k T c W o)
  prepares s T c W None = same-from t
  prepares s T c W (Some w) = by w.phase
    where
      by : (p : Phase) → Ok (prepare_phase t s k T c w p)
      by (Active a) = votes-so T c w a (conflict w.name (commit_wants a.writes) t) (shortage s.free (need_in s.maps s.state.files a.list)) refl
      by (Broken u U) = same-from t
      by (Stored p) = either (is_going (s.state.works w.name)) _ _ (same-from t) (same-from t)

  commits : (s : WorkStorage) (T : Tid) (W : WorkId) (o : Option Work) → Ok (commit_row t s k T W o)
  commits s T W None = same-from t
  commits s T W (Some w) = by w.phase
    where
      by : (p : Phase) → Ok (commit_phase t s k W p)
      by (Active a) = same-from t
      by (Broken u U) = same-from t
      by (Stored p) = either (is_going (s.state.works W)) _ _ (same-from t) (same-from t)

  drops : (s : WorkStorage) (W : WorkId) (o : Option Work) → Ok (drop_row t s k W o)
  drops s W None = same-from t
  drops s W (Some w) = by w.phase
    where
      by : (p : Phase) → Ok (drop_phase t s k W p)
      by (Active a) = less W
      by (Broken u U) = less W
      by (Stored p) = either (is_going (s.state.works W)) _ _ (same-from t) (less W)

  takes : (s : WorkStorage) (message : Message) → Ok (worker_row t s k message)
  takes s (messages.Open c q T) = opens c q T (work_of T t)
  takes s (messages.Op c q W n op) = ops s.state.files (asked_for c q n op) W (work_at W t)
  takes s (messages.Prepare T c W) = prepares s T c W (work_at W t)
  takes s (messages.Commit T W) = commits s T W (work_at W t)
  takes s (messages.Drop T W) = drops s W (work_at W t)
  takes s _ = same-from t

  steps : (s : WorkStorage) (row : RowOutcome WorkerTable) → worker_step t s k ≡ Some row → Ok row
  steps s row h = by (going_work s.state t) h
    where
      carried : (w : Work) (o : Option Intention) → Ok (carried_row t k w o)
      carried w (Some i) = same-from t
      carried w None = less w.name

      rest : (b : Bool) → (if b then Some (record { table = t; changes = []; messages = []; notes = []; tickets = k }) else None) ≡ Some row → Ok row
      rest true q = subst (λ (z : RowOutcome WorkerTable). Ok z) (some_is _ row q) (same-from t)
      rest false q = absurd (none_some row q)

      by : (o : Option Work) → going_row t s k o ≡ Some row → Ok row
      by (Some w) q = subst (λ (z : RowOutcome WorkerTable). Ok z) (some_is _ row q) (carried w (slice_get (intentions_of (s.state.works w.name)) (s.next w.name)))
      by None q = rest s.rubbish q

  times-out : (T : Tid) (now : WorkerTable) → timeout_row t T ≡ Some now → BreaksFrom t now
  times-out T now h = by (work_of T t) refl h
    where
      still : (p : Phase) → is_broken (vulnerable p) ≡ true → is_stored p ≡ false
      still (Active a) b = refl
      still (Broken u U) b = refl
      still (Stored p) b = never false refl b

      by : (o : Option Work) → work_of T t ≡ o → timed_out t o ≡ Some now → BreaksFrom t now
      by None e q = absurd (none_some now q)
      by (Some x) e q = subst (λ (z : WorkerTable). BreaksFrom t z) (some_is _ now q) (regrants-from x.name [] (vulnerable x.phase) t _ (phase_changed x.name (vulnerable x.phase) t)
          (λ v l b. subst (λ (z : Work). is_stored z.phase ≡ false) (some_is x v (sym (of-found T t x rising e) ∙ l)) (still x.phase b)))

-- ---- worlds

abbrev pub table_of : Option Memory → WorkerTable
table_of None = []
table_of (Some m) = m.worker

pub record Breaks (r q : World) : Type 0 where
  pub from : (s : ServerNo) → BreaksFrom (table_of (r.memory s)) (table_of (q.memory s))
  pub none : (commits_in q.lines ≡ commits_in r.lines) ⊎ ((s : ServerNo) → BreaksNone (table_of (r.memory s)) (table_of (q.memory s)))

module _ (r : World) (locks : LockFacts r) where
  at-all : (s : ServerNo) (now : Option Memory) (P : WorkerTable → WorkerTable → Type 0) → ((t : WorkerTable) → P t t) → P (table_of (r.memory s)) (table_of now) → (q : ServerNo) → P (table_of (r.memory q)) (table_of (at_server r.memory s now q))
  at-all s now P same h = one-server (λ q o. P (table_of (r.memory q)) (table_of o)) r.memory s now h (λ q other. same (table_of (r.memory q)))

  -- no table has a work newly broken
  breaks-none : (q : World) → ((s : ServerNo) → BreaksNone (table_of (r.memory s)) (table_of (q.memory s))) → Breaks r q
  breaks-none q h = record { from = λ s. from-none _ _ (h s); none = inr h }

  still : (q : World) → q.memory ≡ r.memory → Breaks r q
  still q e = breaks-none q (λ s. subst (λ (f : ServerNo → Option Memory). BreaksNone (table_of (r.memory s)) (table_of (f s))) (sym e) (same-none (table_of (r.memory s))))

  one-none : (q : World) (s : ServerNo) (now : Option Memory) → q.memory ≡ at_server r.memory s now → BreaksNone (table_of (r.memory s)) (table_of now) → Breaks r q
  one-none q s now e h = breaks-none q (λ z. subst (λ (f : ServerNo → Option Memory). BreaksNone (table_of (r.memory z)) (table_of (f z))) (sym e) (at-all s now BreaksNone same-none h z))

  empty-none : (t : WorkerTable) → BreaksNone t []
  empty-none t W x e b = absurd (none_some x e)

  module _ (s : ServerNo) (m : Memory) (is : r.memory s ≡ Some m) where
    up : UpFact s m (r.found s)
    up = subst (λ o. ServerFact s o (r.found s)) is (locks s)

    here : (now : WorkerTable) (P : WorkerTable → WorkerTable → Type 0) → P m.worker now → P (table_of (r.memory s)) now
    here now P h = subst (λ o. P (table_of o) now) (sym is) h

    -- a row of the worker's, which names no commit
    worker-ends : (k : Option ℕ) (row : RowOutcome WorkerTable) → named_by row.notes ≡ [] → BreaksFrom m.worker row.table → Breaks r (done s k (of_worker m row) r)
    worker-ends k row names h = record {
      from = at-all s (Some (of_worker m row).table) BreaksFrom same-from (here row.table BreaksFrom h);
      none = inl (commits-more r.lines (lines_of s k row.notes) ∙ ap (λ z. commits_in r.lines ++ z) (lines-commit s k row.notes ∙ names) ∙ append-nil (commits_in r.lines));
    }

    coordinator-ends : (k : Option ℕ) (row : RowOutcome _) → Breaks r (done s k (of_coordinator m row) r)
    coordinator-ends k row = one-none _ s (Some (of_coordinator m row).table) refl (here m.worker BreaksNone (same-none m.worker))

    row-ends : (step : Step) (k : Option ℕ) (row : RowOutcome Memory) → ServerRow r s m None step k row → Breaks r (done s k row r)
    row-ends _ _ _ (of_message _ k room message is) = row-either (λ z. Breaks r (done s (Some k) z r)) m (stable (r.found s)) room message
        (worker-ends (Some k) (worker_row m.worker (storage_of m (stable (r.found s)) room) m.tickets message) (worker-none m.worker (storage_of m (stable (r.found s)) room) m.tickets message) (takes m.worker m.tickets up.table.rising up.table.before (storage_of m (stable (r.found s)) room) message))
        (coordinator-ends (Some k) (coordinator_row m.coordinator room.free.records m.tickets message))
    row-ends _ _ row (of_work _ room _ is) = row-of-step (λ z. Breaks r (done s None z r)) m (stable (r.found s)) room row is
        (λ x e. worker-ends None x (step-none m.worker (storage_of m (stable (r.found s)) room) m.tickets x e) (steps m.worker m.tickets up.table.rising up.table.before (storage_of m (stable (r.found s)) room) x e))
    row-ends _ _ _ of_closing = coordinator-ends None (close_clients_row m.coordinator m.tickets)

    late-ends : (T : Tid) (o : Option WorkerTable) → timeout_row m.worker T ≡ o → Breaks r (record r { memory = at_server r.memory s (Some (of_timeout m o)) })
    late-ends T None e = one-none _ s (Some m) refl (here m.worker BreaksNone (same-none m.worker))
    late-ends T (Some t) e = record { from = at-all s (Some (record m { worker = t })) BreaksFrom same-from (here t BreaksFrom (times-out m.worker m.tickets up.table.rising up.table.before T t e)); none = inl refl }

  by-case : (step : Step) (now : World) → StepCase r step now → Breaks r now
  by-case _ _ (client_row step c t sent lines row) = still _ refl
  by-case step _ (row_done _ s m k row e is) = row-ends s m e step k row is
  by-case _ _ (row_stopped step s m k row made e is) = one-none _ s None refl (empty-none (table_of (r.memory s)))
  by-case _ _ (gone_late s m T e) = late-ends s m e T (timeout_row m.worker T) refl
  by-case _ _ (gone_down s m e) = one-none _ s None refl (empty-none (table_of (r.memory s)))
  by-case _ _ (come_up s pick Ws Ts e) = one-none _ s (Some (restored s (r.found s pick) Ws Ts)) refl (λ W x e b. let f = restored-is (r.found s pick) Ws W x e in absurd (not_both (is_broken x.phase) b (ap (λ (z : Work). is_broken z.phase) f.1.1)))
  by-case _ _ (found_anew step s found lines e is) = still _ refl
  by-case _ _ dismissed = still _ refl
  by-case _ _ (quietly step event sent lines is) = still _ refl

  pub step-breaks : (step : Step) → Breaks r (after step r)
  step-breaks step = by-case step (after step r) (step-case r step)

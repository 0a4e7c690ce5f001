-- What each row of a server keeps: all works are of one epoch, and a part of one is carried out only between two steps.
use Rattle.jn_node_laws.proofs.Common.{◌≡◌, ◌⊎◌, inl, inr, ⊎_elim, ℕ, ◌+◌, Bool, true, false, List, [], ◌∷◌, ◌++◌, Option, Some, None, is_some, refl, sym, ◌∙◌, ap, subst, true≢false, if◌then◌else◌, AllByRecursion, none-some, same_Some, Tid, WorkId, work_eq, work_tells, Message, CoordinatorTable, RowOutcome, Sent, StableState, Prepared, at_work, gone_on, made_all, ready_work, WorkerTable, Wanted, after_grant, breaks_at, broken_by, commit_wants, counted, done, going_work, name_from, new_work, timed_out, timeout_row, vulnerable, with_phase, without, work_at, work_of, worker_row, Work, Room, of_coordinator, of_timeout, of_worker, server_row, server_step, server_timeout, storage_of, Memory, Aside, coordinator-aside, flags-all, coordinator_row, AreNamed, IsNamedIn, LockUnit, Tickets, row-either, row-of-step, WorkerCase, opens_anew, refuses_next, performs_next, prepares_it, marks_it, drops_it, removes_it, WorkerStep, carries_out, is_over, erases_rubbish, its_answer, its_wants, worker-case, worker-step-case}
use Rattle.jn_msgs.specs.declared.message.Note.{Note}
use Rattle.jn_rows.specs.declared.worker.Phase.{Phase}
use Rattle.jn_rows.specs.declared.worker.Phase.TheVariants.{Active, Prepared as Prepares}

-- ---- the works of a table

module _ (e : ℕ) where
  abbrev Live : WorkerTable → Type 0
  Live t = AllByRecursion (IsNamedIn e) t

  live-phase : (W : WorkId) (p : Phase) (t : WorkerTable) → Live t → Live (with_phase W p t)
  live-phase W p [] h = h
  live-phase W p (w ∷ ws) h = by (work_eq w.name W) (live-phase W p ws h.1)
    where
      by : (b : Bool) → Live (with_phase W p ws) → Live (if b then record w { phase = p } ∷ ws else w ∷ with_phase W p ws)
      by true again = (h.0, h.1)
      by false again = (h.0, again)

  live-less : (W : WorkId) (t : WorkerTable) → Live t → Live (without W t)
  live-less W [] h = h
  live-less W (w ∷ ws) h = by (work_eq w.name W) (live-less W ws h.1)
    where
      by : (b : Bool) → Live (without W ws) → Live (if b then ws else w ∷ without W ws)
      by true again = h.1
      by false again = (h.0, again)

  live-more : (t : WorkerTable) (w : Work) → Live t → w.name.epoch ≡ e → Live (t ++ w ∷ [])
  live-more [] w h is = (is, tt)
  live-more (v ∷ vs) w h is = (h.0, live-more vs w h.1 is)

  named-still : (T : Tid) (o : Option LockUnit) (v : Work) → IsNamedIn e v → IsNamedIn e (broken_by T o v)
  named-still T None v h = h
  named-still T (Some u) v h = h

  live-grant : (T : Tid) (W : WorkId) (wants : List Wanted) (t : WorkerTable) → Live t → Live (after_grant T W wants t)
  live-grant T W wants [] h = h
  live-grant T W wants (v ∷ vs) h = (named-still T (breaks_at W wants v) v h.0, live-grant T W wants vs h.1)

  live-found : (W : WorkId) (t : WorkerTable) (w : Work) → work_at W t ≡ Some w → Live t → w.name.epoch ≡ e
  live-found W [] w q h = absurd (none-some w q)
  live-found W (v ∷ vs) w q h = by (work_eq v.name W) q (λ again. live-found W vs w again h.1)
    where
      by : (b : Bool) → (if b then Some v else work_at W vs) ≡ Some w → (work_at W vs ≡ Some w → w.name.epoch ≡ e) → w.name.epoch ≡ e
      by true k on = subst (λ (z : Work). z.name.epoch ≡ e) (same_Some v w k) h.0
      by false k on = on k

  -- ---- prepared works

  abbrev Stored : (WorkId → Option Prepared) → Type 0
  Stored works = (W : WorkId) → is_some (works W) ≡ true → W.epoch ≡ e

  stored-at : (works : WorkId → Option Prepared) (W : WorkId) (o : Option Prepared) → (is_some o ≡ true → W.epoch ≡ e) → Stored works → Stored (at_work works W o)
  stored-at works W o here all V s = ⊎_elim
      (λ t. subst (λ (U : WorkId). U.epoch ≡ e) t.1 (here (sym (ap (λ (b : Bool). is_some (if b then o else works V)) t.0) ∙ s)))
      (λ t. all V (sym (ap (λ (b : Bool). is_some (if b then o else works V)) t.0) ∙ s))
      (work_tells W V)

  none-there : (W : WorkId) → false ≡ true → W.epoch ≡ e
  none-there W s = absurd (true≢false (sym s))

  still-there : (o : Option Prepared) → is_some (gone_on o) ≡ true → is_some o ≡ true
  still-there None s = s
  still-there (Some p) s = refl

-- ---- what is carried out

abbrev pub AllWhole : (WorkId → ℕ) → Type 0
AllWhole next = (W : WorkId) → next W ≡ 0

whole-at : (next : WorkId → ℕ) (W : WorkId) (n : ℕ) (V : WorkId) → work_eq W V ≡ false → next V ≡ 0 → at_work next W n V ≡ 0
whole-at next W n V f z = ap (λ (b : Bool). if b then n else next V) f ∙ z

whole-less : (next : WorkId → ℕ) (W : WorkId) → ((V : WorkId) → work_eq W V ≡ false → next V ≡ 0) → AllWhole (at_work next W 0)
whole-less next W rest V = by (work_eq W V) refl
  where
    by : (b : Bool) → work_eq W V ≡ b → (if b then 0 else next V) ≡ 0
    by true f = refl
    by false f = rest V f

-- a part of the going work of least name, and of no other
abbrev pub IsPart : Memory → StableState → Type 0
IsPart m x = (w : Work) × (going_work x m.worker ≡ Some w) × ((V : WorkId) → work_eq w.name V ≡ false → m.next V ≡ 0)

-- ---- a message

pub record KeepsNames (e : ℕ) (m : Memory) (x : StableState) (row : RowOutcome Memory) : Type 0 where
  pub named : AreNamed e row.table (made_all row.changes x)
  pub whole : AllWhole m.next → AllWhole row.table.next

module _ (e : ℕ) (m : Memory) (x : StableState) (h : AreNamed e m x) where
  still : (t : WorkerTable) (sent : List Sent) (notes : List Note) → AllByRecursion (IsNamedIn e) t
      → KeepsNames e m x (of_worker m (record { table = t; changes = []; messages = sent; notes = notes; tickets = m.tickets }))
  still t sent notes live = record { named = record { tickets = h.tickets; live = live; prepared = h.prepared }; whole = λ z. z }

  worker-names : (room : Room) (message : Message) → KeepsNames e m x (of_worker m (worker_row m.worker (storage_of m x room) m.tickets message))
  worker-names room message = by message (worker_row m.worker (storage_of m x room) m.tickets message) (worker-case m.worker (storage_of m x room) m.tickets message)
    where
      done-live : (W : WorkId) (p : Phase) (T : Tid) (wants : List Wanted) → AllByRecursion (IsNamedIn e) (with_phase W p (after_grant T W wants m.worker))
      done-live W p T wants = live-phase e W p (after_grant T W wants m.worker) (live-grant e T W wants m.worker h.live)

      by : (message : Message) (row : RowOutcome WorkerTable) → WorkerCase m.worker (storage_of m x room) m.tickets message row → KeepsNames e m x (of_worker m row)
      by _ _ (opens_anew c q T none few) = record {
        named = record {
          tickets = h.tickets;
          live = live-more e m.worker (new_work (name_from m.tickets) T) h.live h.tickets;
          prepared = h.prepared;
        };
        whole = λ z. z;
      }
      by _ _ (refuses_next c q W n op w a refusal found f l r) = still _ _ _ (live-phase e w.name (Active (counted a refusal)) m.worker h.live)
      by _ _ (performs_next c q W n op w a found f l r) = still _ _ _
          (done-live w.name (Active (done a op (its_answer (storage_of m x room) a op) (its_wants (storage_of m x room) a op))) w.tid (its_wants (storage_of m x room) a op))
      by _ _ (prepares_it T c W w a found f v) = record {
        named = record {
          tickets = h.tickets;
          live = done-live w.name (Prepares (record { reads = a.reads; writes = a.writes })) w.tid (commit_wants a.writes);
          prepared = stored-at e x.works w.name (Some (ready_work (record { work = w.name; tid = w.tid; client = c }) a.list a.reads)) (λ s. live-found e W m.worker w found h.live) h.prepared;
        };
        whole = λ z. z;
      }
      by _ _ (marks_it T W w p found f g) = record {
        named = record { tickets = h.tickets; live = h.live; prepared = stored-at e x.works W (gone_on (x.works W)) (λ s. h.prepared W (still-there e (x.works W) s)) h.prepared };
        whole = λ z. z;
      }
      by _ _ (drops_it T W w found f) = still _ _ _ (live-less e W m.worker h.live)
      by _ _ (removes_it T W w p found f g) = record {
        named = record { tickets = h.tickets; live = live-less e W m.worker h.live; prepared = stored-at e x.works W None (none-there e W) h.prepared };
        whole = λ z. whole-less m.next W (λ V f. z V);
      }
      by message row case = still m.worker _ _ h.live

  coordinator-names : (n : ℕ) (row : RowOutcome CoordinatorTable) → Aside n m.tickets row → KeepsNames e m x (of_coordinator m row)
  coordinator-names n row aside = record {
    named = record {
      tickets = ⊎_elim (λ same. ap (λ (k : Tickets). k.epoch) same) (λ drawn. ap (λ (k : Tickets). k.epoch) drawn) aside.tickets ∙ h.tickets;
      live = h.live;
      prepared = λ W s. h.prepared W (sym (ap (λ (f : WorkId → Option Prepared). is_some (f W)) (flags-all row.changes x aside.flags)) ∙ s);
    };
    whole = λ z. z;
  }

  pub row-names : (room : Room) (message : Message) → KeepsNames e m x (server_row m x room message)
  row-names room message = row-either (KeepsNames e m x) m x room message (worker-names room message)
      (coordinator-names _ (coordinator_row m.coordinator room.free.records m.tickets message) (coordinator-aside m.coordinator room.free.records m.tickets message))

-- ---- a step

pub record StepKeeps (e : ℕ) (m : Memory) (x : StableState) (row : RowOutcome Memory) : Type 0 where
  pub named : AreNamed e row.table (made_all row.changes x)
  -- what was whole or a part is whole or a part again, and where it is a part nothing is sent
  pub parts : AllWhole m.next ⊎ IsPart m x → AllWhole row.table.next ⊎ ((row.messages ≡ []) × IsPart row.table (made_all row.changes x))

module _ (e : ℕ) (m : Memory) (x : StableState) (h : AreNamed e m x) where
  -- no other is in part
  others : (w : Work) → going_work x m.worker ≡ Some w → AllWhole m.next ⊎ IsPart m x → (V : WorkId) → work_eq w.name V ≡ false → m.next V ≡ 0
  others w going (inl z) V f = z V
  others w going (inr (v, too, rest)) V f = rest V (ap (λ (u : Work). work_eq u.name V) (same_Some v w (sym too ∙ going)) ∙ f)

  pub step-names : (room : Room) (row : RowOutcome Memory) → server_step m x room ≡ Some row → StepKeeps e m x row
  step-names room row is = row-of-step (StepKeeps e m x) m x room row is (λ step at. by step (worker-step-case m.worker (storage_of m x room) m.tickets step at))
    where
      by : (step : RowOutcome WorkerTable) → WorkerStep m.worker (storage_of m x room) m.tickets step → StepKeeps e m x (of_worker m step)
      by _ (carries_out w i going some) = record {
        named = record { tickets = h.tickets; live = h.live; prepared = h.prepared };
        parts = λ p. inr (refl, (w, going, λ V f. whole-at m.next w.name (m.next w.name + 1) V f (others w going p V f)));
      }
      by _ (is_over w going none) = record {
        named = record { tickets = h.tickets; live = live-less e w.name m.worker h.live; prepared = stored-at e x.works w.name None (none-there e w.name) h.prepared };
        parts = λ p. inl (whole-less m.next w.name (others w going p));
      }
      by _ (erases_rubbish none rubbish) = record {
        named = record { tickets = h.tickets; live = h.live; prepared = h.prepared };
        parts = λ p. ⊎_elim (λ z. inl z) (λ part. absurd (none-some part.0 (sym none ∙ part.1))) p;
      }

-- ---- a timeout

module _ (m : Memory) (T : Tid) where
  pub timeout-next : (server_timeout m T).next ≡ m.next
  timeout-next = by (timeout_row m.worker T)
    where
      by : (o : Option WorkerTable) → (of_timeout m o).next ≡ m.next
      by None = refl
      by (Some t) = refl

  pub timeout-names : (e : ℕ) (x : StableState) → AreNamed e m x → AreNamed e (server_timeout m T) x
  timeout-names e x h = by (work_of T m.worker)
    where
      by : (o : Option Work) → AreNamed e (of_timeout m (timed_out m.worker o)) x
      by None = h
      by (Some w) = record { tickets = h.tickets; live = live-phase e w.name (vulnerable w.phase) m.worker h.live; prepared = h.prepared }

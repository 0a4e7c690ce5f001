-- A work that isn't live stays so, and a Drop or a Commit of a live one ends it or makes it go.
use Rattle.jn_system_settling.proofs.Common.{◌≡◌, ◌≢◌, ◌⊎◌, inl, inr, ◌<◌, ℕ, ◌+◌, Bool, true, false, List, [], ◌∷◌, ◌++◌, Option, Some, None, is_some, refl, sym, ◌∙◌, ap, subst, arith, if◌then◌else◌, ServerNo, Tid, WorkId, Tickets, work_eq, work_tells, AllFiles, Intention, Message, Work, Phase, Active, Broken, Stored, RemoveWork, stable, is_going, RowOutcome, quiet, ignored, coordinator_row, WorkerTable, WorkStorage, Wanted, work_at, with_phase, without, new_work, after_grant, commit_wants, drop_phase, drop_row, worker_row, carried_row, are_rising, is_after, in_phase, at-phase, at-grant, once_granted, at-less, at-more, World, Memory, Room, storage_of, server_row, UpFact, coordinator-aside, Reached, its_wants, WorkerCase, opens_anew, refuses_next, performs_next, prepares_it, drops_it, removes_it, worker-case, row-either}
use Rattle.jn_msgs.specs.declared.message.Message.TheVariants as messages
use Rattle.jn_rows.specs.Worker.{name_from}
use Rattle.jn_system_settling.proofs.AtRest.Standing.{inv, up-at}
use Rattle.jn_system_settling.proofs.AtRest.Carrying.{goes_in}

-- the name was given before
abbrev pub IsOld : WorkId → Tickets → Type 0
IsOld W k = W.epoch ≡ k.epoch → W.ticket < k.next

-- ---- a worker's rows

module _ (t : WorkerTable) (k : Tickets) (rising : are_rising t ≡ true) (next : is_after (name_from k) t ≡ true) (W : WorkId) (old : IsOld W k) where
  -- if it isn't there it stays so, and its name is given
  pub record Row (row : RowOutcome WorkerTable) : Type 0 where
    pub gone : work_at W t ≡ None → work_at W row.table ≡ None
    pub given : IsOld W row.tickets

  abbrev none-work : Option Work
  none-work = None

  none-both : (b : Bool) → (if b then none-work else none-work) ≡ none-work
  none-both true = refl
  none-both false = refl

  same : (row : RowOutcome WorkerTable) → row.table ≡ t → row.tickets ≡ k → Row row
  same row e f = record { gone = λ none. ap (λ z. work_at W z) e ∙ none; given = subst (λ (z : Tickets). IsOld W z) (sym f) old }

  less : (N : WorkId) (row : RowOutcome WorkerTable) → row.table ≡ without N t → row.tickets ≡ k → Row row
  less N row e f = record { gone = λ none. ap (λ z. work_at W z) e ∙ at-less W N t rising ∙ ap (λ o. if work_eq N W then None else o) none ∙ none-both (work_eq N W); given = subst (λ (z : Tickets). IsOld W z) (sym f) old }

  phased : (N : WorkId) (p : Phase) (now : WorkerTable) → work_at W now ≡ None → work_at W (with_phase N p now) ≡ None
  phased N p now h = at-phase W N p now ∙ ap (λ o. if work_eq N W then in_phase p o else o) h ∙ none-both (work_eq N W)

  granted : (T : Tid) (N : WorkId) (wants : List Wanted) → work_at W t ≡ None → work_at W (after_grant T N wants t) ≡ None
  granted T N wants none = at-grant T N wants W t ∙ ap (λ o. once_granted T N wants o) none

  -- a new work has another name
  opened : (T : Tid) → work_at W t ≡ None → work_at W (t ++ new_work (name_from k) T ∷ []) ≡ None
  opened T none = at-more W t (new_work (name_from k) T) next ∙ by (work_tells (name_from k) W)
    where
      by : ((work_eq (name_from k) W ≡ true) × (name_from k ≡ W)) ⊎ ((work_eq (name_from k) W ≡ false) × (name_from k ≢ W)) → (if work_eq (name_from k) W then Some (new_work (name_from k) T) else work_at W t) ≡ None
      by (inl p) = absurd (too-far (ap (λ (V : WorkId). V.ticket) (sym p.1)) (old (ap (λ (V : WorkId). V.epoch) (sym p.1))))
        where
          too-far : W.ticket ≡ k.next → W.ticket < k.next → ⊥
          too-far e l = omega (arith, e, l)
      by (inr p) = ap (λ (b : Bool). if b then Some (new_work (name_from k) T) else work_at W t) p.0 ∙ none

  pub worker-none : (s : WorkStorage) (m : Message) → Row (worker_row t s k m)
  worker-none s m = by m (worker_row t s k m) (worker-case t s k m)
    where
      later : (e : W.epoch ≡ k.epoch) → W.ticket < k.next + 1
      later e = let l = old e in omega (arith, l)

      by : (m : Message) (row : RowOutcome WorkerTable) → WorkerCase t s k m row → Row row
      by _ _ (opens_anew c q T e l) = record { gone = opened T; given = later }
      by _ _ (refuses_next c q V n op w a refusal e f l r) = record { gone = phased w.name _ t; given = old }
      by _ _ (performs_next c q V n op w a e f l r) = record { gone = λ none. phased w.name _ (after_grant w.tid w.name (its_wants s a op) t) (granted w.tid w.name (its_wants s a op) none); given = old }
      by _ _ (prepares_it T c V w a e f v) = record { gone = λ none. phased w.name _ (after_grant w.tid w.name (commit_wants a.writes) t) (granted w.tid w.name (commit_wants a.writes) none); given = old }
      by _ _ (drops_it T V w e f) = less V _ refl refl
      by _ _ (removes_it T V w p e f g) = less V _ refl refl
      by m row case = same row refl refl

  pub carried-none : (w : Work) (o : Option Intention) → Row (carried_row t k w o)
  carried-none w (Some i) = same _ refl refl
  carried-none w None = less w.name _ refl refl

-- ---- in a world that is reached

-- its server doesn't have it, and has given its name
pub record NotLive (r : World) (W : WorkId) : Type 0 where
  pub memory : Memory
  pub up : r.memory W.server ≡ Some memory
  pub none : work_at W memory.worker ≡ None
  pub old : IsOld W memory.tickets

module _ (files : AllFiles) (epochs : ServerNo → ℕ) (r : World) (R : Reached files epochs r) (W : WorkId) (m : Memory) (up : r.memory W.server ≡ Some m) (old : IsOld W m.tickets) (room : Room) (message : Message) where
  fact : UpFact W.server m (r.found W.server)
  fact = up-at files epochs r R W.server m up

  worker's : Row m.worker m.tickets fact.table.rising fact.table.before W old (worker_row m.worker (storage_of m (stable (r.found W.server)) room) m.tickets message)
  worker's = worker-none m.worker m.tickets fact.table.rising fact.table.before W old (storage_of m (stable (r.found W.server)) room) message

  pub row-none : work_at W m.worker ≡ None → work_at W (server_row m (stable (r.found W.server)) room message).table.worker ≡ None
  row-none none = row-either (λ row. work_at W row.table.worker ≡ None) m (stable (r.found W.server)) room message (worker's.gone none) none

  pub row-old : IsOld W (server_row m (stable (r.found W.server)) room message).table.tickets
  row-old = row-either (λ row. IsOld W row.table.tickets) m (stable (r.found W.server)) room message worker's.given (aside (coordinator-aside m.coordinator room.free.records m.tickets message).tickets)
    where
      aside : ((coordinator_row m.coordinator room.free.records m.tickets message).tickets ≡ m.tickets) ⊎ ((coordinator_row m.coordinator room.free.records m.tickets message).tickets ≡ record m.tickets { next = m.tickets.next + 1 })
          → IsOld W (coordinator_row m.coordinator room.free.records m.tickets message).tickets
      aside (inl e) = subst (λ (z : Tickets). IsOld W z) (sym e) old
      aside (inr e) = subst (λ (z : Tickets). IsOld W z) (sym e) (λ f. let l = old f in omega (arith, l))

-- who is live has an old name
module _ (files : AllFiles) (epochs : ServerNo → ℕ) (r : World) (R : Reached files epochs r) (W : WorkId) (m : Memory) (v : Work) (up : r.memory W.server ≡ Some m) (live : work_at W m.worker ≡ Some v) where
  pub live-old : IsOld W m.tickets
  live-old e = subst (λ (t : ℕ). W.ticket < t) (R.mirrors.ticket W.server m up)
      (((inv files epochs r R).names.works W (λ n. false) (R.mirrors.owner W.server m W v up live).0).1 (R.mirrors.up W.server ∙ ap is_some up) (e ∙ (up-at files epochs r R W.server m up).epoch ∙ sym (ap (λ x. x.epoch) (R.mirrors.found W.server (λ n. false)))))

-- a Drop ends what doesn't go
module _ (files : AllFiles) (epochs : ServerNo → ℕ) (r : World) (R : Reached files epochs r) (T : Tid) (W : WorkId) (m : Memory) (room : Room) (up : r.memory W.server ≡ Some m) where
  pub drop-leads : (work_at W (server_row m (stable (r.found W.server)) room (messages.Drop T W)).table.worker ≡ None) ⊎ (goes_in (stable (r.found W.server)) W ≡ true)
  drop-leads = by (work_at W m.worker) refl
    where
      fact : UpFact W.server m (r.found W.server)
      fact = up-at files epochs r R W.server m up

      gone : work_at W (without W m.worker) ≡ None
      gone = at-less W W m.worker fact.table.rising ∙ ap (λ (b : Bool). if b then None else work_at W m.worker) itself
        where
          itself : work_eq W W ≡ true
          itself = grind (arith, work_tells W W)

      phase : (p : Phase) → (work_at W (drop_phase m.worker (storage_of m (stable (r.found W.server)) room) m.tickets W p).table ≡ None) ⊎ (goes_in (stable (r.found W.server)) W ≡ true)
      phase (Active a) = inl gone
      phase (Broken u by) = inl gone
      phase (Stored p) = on (is_going ((stable (r.found W.server)).works W)) refl
        where
          on : (b : Bool) → is_going ((stable (r.found W.server)).works W) ≡ b → (work_at W (if b then ignored m.worker m.tickets else record (quiet (without W m.worker) m.tickets) { changes = RemoveWork W ∷ [] }).table ≡ None) ⊎ (goes_in (stable (r.found W.server)) W ≡ true)
          on true e = inr e
          on false e = inl gone

      by : (o : Option Work) → work_at W m.worker ≡ o → (work_at W (drop_row m.worker (storage_of m (stable (r.found W.server)) room) m.tickets W (work_at W m.worker)).table ≡ None) ⊎ (goes_in (stable (r.found W.server)) W ≡ true)
      by None e = inl (ap (λ o. work_at W (drop_row m.worker (storage_of m (stable (r.found W.server)) room) m.tickets W o).table) e ∙ e)
      by (Some w) e = subst (λ o. (work_at W (drop_row m.worker (storage_of m (stable (r.found W.server)) room) m.tickets W o).table ≡ None) ⊎ (goes_in (stable (r.found W.server)) W ≡ true)) (sym e) (phase w.phase)

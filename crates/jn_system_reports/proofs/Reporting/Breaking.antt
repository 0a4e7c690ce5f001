-- A work that a row says is broken was one that held something, and is broken in its table.
use Rattle.jn_system_reports.proofs.Common.{◌≡◌, ◌⊎◌, inl, inr, Bool, true, false, List, [], ◌∷◌, Option, Some, None, refl, sym, ◌∙◌, ap, subst, arith, ◌&&◌, ◌||◌, not, if◌then◌else◌, Tid, WorkId, LockUnit, Tickets, work_eq, work_tells, Read, IntentionWrite, is_unit, Message, Work, Phase, Active, Broken, Stored, ActiveWork, RowOutcome, WorkerTable, WorkStorage, Wanted, work_at, with_phase, after_grant, breaks_at, broken_by, note_of, break_notes, gives_way, collision, has_mode, commit_wants, worker_row, is_before, are_rising, work_same, found-name, found-behind, not-before, in_phase, at-phase, once_granted, at-grant, WorkerCase, none_done, performs_next, prepares_it, its_wants, worker-case}
use Rattle.jn_locks.specs.declared.words.Mode.TheVariants.{Commit}
use Rattle.jn_msgs.specs.declared.message.Note.TheVariants.{Broke, Ignored}
use Rattle.jn_system_reports.proofs.Reporting.Lists.{In, in-either}

-- the work that broke
pub record BreaksOne (t : WorkerTable) (row : RowOutcome WorkerTable) (T : Tid) (u : LockUnit) (by : Tid) : Type 0 where
  pub name : WorkId
  pub work : Work
  pub found : work_at name t ≡ Some work
  pub tid : work.tid ≡ T
  pub active : ActiveWork
  pub is : work.phase ≡ Active active
  pub held : (active.reads ≡ []) → (active.writes ≡ []) → ⊥
  pub now : work_at name row.table ≡ Some (record work { phase = Broken u by })

abbrev pub Breaks : WorkerTable → RowOutcome WorkerTable → Type 0
Breaks t row = (T : Tid) (u : LockUnit) (by : Tid) → In (Broke T u by) row.notes → BreaksOne t row T u by

-- ---- one that holds nothing collides with nothing

none-collides : (a : ActiveWork) → a.reads ≡ [] → a.writes ≡ [] → (wants : List Wanted) → collision (Active a) wants ≡ None
none-collides a r w [] = refl
none-collides a r w (want ∷ wants) = ap (λ (b : Bool). if b then Some want.unit else collision (Active a) wants) (tests (has_mode Read want.modes) (has_mode IntentionWrite want.modes) (has_mode Commit want.modes) (is_unit a.reads want.unit) (is_unit a.writes want.unit)
    (ap (λ us. is_unit us want.unit) r) (ap (λ us. is_unit us want.unit) w)) ∙ none-collides a r w wants
  where
    tests : (x y z p q : Bool) → p ≡ false → q ≡ false → ((x && ((p && false) || ((q && false) || false))) || ((y && ((p && false) || ((q && true) || false))) || (z && ((p && true) || ((q && true) || false))))) ≡ false
    tests x y z true q e f = absurd (grind arith)
    tests x y z false true e f = absurd (grind arith)
    tests true true true false false e f = refl
    tests true true false false false e f = refl
    tests true false true false false e f = refl
    tests true false false false false e f = refl
    tests false true true false false e f = refl
    tests false true false false false e f = refl
    tests false false true false false e f = refl
    tests false false false false false e f = refl

-- ---- what a grant breaks

pub record BreaksAt (t : WorkerTable) (W : WorkId) (wants : List Wanted) (T : Tid) (u : LockUnit) : Type 0 where
  pub name : WorkId
  pub work : Work
  pub found : work_at name t ≡ Some work
  pub tid : work.tid ≡ T
  pub at : breaks_at W wants work ≡ Some u

noted : (R : Tid) (W : WorkId) (wants : List Wanted) (t : WorkerTable) → are_rising t ≡ true → (T : Tid) (u : LockUnit) (by : Tid) → In (Broke T u by) (break_notes R W wants t) → BreaksAt t W wants T u × (R ≡ by)
noted R W wants [] rising T u by i = absurd i
noted R W wants (v ∷ vs) rising T u by i = at (breaks_at W wants v) refl (in-either (Broke T u by) (note_of R (breaks_at W wants v) v) (break_notes R W wants vs) i) (noted R W wants vs (second-of (is_before v.name vs) (are_rising vs) rising) T u by)
  where
    first-of : (a b : Bool) → (a && b) ≡ true → a ≡ true
    first-of a b h = grind arith

    second-of : (a b : Bool) → (a && b) ≡ true → b ≡ true
    second-of a b h = grind arith

    same-tid : (x : LockUnit) → Broke v.tid x R ≡ Broke T u by → v.tid ≡ T
    same-tid x e = cc

    same-unit : (x : LockUnit) → Broke v.tid x R ≡ Broke T u by → x ≡ u
    same-unit x e = cc

    same-by : (x : LockUnit) → Broke v.tid x R ≡ Broke T u by → R ≡ by
    same-by x e = cc

    deeper : BreaksAt vs W wants T u × (R ≡ by) → BreaksAt (v ∷ vs) W wants T u × (R ≡ by)
    deeper h = (
      record {
        name = h.0.name;
        work = h.0.work;
        found = ap (λ (b : Bool). if b then Some v else work_at h.0.name vs) (not-before v.name h.0.name (found-behind h.0.name v.name vs h.0.work (first-of (is_before v.name vs) (are_rising vs) rising) h.0.found)) ∙ h.0.found;
        tid = h.0.tid;
        at = h.0.at;
      },
      h.1,
    )

    at : (o : Option LockUnit) → breaks_at W wants v ≡ o → In (Broke T u by) (note_of R o v) ⊎ In (Broke T u by) (break_notes R W wants vs) → (In (Broke T u by) (break_notes R W wants vs) → BreaksAt vs W wants T u × (R ≡ by)) → BreaksAt (v ∷ vs) W wants T u × (R ≡ by)
    at o e (inr k) on = deeper (on k)
    at None e (inl k) on = absurd k
    at (Some x) e (inl (inl k)) on = (record { name = v.name; work = v; found = ap (λ (b : Bool). if b then Some v else work_at v.name vs) (work_same v.name); tid = same-tid x k; at = e ∙ ap Some (same-unit x k) }, same-by x k)
    at (Some x) e (inl (inr k)) on = absurd k

-- it gives way, holds something and is another work
broke-one : (R : Tid) (W : WorkId) (wants : List Wanted) (phase : Phase) (t : WorkerTable) (row : RowOutcome WorkerTable) → row.table ≡ with_phase W phase (after_grant R W wants t) → (T : Tid) (u : LockUnit) (by : Tid) → BreaksAt t W wants T u × (R ≡ by) → BreaksOne t row T u by
broke-one R W wants phase t row is T u by h = at (work_eq h.0.work.name W) refl h.0.work.phase refl h.0.at
  where
    none : None ≡ Some u → ⊥
    none e = cc

    name : h.0.work.name ≡ h.0.name
    name = found-name h.0.name t h.0.work h.0.found

    other : (a b : WorkId) → work_eq a b ≡ false → work_eq b a ≡ false
    other a b e = grind (arith, work_tells a b, work_tells b a)

    now : work_eq h.0.work.name W ≡ false → breaks_at W wants h.0.work ≡ Some u → work_at h.0.name row.table ≡ Some (record h.0.work { phase = Broken u by })
    now e f = ap (λ (l : WorkerTable). work_at h.0.name l) is ∙ at-phase h.0.name W phase (after_grant R W wants t) ∙ ap (λ (b : Bool). if b then in_phase phase (work_at h.0.name (after_grant R W wants t)) else work_at h.0.name (after_grant R W wants t)) (subst (λ (V : WorkId). work_eq W V ≡ false) name (other h.0.work.name W e))
        ∙ at-grant R W wants h.0.name t ∙ ap (once_granted R W wants) h.0.found ∙ ap (λ o. Some (broken_by R o h.0.work)) f ∙ ap (λ (z : Tid). Some (record h.0.work { phase = Broken u z })) h.1

    at : (a : Bool) → work_eq h.0.work.name W ≡ a → (p : Phase) → h.0.work.phase ≡ p → (if not a && gives_way p then collision p wants else None) ≡ Some u → BreaksOne t row T u by
    at true e p f k = absurd (none k)
    at false e (Broken x y) f k = absurd (none k)
    at false e (Stored q) f k = absurd (none k)
    at false e (Active a) f k = record {
      name = h.0.name;
      work = h.0.work;
      found = h.0.found;
      tid = h.0.tid;
      active = a;
      is = f;
      held = λ r w. by-way a.vulnerable k r w;
      now = now e h.0.at;
    }
      where
        by-way : (b : Bool) → (if b then collision (Active a) wants else None) ≡ Some u → (a.reads ≡ []) → (a.writes ≡ []) → ⊥
        by-way true q r w = none (sym (none-collides a r w wants) ∙ q)
        by-way false q r w = none q

-- ---- rows

module _ (t : WorkerTable) (k : Tickets) (rising : are_rising t ≡ true) where
  none-broke : (row : RowOutcome WorkerTable) → row.notes ≡ [] → Breaks t row
  none-broke row e T u by i = absurd (subst (λ l. In (Broke T u by) l) e i)

  ignored-broke : (row : RowOutcome WorkerTable) → row.notes ≡ Ignored ∷ [] → Breaks t row
  ignored-broke row e T u by i = no (subst (λ l. In (Broke T u by) l) e i)
    where
      clash : Ignored ≡ Broke T u by → ⊥
      clash q = cc

      no : (Ignored ≡ Broke T u by) ⊎ ⊥ → BreaksOne t row T u by
      no (inl q) = absurd (clash q)
      no (inr q) = absurd q

  pub worker-breaks : (s : WorkStorage) (message : Message) → Breaks t (worker_row t s k message)
  worker-breaks s message = row-breaks message (worker_row t s k message) (worker-case t s k message)
    where
      row-breaks : (m : Message) (row : RowOutcome WorkerTable) → WorkerCase t s k m row → Breaks t row
      row-breaks _ _ (none_done m) = ignored-broke _ refl
      row-breaks _ _ (performs_next c q W n op w a found e l r) = λ T u by i. broke-one w.tid w.name (its_wants s a op) _ t _ refl T u by (noted w.tid w.name (its_wants s a op) t rising T u by i)
      row-breaks _ _ (prepares_it T c W w a found e v) = λ U u by i. broke-one w.tid w.name (commit_wants a.writes) _ t _ refl U u by (noted w.tid w.name (commit_wants a.writes) t rising U u by i)
      row-breaks m row case = none-broke row refl

-- Each broken work has its line.
use Rattle.jn_system_settling.proofs.Common.{at_server, server_timeout, LockFacts, ◌≡◌, ◌≢◌, ◌⊎◌, inl, inr, ℕ, ◌+◌, Bool, true, false, List, [], ◌∷◌, ◌++◌, length, Option, Some, None, refl, sym, ◌∙◌, ap, subst, map, if◌then◌else◌, nat_lt, nat_eq, slice_get, ServerNo, ClientNo, Tid, WorkId, Tickets, LockUnit, Answer, work_eq, work_tells, AllFiles, change, answer_to, list_change, Intention, Message, Vote, Note, Text, Work, Phase, Active, Broken, Stored, ActiveWork, StableState, Prepared, stable, is_going, RowOutcome, quiet, WorkerTable, WorkStorage, Wanted, work_at, work_of, with_phase, without, new_work, open_row, break_notes, breaks_at, broken_by, note_of, after_grant, granted_row, repeated, op_phase, op_row, refusal_of, wants_of, is_fit, commit_wants, conflict, vote_of, shortage, need_in, prepared_row, prepare_phase, prepare_row, commit_phase, drop_phase, drop_row, worker_row, worker_step, going_work, going_row, carried_row, intentions_of, timed_out, timeout_row, vulnerable, written_unit, restored_work, restored_worker, are_rising, is_after, in_phase, at-phase, at-grant, once_granted, at-less, at-more, World, Memory, storage_of, of_timeout, restored, line_of, lines_of, Step, IsRun, after, run, UpFact, ServerFact, of-found, In, in-first, in-second, Reached, next-reached, one-server, some-memory, ServerRow, of_message, of_work, of_closing, StepCase, row_done, row_stopped, gone_late, gone_down, come_up, step-case, row-either, row-of-step, none-memory, Files, Asked, asked_for, asked_here}
use Rattle.jn_msgs.specs.declared.message.Message.TheVariants as messages
use Rattle.jn_msgs.specs.declared.message.Vote.TheVariants as votes
use Rattle.jn_msgs.specs.declared.message.Note.TheVariants as notes
use Rattle.jn_report.specs.declared.line.Text.TheVariants as says
use Rattle.jn_rows.specs.declared.worker.PreparedWork.{PreparedWork}
use Rattle.jn_rows.specs.Worker.{name_from, commit_row}
use Rattle.jn_system_reports.specs.Reporting.Reported.{Does, told_by}
use Rattle.jn_system_reports.proofs.Reporting.Naming.{adds}

-- where a broken work of a new table comes from: it was broken before, or breaks with its note
record WasBroken (t : WorkerTable) (W : WorkId) (v : Work) (u : LockUnit) (by : Tid) : Type 0 where
  work : Work
  found : work_at W t ≡ Some work
  phase : work.phase ≡ Broken u by
  tid : work.tid ≡ v.tid

abbrev Breaks : WorkerTable → WorkerTable → List Note → Type 0
Breaks t now told = (W : WorkId) (v : Work) (u : LockUnit) (by : Tid) → work_at W now ≡ Some v → v.phase ≡ Broken u by → WasBroken t W v u by ⊎ In (notes.Broke v.tid u by) told

some-work : (a b : Work) → Some a ≡ Some b → a ≡ b
some-work a b e = cc

none-work : (a : Work) → None ≡ Some a → ⊥
none-work a e = cc

same-breaks : (t : WorkerTable) (told : List Note) → Breaks t t told
same-breaks t told W v u by e p = inl (record { work = v; found = e; phase = p; tid = refl })

less-breaks : (N : WorkId) (t : WorkerTable) (told : List Note) → are_rising t ≡ true → Breaks t (without N t) told
less-breaks N t told rising W v u by e p = on (work_eq N W) (sym (at-less W N t rising) ∙ e)
  where
    on : (b : Bool) → (if b then None else work_at W t) ≡ Some v → WasBroken t W v u by ⊎ In (notes.Broke v.tid u by) told
    on true q = absurd (none-work v q)
    on false q = same-breaks t told W v u by q p

more-breaks : (N : WorkId) (T : Tid) (t : WorkerTable) (told : List Note) → is_after N t ≡ true → Breaks t (t ++ new_work N T ∷ []) told
more-breaks N T t told after W v u by e p = on (work_eq N W) (sym (at-more W t (new_work N T) after) ∙ e)
  where
    clash : (a : ActiveWork) → Active a ≡ Broken u by → ⊥
    clash a q = cc

    on : (b : Bool) → (if b then Some (new_work N T) else work_at W t) ≡ Some v → WasBroken t W v u by ⊎ In (notes.Broke v.tid u by) told
    on true q = absurd (clash _ (ap (λ (z : Work). z.phase) (some-work (new_work N T) v q) ∙ p))
    on false q = same-breaks t told W v u by q p

-- one work comes to a phase that isn't broken

active-whole : (a : ActiveWork) (u : LockUnit) (by : Tid) → Active a ≡ Broken u by → ⊥
active-whole a u by e = cc

stored-whole : (a : PreparedWork) (u : LockUnit) (by : Tid) → Stored a ≡ Broken u by → ⊥
stored-whole a u by e = cc

phase-breaks : (N : WorkId) (p : Phase) (t now : WorkerTable) (told : List Note) → ((u : LockUnit) (by : Tid) → p ≡ Broken u by → ⊥) → Breaks t now told → Breaks t (with_phase N p now) told
phase-breaks N p t now told whole h W v u by e q = on (work_eq N W) (sym (at-phase W N p now) ∙ e)
  where
    its : (o : Option Work) → in_phase p o ≡ Some v → WasBroken t W v u by ⊎ In (notes.Broke v.tid u by) told
    its None z = absurd (none-work v z)
    its (Some w) z = absurd (whole u by (ap (λ (z : Work). z.phase) (some-work (record w { phase = p }) v z) ∙ q))

    on : (b : Bool) → (if b then in_phase p (work_at W now) else work_at W now) ≡ Some v → WasBroken t W v u by ⊎ In (notes.Broke v.tid u by) told
    on true z = its (work_at W now) z
    on false z = h W v u by z q

-- the others that are in the way break
grant-breaks : (T : Tid) (N : WorkId) (wants : List Wanted) (t : WorkerTable) → Breaks t (after_grant T N wants t) (break_notes T N wants t)
grant-breaks T N wants t W v u by e q = on (work_at W t) refl (sym (at-grant T N wants W t) ∙ e)
  where
    noted : (xs : WorkerTable) (w : Work) → work_at W xs ≡ Some w → breaks_at N wants w ≡ Some u → T ≡ by → In (notes.Broke w.tid u by) (break_notes T N wants xs)
    noted [] w z k f = absurd (none-work w z)
    noted (x ∷ xs) w z k f = at (work_eq x.name W) z (noted xs w)
      where
        at : (b : Bool) → (if b then Some x else work_at W xs) ≡ Some w → (work_at W xs ≡ Some w → breaks_at N wants w ≡ Some u → T ≡ by → In (notes.Broke w.tid u by) (break_notes T N wants xs)) → In (notes.Broke w.tid u by) (break_notes T N wants (x ∷ xs))
        at true z again = in-first _ (note_of T (breaks_at N wants x) x) (break_notes T N wants xs) (subst (λ o. In (notes.Broke w.tid u by) (note_of T o x)) (sym (ap (breaks_at N wants) (some-work x w z) ∙ k))
            (inl (ap (λ (y : Work). notes.Broke y.tid u T) (some-work x w z) ∙ ap (λ y. notes.Broke w.tid u y) f)))
        at false z again = in-second _ (note_of T (breaks_at N wants x) x) (break_notes T N wants xs) (again z k f)

    unit-of : (x : LockUnit) → Broken x T ≡ Broken u by → (x ≡ u) × (T ≡ by)
    unit-of x z = (cc, cc)

    one : (w : Work) → work_at W t ≡ Some w → (o : Option LockUnit) → breaks_at N wants w ≡ o → broken_by T o w ≡ v → WasBroken t W v u by ⊎ In (notes.Broke v.tid u by) (break_notes T N wants t)
    one w z None k f = inl (record { work = w; found = z; phase = ap (λ (y : Work). y.phase) f ∙ q; tid = ap (λ (y : Work). y.tid) f })
    one w z (Some x) k f = let same = unit-of x (ap (λ (y : Work). y.phase) f ∙ q) in inr (subst (λ (U : Tid). In (notes.Broke U u by) (break_notes T N wants t)) (ap (λ (y : Work). y.tid) f) (noted t w z (k ∙ ap (λ y. Some y) same.0) same.1))

    on : (o : Option Work) → work_at W t ≡ o → once_granted T N wants o ≡ Some v → WasBroken t W v u by ⊎ In (notes.Broke v.tid u by) (break_notes T N wants t)
    on None z k = absurd (none-work v k)
    on (Some w) z k = one w z (breaks_at N wants w) refl (some-work _ v k)

-- ---- a worker's rows

module _ (t : WorkerTable) (k : Tickets) (rising : are_rising t ≡ true) (next : is_after (name_from k) t ≡ true) where
  record Row (row : RowOutcome WorkerTable) : Type 0 where
    each : Breaks t row.table row.notes

  same : (row : RowOutcome WorkerTable) → row.table ≡ t → Row row
  same row e = record { each = subst (λ z. Breaks t z row.notes) (sym e) (same-breaks t row.notes) }

  less : (N : WorkId) (row : RowOutcome WorkerTable) → row.table ≡ without N t → Row row
  less N row e = record { each = subst (λ z. Breaks t z row.notes) (sym e) (less-breaks N t row.notes rising) }

  more : (T : Tid) (row : RowOutcome WorkerTable) → row.table ≡ t ++ new_work (name_from k) T ∷ [] → Row row
  more T row e = record { each = subst (λ z. Breaks t z row.notes) (sym e) (more-breaks (name_from k) T t row.notes next) }

  choose : (b : Bool) (p q : RowOutcome WorkerTable) → Row p → Row q → Row (if b then p else q)
  choose true p q h l = h
  choose false p q h l = l

  granted-breaks : (files : Files) (q : Asked) (w : Work) (a : ActiveWork) (answer : Answer) (wants : List Wanted) (o : Option Answer) → Row (granted_row (asked_here t files k) q w a answer wants o)
  granted-breaks files q w a answer wants (Some refusal) = record { each = phase-breaks w.name _ t t [] (active-whole _) (same-breaks t []) }
  granted-breaks files q w a answer wants None = record { each = phase-breaks w.name _ t (after_grant w.tid w.name wants t) (break_notes w.tid w.name wants t) (active-whole _) (grant-breaks w.tid w.name wants t) }

  op-breaks : (files : Files) (q : Asked) (w : Work) (p : Phase) → Row (op_phase (asked_here t files k) q w p)
  op-breaks files q w (Active a) = let answer = answer_to q.op (change (list_change a.list) files) in
      choose (nat_eq q.number.0 (a.last + 1)) _ _ (granted-breaks files q w a answer (wants_of q.op (is_fit answer)) (refusal_of t w.name a q.op answer (wants_of q.op (is_fit answer))))
      (choose (nat_eq q.number.0 a.last) _ _ (repeats a.kept) (same _ refl))
    where
      repeats : (o : Option Answer) → Row (repeated (asked_here t files k) q o)
      repeats (Some answer) = same _ refl
      repeats None = same _ refl
  op-breaks files q w (Broken u by) = same _ refl
  op-breaks files q w (Stored p) = same _ refl

  prepared-breaks : (T : Tid) (c : ClientNo) (w : Work) (a : ActiveWork) (vote : Vote) → Row (prepared_row t k T c w a vote)
  prepared-breaks T c w a votes.Ready = record { each = phase-breaks w.name _ t (after_grant w.tid w.name (commit_wants a.writes) t) (break_notes w.tid w.name (commit_wants a.writes) t) (stored-whole _) (grant-breaks w.tid w.name (commit_wants a.writes) t) }
  prepared-breaks T c w a (votes.Waiting u held) = same _ refl
  prepared-breaks T c w a (votes.Lost m n) = same _ refl
  prepared-breaks T c w a (votes.Broken u held) = same _ refl
  prepared-breaks T c w a (votes.Full m n need) = same _ refl

  worker-breaks : (s : WorkStorage) (m : Message) → Row (worker_row t s k m)
  worker-breaks s (messages.Open c request T) = by (work_of T t)
    where
      by : (o : Option Work) → Row (open_row t k c request T o)
      by (Some w) = same _ refl
      by None = choose (nat_lt (length t) 64) _ _ (more T _ refl) (same _ refl)
  worker-breaks s (messages.Op c request W number op) = by (work_at W t)
    where
      by : (o : Option Work) → Row (op_row (asked_here t s.state.files k) (asked_for c request number op) W o)
      by (Some w) = op-breaks s.state.files (asked_for c request number op) w w.phase
      by None = same _ refl
  worker-breaks s (messages.Prepare T c W) = by (work_at W t)
    where
      phase : (w : Work) (p : Phase) → Row (prepare_phase t s k T c w p)
      phase w (Active a) = prepared-breaks T c w a (vote_of (conflict w.name (commit_wants a.writes) t) (shortage s.free (need_in s.maps s.state.files a.list)))
      phase w (Broken u by) = same _ refl
      phase w (Stored p) = choose (is_going (s.state.works w.name)) _ _ (same _ refl) (same _ refl)

      by : (o : Option Work) → Row (prepare_row t s k T c W o)
      by (Some w) = phase w w.phase
      by None = same _ refl
  worker-breaks s (messages.Commit T W) = by (work_at W t)
    where
      phase : (p : Phase) → Row (commit_phase t s k W p)
      phase (Active a) = same _ refl
      phase (Broken u by) = same _ refl
      phase (Stored p) = choose (is_going (s.state.works W)) _ _ (same _ refl) (same _ refl)

      by : (o : Option Work) → Row (commit_row t s k T W o)
      by (Some w) = phase w.phase
      by None = same _ refl
  worker-breaks s (messages.Drop T W) = by (work_at W t)
    where
      phase : (p : Phase) → Row (drop_phase t s k W p)
      phase (Active a) = less W _ refl
      phase (Broken u by) = less W _ refl
      phase (Stored p) = choose (is_going (s.state.works W)) _ _ (same _ refl) (less W _ refl)

      by : (o : Option Work) → Row (drop_row t s k W o)
      by (Some w) = phase w.phase
      by None = same _ refl
  worker-breaks s m = same _ refl

  step-breaks : (s : WorkStorage) (row : RowOutcome WorkerTable) → worker_step t s k ≡ Some row → Breaks t row.table row.notes
  step-breaks s row h = by (going_work s.state t) h
    where
      some : (a b : RowOutcome WorkerTable) → Some a ≡ Some b → a ≡ b
      some a b q = cc

      none : None ≡ Some row → ⊥
      none q = cc

      carried : (w : Work) (o : Option Intention) → Breaks t (carried_row t k w o).table (carried_row t k w o).notes
      carried w (Some i) = same-breaks t []
      carried w None = less-breaks w.name t [] rising

      rest : (b : Bool) → (if b then Some (quiet t k) else None) ≡ Some row → Breaks t row.table row.notes
      rest true q = subst (λ (z : RowOutcome WorkerTable). Breaks t z.table z.notes) (some _ row q) (same-breaks t [])
      rest false q = absurd (none q)

      by : (o : Option Work) → going_row t s k o ≡ Some row → Breaks t row.table row.notes
      by (Some w) q = subst (λ (z : RowOutcome WorkerTable). Breaks t z.table z.notes) (some _ row q) (carried w (slice_get (intentions_of (s.state.works w.name)) (s.next w.name)))
      by None q = rest s.rubbish q

  late-breaks : (T : Tid) (o : Option Work) (now : WorkerTable) → ((w : Work) → o ≡ Some w → work_at w.name t ≡ Some w) → timed_out t o ≡ Some now → Breaks t now []
  late-breaks T None now own h = absurd (none h)
    where
      none : None ≡ Some now → ⊥
      none q = cc
  late-breaks T (Some w) now own h = subst (λ z. Breaks t z []) (some (with_phase w.name (vulnerable w.phase) t) now h) (on w.phase refl)
    where
      some : (a b : WorkerTable) → Some a ≡ Some b → a ≡ b
      some a b q = cc

      -- what was broken stays so
      on : (p : Phase) → w.phase ≡ p → Breaks t (with_phase w.name (vulnerable p) t) []
      on (Active a) e = phase-breaks w.name _ t t [] (active-whole _) (same-breaks t [])
      on (Stored a) e = phase-breaks w.name _ t t [] (stored-whole _) (same-breaks t [])
      on (Broken x y) e = λ W v u by f q. at W v u by (work_tells w.name W) (sym (at-phase W w.name (Broken x y) t) ∙ f) q
        where
          at : (W : WorkId) (v : Work) (u : LockUnit) (by : Tid) → ((work_eq w.name W ≡ true) × (w.name ≡ W)) ⊎ ((work_eq w.name W ≡ false) × (w.name ≢ W)) → (if work_eq w.name W then in_phase (Broken x y) (work_at W t) else work_at W t) ≡ Some v
              → v.phase ≡ Broken u by → WasBroken t W v u by ⊎ In (notes.Broke v.tid u by) []
          at W v u by (inr p) f q = same-breaks t [] W v u by (sym (ap (λ (b : Bool). if b then in_phase (Broken x y) (work_at W t) else work_at W t) p.0) ∙ f) q
          at W v u by (inl p) f q = let here = sym (ap (λ (V : WorkId). work_at V t) p.1) ∙ own w refl in
              let is = some-work (record w { phase = Broken x y }) v (sym (ap (in_phase (Broken x y)) here) ∙ sym (ap (λ (b : Bool). if b then in_phase (Broken x y) (work_at W t) else work_at W t) p.0) ∙ f) in
              inl (record { work = w; found = here; phase = e ∙ ap (λ (z : Work). z.phase) is ∙ q; tid = ap (λ (z : Work). z.tid) is })

-- ---- every run

abbrev pub BrokenTold : World → Type 0
BrokenTold r = (s : ServerNo) (m : Memory) (W : WorkId) (v : Work) (u : LockUnit) (by : Tid) → r.memory s ≡ Some m → work_at W m.worker ≡ Some v → v.phase ≡ Broken u by → In (says.Broke s v.tid u by) r.lines

restored-whole : (x : StableState) (Ws : List WorkId) (W : WorkId) (v : Work) (u : LockUnit) (by : Tid) → work_at W (restored_worker x Ws) ≡ Some v → v.phase ≡ Broken u by → ⊥
restored-whole x [] W v u by e p = none-work v e
restored-whole x (V ∷ Vs) W v u by e p = on (x.works V) e (restored-whole x Vs W v u by)
  where
    on : (o : Option Prepared) → work_at W (restored_work V o ++ restored_worker x Vs) ≡ Some v → (work_at W (restored_worker x Vs) ≡ Some v → v.phase ≡ Broken u by → ⊥) → ⊥
    on None q again = again q p
    on (Some w) q again = at (work_eq V W) q
      where
        at : (b : Bool) → (if b then Some (record { name = V; tid = w.tid; phase = Stored (record { reads = w.reads; writes = map (λ (i : Intention). written_unit i.what i.file i.block) w.list }) }) else work_at W (restored_worker x Vs)) ≡ Some v → ⊥
        at true z = stored-whole _ u by (ap (λ (y : Work). y.phase) (some-work _ v z) ∙ p)
        at false z = again z p

-- a break's note is its line
note-line : (s : ServerNo) (k : Option ℕ) (T : Tid) (u : LockUnit) (by : Tid) (told : List Note) → In (notes.Broke T u by) told → In (says.Broke s T u by) (lines_of s k told)
note-line s k T u by [] q = absurd q
note-line s k T u by (x ∷ told) (inl q) = in-first _ (line_of s k x) (lines_of s k told) (subst (λ z. In (says.Broke s T u by) (line_of s k z)) (sym q) (inl refl))
note-line s k T u by (x ∷ told) (inr q) = in-second _ (line_of s k x) (lines_of s k told) (note-line s k T u by told q)

module _ (r : World) (locks : LockFacts r) (h : BrokenTold r) where
  up : (s : ServerNo) (m : Memory) → r.memory s ≡ Some m → UpFact s m (r.found s)
  up s m e = subst (λ o. ServerFact s o (r.found s)) e (locks s)

  row-breaks : (s : ServerNo) (m : Memory) (step : Step) (k : Option ℕ) (row : RowOutcome Memory) → UpFact s m (r.found s) → ServerRow r s m None step k row → Breaks m.worker row.table.worker row.notes
  row-breaks s m _ _ _ up (of_message _ k room message is) = row-either (λ z. Breaks m.worker z.table.worker z.notes) m (stable (r.found s)) room message
      (worker-breaks m.worker m.tickets up.table.rising up.table.before (storage_of m (stable (r.found s)) room) message).each (same-breaks m.worker _)
  row-breaks s m _ _ row up (of_work _ room _ is) = row-of-step (λ z. Breaks m.worker z.table.worker z.notes) m (stable (r.found s)) room row is
      (step-breaks m.worker m.tickets up.table.rising up.table.before (storage_of m (stable (r.found s)) room))
  row-breaks s m _ _ _ up of_closing = same-breaks m.worker []

  timeout-breaks : (s : ServerNo) (m : Memory) (T : Tid) → UpFact s m (r.found s) → (o : Option WorkerTable) → timeout_row m.worker T ≡ o → Breaks m.worker (of_timeout m o).worker []
  timeout-breaks s m T up None e = same-breaks m.worker []
  timeout-breaks s m T up (Some t) e = late-breaks m.worker m.tickets up.table.rising up.table.before T (work_of T m.worker) t (λ w k. of-found T m.worker w up.table.rising k) e

  module _ (lines : List Text) (stays : (x : Text) → In x r.lines → In x lines) where
    abbrev Told : ServerNo → Memory → Type 0
    Told s m = (W : WorkId) (v : Work) (u : LockUnit) (by : Tid) → work_at W m.worker ≡ Some v → v.phase ≡ Broken u by → In (says.Broke s v.tid u by) lines

    -- what was broken before has its line
    still : (s : ServerNo) (m : Memory) → r.memory s ≡ Some m → Told s m
    still s m e W v u by f p = stays _ (h s m W v u by e f p)

    one : (s : ServerNo) (o : Option Memory) → ((m : Memory) → o ≡ Some m → Told s m) → (q : ServerNo) (m : Memory) → at_server r.memory s o q ≡ Some m → Told q m
    one s o now = one-server (λ q o. (m : Memory) → o ≡ Some m → Told q m) r.memory s o now (λ q other. still q)

    gone : (s q : ServerNo) (m : Memory) → at_server r.memory s None q ≡ Some m → Told q m
    gone s = one s None (λ m e. absurd (none-memory m e))

    -- what breaks has its line
    breaks : (s : ServerNo) (m now : Memory) (told : List Note) → r.memory s ≡ Some m → Breaks m.worker now.worker told → ((T : Tid) (u : LockUnit) (by : Tid) → In (notes.Broke T u by) told → In (says.Broke s T u by) lines)
        → (q : ServerNo) (n : Memory) → at_server r.memory s (Some now) q ≡ Some n → Told q n
    breaks s m now told is b new = one s (Some now) (λ n e. subst (Told s) (some-memory now n e) (λ W v u by f p. on W v u by (b W v u by f p)))
      where
        on : (W : WorkId) (v : Work) (u : LockUnit) (by : Tid) → WasBroken m.worker W v u by ⊎ In (notes.Broke v.tid u by) told → In (says.Broke s v.tid u by) lines
        on W v u by (inl w) = stays _ (subst (λ (T : Tid). In (says.Broke s T u by) r.lines) w.tid (h s m W w.work u by is w.found w.phase))
        on W v u by (inr z) = new v.tid u by z

  by-case : (step : Step) (now : World) → StepCase r step now → (stays : (x : Text) → In x r.lines → In x now.lines) → (s : ServerNo) (m : Memory) → now.memory s ≡ Some m → Told now.lines stays s m
  by-case step _ (row_done _ s m k row e is) stays = breaks _ stays s m row.table row.notes e (row-breaks s m step k row (up s m e) is) (λ T u by z. in-second _ r.lines _ (note-line s k T u by row.notes z))
  by-case step _ (row_stopped _ s m k row made e is) stays = gone _ stays s
  by-case _ _ (gone_late s m T e) stays = breaks _ stays s m (server_timeout m T) [] e (timeout-breaks s m T (up s m e) (timeout_row m.worker T) refl) (λ T u by z. absurd z)
  by-case _ _ (gone_down s m e) stays = gone _ stays s
  by-case _ _ (come_up s pick Ws Ts e) stays = one _ stays s (Some (restored s (r.found s pick) Ws Ts)) (λ m k W v u by f p. absurd (restored-whole (r.found s pick) Ws W v u by (ap (λ (z : Memory). work_at W z.worker) (some-memory _ m k) ∙ f) p))
  by-case _ _ is stays = still _ stays

module _ (files : AllFiles) (epochs : ServerNo → ℕ) where
  step-told : (step : Step) (r : World) → Reached files epochs r → BrokenTold r → BrokenTold (after step r)
  step-told step r R h s m W v u by e = by-case r R.locks h step (after step r) (step-case r step) (λ x k. subst (λ l. In x l) (sym (adds files epochs r R step)) (in-first x r.lines (told_by (Does step) r) k)) s m e W v u by

  pub run-told : (steps : List Step) (r : World) → IsRun steps r → Reached files epochs r → BrokenTold r → BrokenTold (run steps r)
  run-told [] r i R h = h
  run-told (step ∷ steps) r i R h = run-told steps (after step r) i.1 (next-reached files epochs r step i.0 R) (step-told step r R h)

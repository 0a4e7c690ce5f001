-- Each row of a worker keeps what holds of its works and locks: every message, every background step, a timeout.
use Rattle.jn_system.proofs.Common.{ap, ◌∙◌, ◌⊎◌, inr, inl, ◌≡◌, ◌≢◌, ℕ, ◌+◌, Bool, true, false, List, [], ◌∷◌, Option, Some, None, refl, sym, subst, arith, if◌then◌else◌, ClientNo, Tid, WorkId, Tickets, LockUnit, Answer, work_eq, work_tells, Mode, Read, IntentionWrite, Commit, Message, Vote, Note, Work, Phase, Active, Broken, Stored, ActiveWork, StableState, Prepared, RemoveWork, made_all, at_work, is_going, gone_on, RowOutcome, Sent, WorkerTable, WorkStorage, Held, commit_wants, holds, work_at, work_of, with_phase, without, conflict, counted, first_of_two, locked, vote_of, prepared_row, worker_row, worker_step, going_work, vulnerable, timed_out, timeout_row, IsSoundWork, IsSoundActive, TableFact}
use Rattle.jn_msgs.specs.declared.message.Vote.TheVariants as votes
use Rattle.jn_system.proofs.WholeSystem.Rows.{by-name, RowKeeps, none-of, one-of, phase-keeps, done-keeps, prepared-keeps}
use Rattle.jn_system.proofs.WholeSystem.WorkerCases.{WorkerCase, opens_anew, refuses_next, performs_next, prepares_it, marks_it, drops_it, removes_it, WorkerStep, carries_out, is_over, erases_rubbish, its_answer, is_stored, worker-case, worker-step-case}
use Rattle.jn_system.proofs.WholeSystem.Tables.{opened-keeps, less-keeps, going-keeps, of-found}

-- ---- what counts as carried out

absent : {o : Option Prepared} {a : ActiveWork} → IsSoundActive o a → o ≡ None
absent h = h.not_stored

module _ (stored : WorkId → Option Prepared) (W : WorkId) (next : WorkId → ℕ) (h : (V : WorkId) → is_going (stored V) ≡ false → next V ≡ 0) where
  abbrev Is : WorkId → Type 0
  Is V = ((work_eq W V ≡ true) × (W ≡ V)) ⊎ ((work_eq W V ≡ false) × (W ≢ V))

  idle-put : stored W ≡ None → (p : Option Prepared) (V : WorkId) → is_going (at_work stored W p V) ≡ false → next V ≡ 0
  idle-put none p V g = by (work_tells W V)
    where
      by : Is V → next V ≡ 0
      by (inl e) = subst (λ (U : WorkId). next U ≡ 0) e.1 (h W (ap is_going none))
      by (inr e) = h V (sym (ap (λ (b : Bool). is_going (if b then p else stored V)) e.0) ∙ g)

  idle-mark : (V : WorkId) → is_going (at_work stored W (gone_on (stored W)) V) ≡ false → next V ≡ 0
  idle-mark V g = by (work_tells W V)
    where
      gone : (o : Option Prepared) → is_going (gone_on o) ≡ false → is_going o ≡ false
      gone None e = refl
      gone (Some p) e = absurd (grind arith)

      by : Is V → next V ≡ 0
      by (inl e) = subst (λ (U : WorkId). next U ≡ 0) e.1 (h W (gone (stored W) (sym (ap (λ (b : Bool). is_going (if b then gone_on (stored W) else stored V)) e.0) ∙ g)))
      by (inr e) = h V (sym (ap (λ (b : Bool). is_going (if b then gone_on (stored W) else stored V)) e.0) ∙ g)

  idle-gone : (V : WorkId) → is_going (at_work stored W None V) ≡ false → at_work next W 0 V ≡ 0
  idle-gone V g = by (work_tells W V)
    where
      by : Is V → (if work_eq W V then 0 else next V) ≡ 0
      by (inl e) = ap (λ (b : Bool). if b then 0 else next V) e.0
      by (inr e) = ap (λ (b : Bool). if b then 0 else next V) e.0 ∙ h V (sym (ap (λ (b : Bool). is_going (if b then None else stored V)) e.0) ∙ g)

  idle-carried : is_going (stored W) ≡ true → (V : WorkId) → is_going (stored V) ≡ false → at_work next W (next W + 1) V ≡ 0
  idle-carried going V g = by (work_tells W V)
    where
      no : true ≡ false → ⊥
      no q = cc

      by : Is V → (if work_eq W V then next W + 1 else next V) ≡ 0
      by (inl e) = absurd (no (sym going ∙ ap (λ (U : WorkId). is_going (stored U)) e.1 ∙ g))
      by (inr e) = ap (λ (b : Bool). if b then next W + 1 else next V) e.0 ∙ h V g

pub going-is : (x : StableState) (t : WorkerTable) (w : Work) → going_work x t ≡ Some w → is_going (x.works w.name) ≡ true
going-is x [] w h = absurd (grind arith)
going-is x (y ∷ ys) w h = by (is_going (x.works y.name)) refl h (going-is x ys w)
  where
    by : (b : Bool) → is_going (x.works y.name) ≡ b → (if b then Some y else going_work x ys) ≡ Some w → (going_work x ys ≡ Some w → is_going (x.works w.name) ≡ true) → is_going (x.works w.name) ≡ true
    by true e k on = subst (λ (z : Work). is_going (x.works z.name) ≡ true) (some k) e
      where
        some : Some y ≡ Some w → y ≡ w
        some q = cc
    by false e k on = on k

-- a row without a change
still : (x : StableState) (k : Tickets) (t : WorkerTable) (sent : List Sent) (notes : List Note) → TableFact t k x.works
    → RowKeeps x k (record { table = t; changes = []; messages = sent; notes = notes; tickets = k })
still x k t sent notes fact = record { table = fact; server = refl; epoch = refl; same_epoch = refl; few = λ n. none-of [] n refl; idle = λ next h. h }

-- ---- every message

pub no-lock : (m : Option Answer) (o : Option Held) → first_of_two m (locked o) ≡ None → o ≡ None
no-lock None None h = refl
no-lock None (Some held) h = absurd (grind arith)
no-lock (Some answer) o h = absurd (grind arith)

pub no-conflict : (o : Option Held) (short : Option Vote) → vote_of o short ≡ votes.Ready → o ≡ None
no-conflict None short h = refl
no-conflict (Some held) short h = absurd (grind arith)

module _ (s : WorkStorage) (k : Tickets) (t : WorkerTable) (fact : TableFact t k s.state.works) where
  -- a refusal is counted, and no more
  counted-keeps : (W : WorkId) (w : Work) (a : ActiveWork) (answer : Answer) → work_at W t ≡ Some w → w.phase ≡ Active a → TableFact (with_phase w.name (Active (counted a answer)) t) k s.state.works
  counted-keeps W w a answer found e = phase-keeps W w t k s.state.works fact found (Active (counted a answer)) (λ u m h. subst (λ (p : Phase). holds p u m ≡ true) (sym e) (same u m h))
      (λ h. sound (subst (λ (p : Phase). IsSoundWork (s.state.works w.name) w.tid p) e h))
    where
      same : (u : LockUnit) (m : Mode) → holds (Active (counted a answer)) u m ≡ true → holds (Active a) u m ≡ true
      same u Read h = h
      same u IntentionWrite h = h
      same u Commit h = h

      sound : IsSoundActive (s.state.works w.name) a → IsSoundActive (s.state.works w.name) (counted a answer)
      sound h = record { not_stored = h.not_stored; in_order = h.in_order; covers = h.covers; files = h.files }

  stored-keeps : (T : Tid) (c : ClientNo) (W : WorkId) (w : Work) (a : ActiveWork) → work_at W t ≡ Some w → w.phase ≡ Active a → conflict w.name (commit_wants a.writes) t ≡ None → RowKeeps s.state k (prepared_row t k T c w a votes.Ready)
  stored-keeps T c W w a found e free = record {
    table = prepared-keeps W w t k s.state.works fact found a (made_all (prepared_row t k T c w a votes.Ready).changes s.state).works _ e free (λ V ne. others w.name V _ ne) (here w.name _) refl refl refl;
    server = refl;
    epoch = refl;
    same_epoch = refl;
    few = one-of _;
    idle = λ next h V g. idle-put s.state.works w.name next h (absent (subst (λ (p : Phase). IsSoundWork (s.state.works w.name) w.tid p) e (fact.sound w.name w (by-name W t w found)))) _ V g;
  }
    where
      others : (N V : WorkId) (p : Option Prepared) → N ≢ V → at_work s.state.works N p V ≡ s.state.works V
      others N V p ne = grind (arith, work_tells N V)

      here : (N : WorkId) (p : Option Prepared) → at_work s.state.works N p N ≡ p
      here N p = grind (arith, work_tells N N)

  removed-keeps : (sent : List Sent) (V : WorkId) → RowKeeps s.state k (record { table = without V t; changes = RemoveWork V ∷ []; messages = sent; notes = []; tickets = k })
  removed-keeps sent V = record {
    table = less-keeps V t k s.state.works (at_work s.state.works V None) fact (λ U ne. grind (arith, work_tells V U)) (grind (arith, work_tells V V));
    server = refl;
    epoch = refl;
    same_epoch = refl;
    few = one-of _;
    idle = λ next h U g. idle-gone s.state.works V next h U g;
  }

  -- a work that isn't prepared isn't stable
  not-stable : (o : Option Prepared) (T : Tid) (phase : Phase) → is_stored phase ≡ false → IsSoundWork o T phase → o ≡ None
  not-stable o T (Active a) f sound = absent sound
  not-stable o T (Broken u by) f sound = sound
  not-stable o T (Stored p) f sound = absurd (grind arith)

  pub worker-keeps : (m : Message) → RowKeeps s.state k (worker_row t s k m)
  worker-keeps m = by m (worker_row t s k m) (worker-case t s k m)
    where
      by : (m : Message) (row : RowOutcome WorkerTable) → WorkerCase t s k m row → RowKeeps s.state k row
      by _ _ (opens_anew c q T none room) = record { table = opened-keeps t k s.state.works T fact; server = refl; epoch = refl; same_epoch = refl; few = λ n. none-of [] n refl; idle = λ next h. h }
      by _ _ (refuses_next c q W n op w a refusal found e l r) = still s.state k _ _ _ (counted-keeps W w a refusal found e)
      by _ _ (performs_next c q W n op w a found e l r) = still s.state k _ _ _ (done-keeps W w t k s.state.works fact found a op (its_answer s a op) e (no-lock _ _ r))
      by _ _ (prepares_it T c W w a found e v) = stored-keeps T c W w a found e (no-conflict _ _ v)
      by _ _ (marks_it T W w p found e g) = record { table = going-keeps W t k s.state.works fact; server = refl; epoch = refl; same_epoch = refl; few = one-of _; idle = λ next h V i. idle-mark s.state.works W next h V i }
      by _ _ (drops_it T W w found f) = still s.state k _ _ _ (less-keeps W t k s.state.works s.state.works fact (λ U ne. refl) (not-stable _ w.tid w.phase f (fact.sound W w found)))
      by _ _ (removes_it T W w p found e g) = removed-keeps [] W
      by m row case = still s.state k t _ _ fact

  pub step-keeps : (row : RowOutcome WorkerTable) → worker_step t s k ≡ Some row → RowKeeps s.state k row
  step-keeps row h = by row (worker-step-case t s k row h)
    where
      by : (row : RowOutcome WorkerTable) → WorkerStep t s k row → RowKeeps s.state k row
      by _ (carries_out w i e f) = record { table = fact; server = refl; epoch = refl; same_epoch = refl; few = one-of _; idle = λ next h V g. idle-carried s.state.works w.name next h (going-is s.state t w e) V g }
      by _ (is_over w e f) = removed-keeps _ w.name
      by _ (erases_rubbish e g) = still s.state k t _ _ fact

-- ---- a timeout

vulnerable-holds : (p : Phase) (u : LockUnit) (m : Mode) → holds (vulnerable p) u m ≡ true → holds p u m ≡ true
vulnerable-holds (Active a) u Read h = h
vulnerable-holds (Active a) u IntentionWrite h = h
vulnerable-holds (Active a) u Commit h = h
vulnerable-holds (Broken x by) u m h = h
vulnerable-holds (Stored p) u m h = h

vulnerable-sound : (o : Option Prepared) (tid : Tid) (p : Phase) → IsSoundWork o tid p → IsSoundWork o tid (vulnerable p)
vulnerable-sound o tid (Active a) h = record { not_stored = h.not_stored; in_order = h.in_order; covers = h.covers; files = h.files }
vulnerable-sound o tid (Broken u by) h = h
vulnerable-sound o tid (Stored p) h = h

pub timeout-keeps : (t now : WorkerTable) (k : Tickets) (stored : WorkId → Option Prepared) (T : Tid) → TableFact t k stored → timeout_row t T ≡ Some now → TableFact now k stored
timeout-keeps t now k stored T fact h = by (work_of T t) refl h
  where
    some : {a b : WorkerTable} → Some a ≡ Some b → a ≡ b
    some e = cc

    by : (o : Option Work) → work_of T t ≡ o → timed_out t o ≡ Some now → TableFact now k stored
    by None e q = absurd (grind arith)
    by (Some w) e q = subst (λ (l : WorkerTable). TableFact l k stored) (some q)
        (phase-keeps w.name w t k stored fact (of-found T t w fact.rising e) (vulnerable w.phase) (vulnerable-holds w.phase) (vulnerable-sound (stored w.name) w.tid w.phase))

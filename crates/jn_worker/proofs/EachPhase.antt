-- Each row of a worker keeps what holds of each work's phase, and its changes are allowed, whatever these are.
use Rattle.jn_worker.proofs.Common.{◌≡◌, Bool, true, false, List, [], ◌∷◌, ◌++◌, length, Option, Some, None, refl, subst, arith, AllByRecursion, list_all, ClientNo, LockUnit, Tid, Tickets, WorkId, Answer, Op, tid_eq, work_eq, Message, Vote, answer_to, change, Intention, list_change, ActiveWork, Phase, Active, Broken, Stored, Work, RowOutcome, Change, AddReady, MarkGoing, CarryOut, RemoveWork, is_going, WorkerTable, WorkStorage, Wanted, work_at, work_of, with_phase, without, wants_of, is_fit, counted, done, breaks_at, broken_by, after_grant, name_from, new_work, open_row, granted_row, refusal_of, repeated, op_phase, Asked, Here, op_row, conflict, commit_wants, vote_of, shortage, need_in, prepared_row, prepare_phase, prepare_row, commit_phase, commit_row, drop_phase, drop_row, worker_row, going_work, intentions_of, carried_row, going_row, worker_step, vulnerable, timed_out, timeout_row, BlockInRange, RequestNo, InRange, most_works, slice_get}
use Rattle.std.proofs.Common.{◌+◌, if◌then◌else◌, nat_eq, nat_lt}
use Rattle.jn_msgs.specs.declared.message.Message.TheVariants as messages
use Rattle.jn_msgs.specs.declared.message.Vote.TheVariants as votes

-- what must be so of phases and changes
pub record Rules (IsSo : Phase → Type 0) (may : Change → Bool) : Type 0 where
  pub new : (W : WorkId) (T : Tid) → IsSo (new_work W T).phase
  pub broken : (u : LockUnit) (T : Tid) → IsSo (Broken u T)
  pub refused : (a : ActiveWork) (answer : Answer) → IsSo (Active a) → IsSo (Active (counted a answer))
  pub done : (a : ActiveWork) (op : Op) (answer : Answer) → BlockInRange op → IsSo (Active a) → IsSo (Active (done a op answer (wants_of op (is_fit answer))))
  pub stored : (a : ActiveWork) → IsSo (Active a) → IsSo (Stored (record { reads = a.reads; writes = a.writes }))
  pub vulnerable : (p : Phase) → IsSo p → IsSo (vulnerable p)
  pub adds : (c : ClientNo) (w : Work) (a : ActiveWork) → IsSo (Active a) → may (AddReady (record { work = w.name; tid = w.tid; client = c }) a.list a.reads) ≡ true
  pub marks : (W : WorkId) → may (MarkGoing W) ≡ true
  pub carries : (W : WorkId) (i : Intention) → may (CarryOut W i) ≡ true
  pub removes : (W : WorkId) → may (RemoveWork W) ≡ true

module _ (IsSo : Phase → Type 0) (may : Change → Bool) (rules : Rules IsSo may) where
  -- ---- tables

  abbrev pub AreSo : WorkerTable → Type 0
  AreSo t = AllByRecursion (λ (w : Work). IsSo w.phase) t

  with-phase : (W : WorkId) (phase : Phase) (t : WorkerTable) → IsSo phase → AreSo t → AreSo (with_phase W phase t)
  with-phase W phase [] h k = tt
  with-phase W phase (w ∷ ws) h k = by (work_eq w.name W) (with-phase W phase ws h k.1)
    where
      by : (b : Bool) → AreSo (with_phase W phase ws) → AreSo (if b then record w { phase = phase } ∷ ws else w ∷ with_phase W phase ws)
      by true again = (h, k.1)
      by false again = (k.0, again)

  less : (W : WorkId) (t : WorkerTable) → AreSo t → AreSo (without W t)
  less W [] k = tt
  less W (w ∷ ws) k = by (work_eq w.name W) (less W ws k.1)
    where
      by : (b : Bool) → AreSo (without W ws) → AreSo (if b then ws else w ∷ without W ws)
      by true again = k.1
      by false again = (k.0, again)

  granted : (T : Tid) (W : WorkId) (wants : List Wanted) (t : WorkerTable) → AreSo t → AreSo (after_grant T W wants t)
  granted T W wants [] k = tt
  granted T W wants (v ∷ vs) k = (by (breaks_at W wants v), granted T W wants vs k.1)
    where
      by : (o : Option LockUnit) → IsSo (broken_by T o v).phase
      by None = k.0
      by (Some u) = rules.broken u T

  at-name : (W : WorkId) (t : WorkerTable) (w : Work) → work_at W t ≡ Some w → AreSo t → IsSo w.phase
  at-name W [] w e k = absurd (none w e)
    where
      none : (w : Work) → None ≡ Some w → ⊥
      none w q = cc
  at-name W (v ∷ vs) w e k = by (work_eq v.name W) e (λ q. at-name W vs w q k.1)
    where
      some : (a b : Work) → Some a ≡ Some b → a ≡ b
      some a b q = cc

      by : (b : Bool) → (if b then Some v else work_at W vs) ≡ Some w → (work_at W vs ≡ Some w → IsSo w.phase) → IsSo w.phase
      by true q again = subst (λ (z : Work). IsSo z.phase) (some v w q) k.0
      by false q again = again q

  of-tid : (T : Tid) (t : WorkerTable) (w : Work) → work_of T t ≡ Some w → AreSo t → IsSo w.phase
  of-tid T [] w e k = absurd (none w e)
    where
      none : (w : Work) → None ≡ Some w → ⊥
      none w q = cc
  of-tid T (v ∷ vs) w e k = by (tid_eq v.tid T) e (λ q. of-tid T vs w q k.1)
    where
      some : (a b : Work) → Some a ≡ Some b → a ≡ b
      some a b q = cc

      by : (b : Bool) → (if b then Some v else work_of T vs) ≡ Some w → (work_of T vs ≡ Some w → IsSo w.phase) → IsSo w.phase
      by true q again = subst (λ (z : Work). IsSo z.phase) (some v w q) k.0
      by false q again = again q

  pub joined : (t u : WorkerTable) → AreSo t → AreSo u → AreSo (t ++ u)
  joined [] u h k = k
  joined (w ∷ ws) u h k = (h.0, joined ws u h.1 k)

  -- ---- rows

  abbrev pub Keeps : RowOutcome WorkerTable → Type 0
  Keeps row = AreSo row.table × (list_all may row.changes ≡ true)

  either : (b : Bool) (p q : RowOutcome WorkerTable) → Keeps p → Keeps q → Keeps (if b then p else q)
  either true p q h l = h
  either false p q h l = l

  one : (x : Change) → may x ≡ true → list_all may (x ∷ []) ≡ true
  one x h = grind (arith, h)

  module _ (t : WorkerTable) (h : AreSo t) (s : WorkStorage) (k : Tickets) where
    opens : (c : ClientNo) (request : RequestNo) (T : Tid) (o : Option Work) → Keeps (open_row t k c request T o)
    opens c request T (Some w) = (h, refl)
    opens c request T None = either (nat_lt (length t) most_works) _ _ (joined t (new_work (name_from k) T ∷ []) h (rules.new (name_from k) T, tt), refl) (h, refl)

    module _ (q : Asked) (r : BlockInRange q.op) where
      abbrev here : Here
      here = record { table = t; files = s.state.files; tickets = k }

      grants : (w : Work) (a : ActiveWork) (answer : Answer) → IsSo (Active a) → (o : Option Answer) → Keeps (granted_row here q w a answer (wants_of q.op (is_fit answer)) o)
      grants w a answer i (Some refusal) = (with-phase w.name _ t (rules.refused a refusal i) h, refl)
      grants w a answer i None =
          (with-phase w.name _ (after_grant w.tid w.name (wants_of q.op (is_fit answer)) t) (rules.done a q.op answer r i) (granted w.tid w.name (wants_of q.op (is_fit answer)) t h), refl)

      repeats : (o : Option Answer) → Keeps (repeated here q o)
      repeats (Some answer) = (h, refl)
      repeats None = (h, refl)

      operates : (w : Work) (p : Phase) → IsSo p → Keeps (op_phase here q w p)
      operates w (Active a) i = let answer = answer_to q.op (change (list_change a.list) s.state.files) in
          either (nat_eq q.number.0 (a.last + 1)) _ _ (grants w a answer i (refusal_of t w.name a q.op answer (wants_of q.op (is_fit answer))))
          (either (nat_eq q.number.0 a.last) _ _ (repeats a.kept) (h, refl))
      operates w (Broken u by) i = (h, refl)
      operates w (Stored p) i = (h, refl)

      all-operate : (W : WorkId) (o : Option Work) → work_at W t ≡ o → Keeps (op_row here q W o)
      all-operate W (Some w) e = operates w w.phase (at-name W t w e h)
      all-operate W None e = (h, refl)

    votes-on : (T : Tid) (c : ClientNo) (w : Work) (a : ActiveWork) → IsSo (Active a) → (v : Vote) → Keeps (prepared_row t k T c w a v)
    votes-on T c w a i votes.Ready =
        (with-phase w.name _ (after_grant w.tid w.name (commit_wants a.writes) t) (rules.stored a i) (granted w.tid w.name (commit_wants a.writes) t h), one _ (rules.adds c w a i))
    votes-on T c w a i (votes.Waiting u by) = (h, refl)
    votes-on T c w a i (votes.Broken u by) = (h, refl)
    votes-on T c w a i (votes.Lost m n) = (h, refl)
    votes-on T c w a i (votes.Full m n o) = (h, refl)

    prepares : (T : Tid) (c : ClientNo) (w : Work) (p : Phase) → IsSo p → Keeps (prepare_phase t s k T c w p)
    prepares T c w (Active a) i = votes-on T c w a i (vote_of (conflict w.name (commit_wants a.writes) t) (shortage s.free (need_in s.maps s.state.files a.list)))
    prepares T c w (Broken u by) i = (h, refl)
    prepares T c w (Stored p) i = either (is_going (s.state.works w.name)) _ _ (h, refl) (h, refl)

    all-prepare : (T : Tid) (c : ClientNo) (W : WorkId) (o : Option Work) → work_at W t ≡ o → Keeps (prepare_row t s k T c W o)
    all-prepare T c W (Some w) e = prepares T c w w.phase (at-name W t w e h)
    all-prepare T c W None e = (h, refl)

    commits : (W : WorkId) (p : Phase) → Keeps (commit_phase t s k W p)
    commits W (Stored p) = either (is_going (s.state.works W)) _ _ (h, refl) (h, one _ (rules.marks W))
    commits W (Active a) = (h, refl)
    commits W (Broken u by) = (h, refl)

    all-commit : (T : Tid) (W : WorkId) (o : Option Work) → Keeps (commit_row t s k T W o)
    all-commit T W (Some w) = commits W w.phase
    all-commit T W None = (h, refl)

    drops : (W : WorkId) (p : Phase) → Keeps (drop_phase t s k W p)
    drops W (Stored p) = either (is_going (s.state.works W)) _ _ (h, refl) (less W t h, one _ (rules.removes W))
    drops W (Active a) = (less W t h, refl)
    drops W (Broken u by) = (less W t h, refl)

    all-drop : (W : WorkId) (o : Option Work) → Keeps (drop_row t s k W o)
    all-drop W (Some w) = drops W w.phase
    all-drop W None = (h, refl)

    pub row-keeps : (m : Message) → InRange m → Keeps (worker_row t s k m)
    row-keeps (messages.Open c request T) r = opens c request T (work_of T t)
    row-keeps (messages.Op c request W number op) r = all-operate (record { client = c; request = request; number = number; op = op }) r W (work_at W t) refl
    row-keeps (messages.Prepare T c W) r = all-prepare T c W (work_at W t) refl
    row-keeps (messages.Commit T W) r = all-commit T W (work_at W t)
    row-keeps (messages.Drop T W) r = all-drop W (work_at W t)
    row-keeps m r = (h, refl)

    carried : (w : Work) (o : Option Intention) → Keeps (carried_row t k w o)
    carried w (Some i) = (h, one _ (rules.carries w.name i))
    carried w None = (less w.name t h, one _ (rules.removes w.name))

    pub step-keeps : (row : RowOutcome WorkerTable) → worker_step t s k ≡ Some row → Keeps row
    step-keeps row e = by (going_work s.state t) e
      where
        some : {a b : RowOutcome WorkerTable} → Some a ≡ Some b → a ≡ b
        some q = cc

        rest : (b : Bool) → (if b then Some (record { table = t; changes = []; messages = []; notes = []; tickets = k }) else None) ≡ Some row → Keeps row
        rest true q = subst Keeps (some q) (h, refl)
        rest false q = absurd (none q)
          where
            none : None ≡ Some row → ⊥
            none z = cc

        by : (o : Option Work) → going_row t s k o ≡ Some row → Keeps row
        by (Some w) q = subst Keeps (some q) (carried w (slice_get (intentions_of (s.state.works w.name)) (s.next w.name)))
        by None q = rest s.rubbish q

  -- a work that gives way from now on
  pub timeout-keeps : (t : WorkerTable) (T : Tid) (u : WorkerTable) → AreSo t → timeout_row t T ≡ Some u → AreSo u
  timeout-keeps t T u h e = by (work_of T t) refl e
    where
      some : {a b : WorkerTable} → Some a ≡ Some b → a ≡ b
      some q = cc

      none : None ≡ Some u → ⊥
      none q = cc

      by : (o : Option Work) → work_of T t ≡ o → timed_out t o ≡ Some u → AreSo u
      by None f q = absurd (none q)
      by (Some w) f q = subst AreSo (some q) (with-phase w.name (vulnerable w.phase) t (rules.vulnerable w.phase (of-tid T t w f h)) h)

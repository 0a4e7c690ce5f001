-- Each row of a worker keeps what holds of its works and locks.
use Rattle.jn_system.proofs.Common.{◌≡◌, ◌≢◌, ◌⊎◌, inl, inr, ℕ, zero, suc, Bool, true, false, List, [], ◌∷◌, take, Option, Some, None, refl, sym, ◌∙◌, subst, arith, ◌||◌, if◌then◌else◌, WorkId, Tickets, LockUnit, Op, Answer, Intention, InOrder, intention_for, Mode, Read, IntentionWrite, Commit, is_unit, Work, Phase, Active, Stored, ActiveWork, StableState, Prepared, Change, made_all, is_going, next_after, RowOutcome, WorkerTable, Wanted, units_for, with_units, wants_of, commit_wants, holds, work_at, with_phase, after_grant, conflict, list_after, is_fit, written_unit, HoldsForCommit, HasRead, file_unit, found-name, IsSoundWork, IsSoundActive, IsSoundPrepared, ReadFiles, TableFact}
use Rattle.jn_rows.specs.Worker.{done}
use Rattle.jn_records.proofs.EditLemmas.{edited-in_order}
use Rattle.jn_system.proofs.WholeSystem.Granted.{phase_changed, granted}
use Rattle.jn_system.proofs.WholeSystem.Keeping.{kept}
use Rattle.jn_system.proofs.WholeSystem.Units.{with_units-is, wants-file, reads-file, writes-wanted, units-more, commit_wants-are}

-- what a row keeps: it has one change at most
pub record RowKeeps (x : StableState) (k : Tickets) (row : RowOutcome WorkerTable) : Type 0 where
  pub table : TableFact row.table row.tickets (made_all row.changes x).works
  pub server : row.tickets.server ≡ k.server
  pub epoch : row.tickets.epoch ≡ k.epoch
  pub same_epoch : (made_all row.changes x).epoch ≡ x.epoch
  pub few : (n : ℕ) → (take n row.changes ≡ []) ⊎ (take n row.changes ≡ row.changes)
  -- nothing counts as carried out of a work that isn't going
  pub idle : (next : WorkId → ℕ) → ((V : WorkId) → is_going (x.works V) ≡ false → next V ≡ 0) → (V : WorkId) → is_going ((made_all row.changes x).works V) ≡ false → next_after row.changes next V ≡ 0

pub none-of : (changes : List Change) (n : ℕ) → changes ≡ [] → (take n changes ≡ []) ⊎ (take n changes ≡ changes)
none-of [] zero e = inl refl
none-of [] (suc n) e = inl refl
none-of (c ∷ changes) n e = absurd (grind arith)

pub one-of : (c : Change) (n : ℕ) → (take n (c ∷ []) ≡ []) ⊎ (take n (c ∷ []) ≡ c ∷ [])
one-of c zero = inl refl
one-of c (suc zero) = inr refl
one-of c (suc (suc n)) = inr refl

-- the name of a work that was found
pub by-name : (W : WorkId) (t : WorkerTable) (w : Work) → work_at W t ≡ Some w → work_at w.name t ≡ Some w
by-name W t w h = subst (λ (N : WorkId). work_at N t ≡ Some w) (sym (found-name W t w h)) h

-- ---- an operation

is-either : (a b : Bool) (P : Type 0) → (a || b) ≡ true → (a ≡ true → P) → (b ≡ true → P) → P
is-either true b P h f g = f refl
is-either false b P h f g = g h

left : (a b : Bool) → a ≡ true → (a || b) ≡ true
left a b h = grind arith

right : (a b : Bool) → b ≡ true → (a || b) ≡ true
right a b h = grind arith

-- what is held now was held or is wanted
done-holds : (a : ActiveWork) (op : Op) (answer : Answer) (wants : List Wanted) (u : LockUnit) (m : Mode) → holds (Active (done a op answer wants)) u m ≡ true
    → (holds (Active a) u m ≡ true) ⊎ (is_unit (units_for m wants) u ≡ true)
done-holds a op answer wants u Read h = is-either (is_unit (units_for Read wants) u) (is_unit a.reads u) _ (sym (with_units-is (units_for Read wants) a.reads u) ∙ h) (λ e. inr e) (λ e. inl e)
done-holds a op answer wants u IntentionWrite h = is-either (is_unit (units_for IntentionWrite wants) u) (is_unit a.writes u) _ (sym (with_units-is (units_for IntentionWrite wants) a.writes u) ∙ h) (λ e. inr e) (λ e. inl e)
done-holds a op answer wants u Commit h = absurd (grind arith)

list-in_order : (o : Option Intention) (op : Op) (list : List Intention) → intention_for list op ≡ o → InOrder list → InOrder (list_after o op list)
list-in_order None op list e h = h
list-in_order (Some new) op list e h = edited-in_order op list new e h

list-units : (o : Option Intention) (op : Op) (list : List Intention) (u : LockUnit) → intention_for list op ≡ o → HoldsForCommit (list_after o op list) u
    → (is_unit (units_for IntentionWrite (wants_of op true)) u ≡ true) ⊎ HoldsForCommit list u
list-units None op list u e h = inr h
list-units (Some new) op list u e h = by (units-more op list new u h)
  where
    by : (written_unit new.what new.file new.block ≡ u) ⊎ HoldsForCommit list u → (is_unit (units_for IntentionWrite (wants_of op true)) u ≡ true) ⊎ HoldsForCommit list u
    by (inl p) = inl (subst (λ (x : LockUnit). is_unit (units_for IntentionWrite (wants_of op true)) x ≡ true) p (writes-wanted op list new e))
    by (inr p) = inr p

done-covers : (a : ActiveWork) (op : Op) (answer : Answer) (fit : Bool) → is_fit answer ≡ fit → ((u : LockUnit) → HoldsForCommit a.list u → is_unit a.writes u ≡ true)
    → (u : LockUnit) → HoldsForCommit (if fit then list_after (intention_for a.list op) op a.list else a.list) u → is_unit (with_units (units_for IntentionWrite (wants_of op fit)) a.writes) u ≡ true
done-covers a op answer true e covers u h = with_units-is (units_for IntentionWrite (wants_of op true)) a.writes u ∙ by (list-units (intention_for a.list op) op a.list u refl h)
  where
    by : (is_unit (units_for IntentionWrite (wants_of op true)) u ≡ true) ⊎ HoldsForCommit a.list u → (is_unit (units_for IntentionWrite (wants_of op true)) u || is_unit a.writes u) ≡ true
    by (inl p) = left (is_unit (units_for IntentionWrite (wants_of op true)) u) (is_unit a.writes u) p
    by (inr p) = right (is_unit (units_for IntentionWrite (wants_of op true)) u) (is_unit a.writes u) (covers u p)
done-covers a op answer false e covers u h = with_units-is (units_for IntentionWrite (wants_of op false)) a.writes u ∙ right (is_unit (units_for IntentionWrite (wants_of op false)) u) (is_unit a.writes u) (covers u h)

done-files : (a : ActiveWork) (op : Op) (fit : Bool) → ReadFiles a.reads a.writes
    → ReadFiles (with_units (units_for Read (wants_of op fit)) a.reads) (with_units (units_for IntentionWrite (wants_of op fit)) a.writes)
done-files a op fit files u = λ h. with_units-is (units_for Read (wants_of op fit)) a.reads (file_unit u) ∙ by h
  where
    wanted : (m : Mode) → is_unit (units_for m (wants_of op fit)) u ≡ true → (is_unit (units_for Read (wants_of op fit)) (file_unit u) || is_unit a.reads (file_unit u)) ≡ true
    wanted m e = left (is_unit (units_for Read (wants_of op fit)) (file_unit u)) (is_unit a.reads (file_unit u))
        (subst (λ (x : LockUnit). is_unit (units_for Read (wants_of op fit)) x ≡ true) (sym (wants-file op fit m u e)) (reads-file op fit))

    old : HasRead a.reads u ⊎ (is_unit a.writes u ≡ true) → (is_unit (units_for Read (wants_of op fit)) (file_unit u) || is_unit a.reads (file_unit u)) ≡ true
    old h = right (is_unit (units_for Read (wants_of op fit)) (file_unit u)) (is_unit a.reads (file_unit u)) (files u h)

    by : HasRead (with_units (units_for Read (wants_of op fit)) a.reads) u ⊎ (is_unit (with_units (units_for IntentionWrite (wants_of op fit)) a.writes) u ≡ true)
        → (is_unit (units_for Read (wants_of op fit)) (file_unit u) || is_unit a.reads (file_unit u)) ≡ true
    by (inl h) = is-either (is_unit (units_for Read (wants_of op fit)) u) (is_unit a.reads u) _ (sym (with_units-is (units_for Read (wants_of op fit)) a.reads u) ∙ h) (wanted Read) (λ e. old (inl e))
    by (inr h) = is-either (is_unit (units_for IntentionWrite (wants_of op fit)) u) (is_unit a.writes u) _ (sym (with_units-is (units_for IntentionWrite (wants_of op fit)) a.writes u) ∙ h) (wanted IntentionWrite) (λ e. old (inr e))

pub done-sound : (stored : Option Prepared) (a : ActiveWork) (op : Op) (answer : Answer) → IsSoundActive stored a → IsSoundActive stored (done a op answer (wants_of op (is_fit answer)))
done-sound stored a op answer h = record {
  not_stored = h.not_stored;
  in_order = ordered (is_fit answer);
  covers = done-covers a op answer (is_fit answer) refl h.covers;
  files = done-files a op (is_fit answer) h.files;
}
  where
    ordered : (b : Bool) → InOrder (if b then list_after (intention_for a.list op) op a.list else a.list)
    ordered true = list-in_order (intention_for a.list op) op a.list refl h.in_order
    ordered false = h.in_order

-- ---- tables

module _ (W : WorkId) (w : Work) (t : WorkerTable) (k : Tickets) (stored : WorkId → Option Prepared) (fact : TableFact t k stored) (found : work_at W t ≡ Some w) where
  named : work_at w.name t ≡ Some w
  named = by-name W t w found

  -- a work in another phase that holds no more
  pub phase-keeps : (phase : Phase) → ((u : LockUnit) (m : Mode) → holds phase u m ≡ true → holds w.phase u m ≡ true) → (IsSoundWork (stored w.name) w.tid w.phase → IsSoundWork (stored w.name) w.tid phase)
      → TableFact (with_phase w.name phase t) k stored
  phase-keeps phase less sound = kept w.name [] phase t (with_phase w.name phase t) k stored stored w (phase_changed w.name phase t) fact named
      (λ u m h. inl (less u m h)) (λ V ne. refl) (sound (fact.sound w.name w named))

  pub done-keeps : (a : ActiveWork) (op : Op) (answer : Answer) → w.phase ≡ Active a → conflict w.name (wants_of op (is_fit answer)) t ≡ None
      → TableFact (with_phase w.name (Active (done a op answer (wants_of op (is_fit answer)))) (after_grant w.tid w.name (wants_of op (is_fit answer)) t)) k stored
  done-keeps a op answer e free = kept w.name (wants_of op (is_fit answer)) (Active (done a op answer (wants_of op (is_fit answer)))) t _ k stored stored w
      (granted w.tid w.name (wants_of op (is_fit answer)) (Active (done a op answer (wants_of op (is_fit answer)))) t free) fact named
      (λ u m h. subst (λ (p : Phase). (holds p u m ≡ true) ⊎ (is_unit (units_for m (wants_of op (is_fit answer))) u ≡ true)) (sym e) (done-holds a op answer (wants_of op (is_fit answer)) u m h))
      (λ V ne. refl) (done-sound (stored w.name) a op answer (subst (λ (p : Phase). IsSoundWork (stored w.name) w.tid p) e (fact.sound w.name w named)))

  -- a prepared work
  pub prepared-keeps : (a : ActiveWork) (after : WorkId → Option Prepared) (p : Prepared) → w.phase ≡ Active a → conflict w.name (commit_wants a.writes) t ≡ None
      → ((V : WorkId) → w.name ≢ V → after V ≡ stored V) → after w.name ≡ Some p → p.tid ≡ w.tid → p.reads ≡ a.reads → p.list ≡ a.list
      → TableFact (with_phase w.name (Stored (record { reads = a.reads; writes = a.writes })) (after_grant w.tid w.name (commit_wants a.writes) t)) k after
  prepared-keeps a after p e free others is tid reads list = kept w.name (commit_wants a.writes) (Stored (record { reads = a.reads; writes = a.writes })) t _ k stored after w
      (granted w.tid w.name (commit_wants a.writes) (Stored (record { reads = a.reads; writes = a.writes })) t free) fact named
      (λ u m h. mine u m h) others sound
    where
      active : IsSoundActive (stored w.name) a
      active = subst (λ (p : Phase). IsSoundWork (stored w.name) w.tid p) e (fact.sound w.name w named)

      mine : (u : LockUnit) (m : Mode) → holds (Stored (record { reads = a.reads; writes = a.writes })) u m ≡ true → (holds w.phase u m ≡ true) ⊎ (is_unit (units_for m (commit_wants a.writes)) u ≡ true)
      mine u Read h = inl (subst (λ (p : Phase). holds p u Read ≡ true) (sym e) h)
      mine u IntentionWrite h = absurd (grind arith)
      mine u Commit h = inr (commit_wants-are a.writes u ∙ h)

      sound : IsSoundPrepared (after w.name) w.tid (record { reads = a.reads; writes = a.writes })
      sound = record {
        work = p;
        is = is;
        same_tid = tid;
        reads = reads;
        covers = λ u h. active.covers u (subst (λ (l : List Intention). HoldsForCommit l u) list h);
        files = active.files;
      }

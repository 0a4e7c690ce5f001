-- A going work is carried on.
use Rattle.jn_worker.proofs.Common.{◌≡◌, ◌≢◌, Bool, true, false, List, [], ◌∷◌, ◌++◌, Option, Some, None, map, refl, sym, ◌∙◌, ap, subst, arith, true≢false, Result, Ok, Err, is_some, not, ◌&&◌, ◌||◌, filter, if◌then◌else◌, append-nil, Stopped, Tid, Tickets, WorkId, LockUnit, Server, work_eq, work_tells, change, Intention, intention_change, Read, Commit, Table, IsCompatible, is_unit, unit_eq, unit_tells, Collected, Work, Phase, ActiveWork, Active, Broken, Stored, Prepared, CarryOut, RemoveWork, made_by, is_going, WorkerTable, work_at, without, new_work, carried_row, holds, LocksMatch, are_rising, held_in, is_in, unit_of, StorageView, intentions_of, state, IsGoing, next_of, StepApplied, CountsOn, WorkRemoved, CallFault, Stops, Memory, WorkerView, Fits, TicketsFit, WorkFits, PhaseFits, WorkListFits, ListFits, are_written, Takes}
use Rattle.std.specs.Prelude.{slice_get}
use Rattle.jn_msgs.specs.declared.message.Message.TheVariants as messages
use Rattle.jn_storage.proofs.Kept.{AreApart, prepared-carried}
use Rattle.jn_worker.proofs.Counts.{counts_on, counts_off}
use Rattle.jn_worker.proofs.Exits.{one_stopped, one_untold, one_made}
use Rattle.jn_worker.proofs.Fit.{name-later, fits_removed, tickets_removed}

-- ---- the next intention

-- the units of a stored list are written units of its work
pub written-among : (units : List LockUnit) (list : List Intention) (u : LockUnit) → are_written units list ≡ true → is_unit (map unit_of list) u ≡ true → is_unit units u ≡ true
written-among units [] u h e = absurd (cc e)
written-among units (i ∷ list) u h e = by (unit_eq (unit_of i) u) refl (written-among units list u) h e
  where
    by : (b : Bool) → unit_eq (unit_of i) u ≡ b → (are_written units list ≡ true → is_unit (map unit_of list) u ≡ true → is_unit units u ≡ true) → (is_unit units (unit_of i) && are_written units list) ≡ true → (b || is_unit (map unit_of list) u) ≡ true → is_unit units u ≡ true
    by true e again h f = subst (λ v. is_unit units v ≡ true) (same e) (grind (arith, h))
      where
        same : unit_eq (unit_of i) u ≡ true → unit_of i ≡ u
        same e = let t = unit_tells (unit_of i) u in grind (arith, e)
    by false e again h f = again (grind (arith, h)) f

-- an active work has read nothing that a prepared one writes
apart-locks : (t : WorkerTable) (l : Table) (W V : WorkId) (w v : Work) (p : Prepared) (a : ActiveWork) → LocksMatch t l → IsCompatible l → W ≢ V → work_at W t ≡ Some w → PhaseFits w.phase w.tid (Some p) → work_at V t ≡ Some v → v.phase ≡ Active a → AreApart p.list a.reads
apart-locks t l W V w v p a h compatible other at fits there active u c r = true≢false (sym (compatible W V other u Commit Read (h.locks W u Commit ∙ (ap (λ o. held_in o u Commit) at ∙ commits w.phase fits)) (h.locks V u Read ∙ (ap (λ o. held_in o u Read) there ∙ reads))))
  where
    commits : (phase : Phase) → PhaseFits phase w.tid (Some p) → holds phase u Commit ≡ true
    commits (Stored q) f = written-among q.writes p.list u f.writes c
    commits (Active b) f = absurd f
    commits (Broken x y) f = absurd f

    reads : holds v.phase u Read ≡ true
    reads = subst (λ phase. holds phase u Read ≡ true) (sym active) r

-- an intention of a going work is carried out
pub fits_carried : (t : WorkerView) (v w : StorageView) (l : Table) (W : WorkId) (i : Intention) → Fits t v → LocksMatch t.table l → IsCompatible l → IsGoing v W → next_of v W ≡ Some i → StepApplied v W (Ok true) w → Fits t w
fits_carried t v w l W i h locks compatible going next s = record {
  serving = s.called.serving refl;
  few = h.few;
  stored = λ V. subst (λ x. WorkFits (work_at V t.table) (x.works V)) (sym now) (h.stored V);
  going = λ V. h.going V ∙ ap (λ x. is_going (x.works V)) (sym now);
  lists = λ V. subst (λ x. WorkListFits x.files (work_at V t.table)) (sym now) (listed V (work_at V t.table) refl (h.lists V));
  names = λ V n. name-later v w s.called.later.server (ap (λ x. x.epoch) now) V (ap (λ r. is_in work_eq V r) kept.rubbish ∙ (h.names V n).no_rubbish) (h.names V n);
}
  where
    now : state w ≡ made_by (CarryOut W i) (state v)
    now = (s.carried i next).done refl (λ n. false)

    kept : CountsOn v.accounts W i w.accounts
    kept = (s.done i next refl).1

    listed : (V : WorkId) (o : Option Work) → work_at V t.table ≡ o → WorkListFits (state v).files o → WorkListFits (change (intention_change i) (state v).files) o
    listed V None e f = f
    listed V (Some x) e f = by x.phase refl f
      where
        by : (phase : Phase) → x.phase ≡ phase → ListFits (state v).files phase → ListFits (change (intention_change i) (state v).files) phase
        by (Broken u T) p f = f
        by (Stored q) p f = f
        by (Active a) p f = with_work ((state v).works W) refl going (work_at W t.table) refl
          where
            with_work : (q : Option Prepared) → (state v).works W ≡ q → is_going q ≡ true → (o : Option Work) → work_at W t.table ≡ o → ListFits (change (intention_change i) (state v).files) (Active a)
            with_work None m g o at = absurd (cc g)
            with_work (Some q) m g None at = absurd (subst (λ p. WorkFits None p) m (subst (λ o. WorkFits o ((state v).works W)) at (h.stored W)))
            with_work (Some q) m g (Some w) at = record {
              prepared = prepared-carried i (v.accounts.next W) (state v).files q.list a.list a.reads (sym (ap (λ p. slice_get (intentions_of p) (v.accounts.next W)) m) ∙ next)
                  (apart-locks t.table l W V w x q a locks compatible (other w at here) at here e p) f.prepared;
              writes = f.writes;
            }
              where
                here : PhaseFits w.phase w.tid (Some q)
                here = subst (λ p. PhaseFits w.phase w.tid p) m (subst (λ o. WorkFits o ((state v).works W)) at (h.stored W))

                other : (w : Work) → work_at W t.table ≡ Some w → PhaseFits w.phase w.tid (Some q) → W ≢ V
                other w at here same = not_active w.phase (ap (λ (y : Work). y.phase) (is_same w (sym at ∙ (ap (λ U. work_at U t.table) same ∙ e))) ∙ p) here
                  where
                    is_same : (w : Work) → Some w ≡ Some x → w ≡ x
                    is_same w h = cc

                    not_active : (phase : Phase) → phase ≡ Active a → PhaseFits phase w.tid (Some q) → ⊥
                    not_active (Stored r) e f = cc e
                    not_active (Active b) e f = f
                    not_active (Broken y z) e f = f

tickets_carried : (t : WorkerTable) (v w : StorageView) (W : WorkId) (i : Intention) (k : Tickets) → next_of v W ≡ Some i → StepApplied v W (Ok true) w → TicketsFit t v k → TicketsFit t w k
tickets_carried t v w W i k next s h = record {
  server = h.server ∙ sym s.called.later.server;
  epoch = h.epoch ∙ sym (ap (λ x. x.epoch) ((s.carried i next).done refl (λ n. false)));
  live = h.live;
  rubbish = λ V e. h.rubbish V (sym (ap (λ r. is_in work_eq V r) (s.done i next refl).1.rubbish) ∙ e);
}

abbrev told : Result Bool Stopped → Bool
told (Ok b) = b
told (Err e) = false

abbrev answer_of : Bool → Result Bool Stopped
answer_of b = Ok b

wrong : answer_of true ≡ answer_of false → ⊥
wrong e = true≢false (ap told e)

-- stopped while an intention is carried out
pub carry_stopped : (t : WorkerView) (v w : StorageView) (before : Collected) (k : Tickets) (W : WorkId) (T : Tid) (answer : Result (Unit {0}) CallFault) (e : Stopped) → answer ≡ Err Stops → StepApplied v W (Err e) w
    → Takes 32 (carried_row t.table k (new_work W T) (next_of v W)) t v before k answer t w before k
carry_stopped t v w before k W T answer e is s = subst (λ answer. Takes 32 (carried_row t.table k (new_work W T) (next_of v W)) t v before k answer t w before k) (sym is) (by (next_of v W) refl)
  where
    none : (r : Result Bool Stopped) → r ≡ Err e → r ≡ Ok false → ⊥
    none r a b = cc (sym a ∙ b)

    by : (o : Option Intention) → next_of v W ≡ o → Takes {A = Unit {0}} 32 (carried_row t.table k (new_work W T) o) t v before k (Err Stops) t w before k
    by None n = absurd (none (Err e) refl (s.none_left n).0)
    by (Some i) n = one_stopped _ t t v w before before k k (CarryOut W i) 32 refl (omega arith) s.called (s.carried i n) refl

-- an intention is carried out
pub carry_made : (t : WorkerView) (v w : StorageView) (before : Collected) (k : Tickets) (W : WorkId) (T : Tid) (l : Table) → Fits t v → LocksMatch t.table l → IsCompatible l → IsGoing v W → StepApplied v W (Ok true) w
    → Takes 32 (carried_row t.table k (new_work W T) (next_of v W)) t v before k (Ok (tt {0})) t w before k
carry_made t v w before k W T l h locks compatible going s = by (next_of v W) refl
  where
    by : (o : Option Intention) → next_of v W ≡ o → Takes 32 (carried_row t.table k (new_work W T) o) t v before k (Ok (tt {0})) t w before k
    by None n = absurd (wrong (s.none_left n).0)
    by (Some i) n = one_made (tt {0}) _ t t v w before before k k (CarryOut W i) 32 refl (omega arith) s.called (s.carried i n) refl (sym (append-nil before.messages)) (sym (append-nil before.notes)) refl
        (fits_carried t v w l W i h locks compatible going n s) (tickets_carried t.table v w W i k n s) (counts_on (state v) W i v.accounts w.accounts (s.done i n refl).1)

-- nothing is left, and nothing has happened
pub nothing_left : (v w : StorageView) (W : WorkId) → StepApplied v W (Ok false) w → (next_of v W ≡ None) × (w ≡ v)
nothing_left v w W s = by (next_of v W) refl
  where
    by : (o : Option Intention) → next_of v W ≡ o → (o ≡ None) × (w ≡ v)
    by None n = (refl, (s.none_left n).1)
    by (Some i) n = absurd (wrong (sym (s.done i n refl).0))

-- ---- the work is over

over-row : (t : WorkerTable) (v : StorageView) (k : Tickets) (W : WorkId) (T : Tid) → next_of v W ≡ None → carried_row t k (new_work W T) (next_of v W) ≡ carried_row t k (new_work W T) None
over-row t v k W T n = ap (λ o. carried_row t k (new_work W T) o) n

-- stopped while the work is forgotten
pub over_stopped : (t u : WorkerView) (v x w : StorageView) (before : Collected) (k : Tickets) (W : WorkId) (T : Tid) (answer : Result (Unit {0}) CallFault) → answer ≡ Err Stops → StepApplied v W (Ok false) x → WorkRemoved x W false w
    → Takes 32 (carried_row t.table k (new_work W T) (next_of v W)) t v before k answer u w before k
over_stopped t u v x w before k W T answer is s m = let left = nothing_left v x W s in
    subst (λ row. Takes 32 row t v before k answer u w before k) (sym (over-row t.table v k W T left.0)) (subst (λ answer. Takes {A = Unit {0}} 32 (carried_row t.table k (new_work W T) None) t v before k answer u w before k) (sym is)
    (subst (λ x. WorkRemoved x W false w → Takes {A = Unit {0}} 32 (carried_row t.table k (new_work W T) None) t v before k (Err Stops) u w before k) (sym left.1)
    (λ m. one_stopped _ t u v w before before k k (RemoveWork W) 16 refl (omega arith) m.called m.change refl) m))

-- without memory for its message
pub over_untold : (t u : WorkerView) (v x w : StorageView) (before after : Collected) (k : Tickets) (W : WorkId) (T : Tid) (answer : Result (Unit {0}) CallFault) → answer ≡ Err Memory → StepApplied v W (Ok false) x → WorkRemoved x W true w
    → Takes 32 (carried_row t.table k (new_work W T) (next_of v W)) t v before k answer u w after k
over_untold t u v x w before after k W T answer is s m = let left = nothing_left v x W s in
    subst (λ row. Takes 32 row t v before k answer u w after k) (sym (over-row t.table v k W T left.0)) (subst (λ answer. Takes {A = Unit {0}} 32 (carried_row t.table k (new_work W T) None) t v before k answer u w after k) (sym is)
    (subst (λ x. WorkRemoved x W true w → Takes {A = Unit {0}} 32 (carried_row t.table k (new_work W T) None) t v before k (Err Memory) u w after k) (sym left.1)
    (λ m. one_untold _ t u v w before after k k (RemoveWork W) 16 refl (omega arith) m.called m.change) m))

in-less : (W V : WorkId) (xs : List WorkId) → is_in work_eq V (filter (λ (other : WorkId). not (work_eq W other)) xs) ≡ (is_in work_eq V xs && not (work_eq W V))
in-less W V [] = refl
in-less W V (x ∷ xs) = by (work_eq W x) refl (in-less W V xs)
  where
    by : (b : Bool) → work_eq W x ≡ b → is_in work_eq V (filter (λ (other : WorkId). not (work_eq W other)) xs) ≡ (is_in work_eq V xs && not (work_eq W V))
        → is_in work_eq V (if not b then x ∷ filter (λ (other : WorkId). not (work_eq W other)) xs else filter (λ (other : WorkId). not (work_eq W other)) xs) ≡ ((work_eq x V || is_in work_eq V xs) && not (work_eq W V))
    by b e again = let t = work_tells W x in let u = work_tells x V in let s = work_tells W V in grind (arith, e)

-- the work is over, and its coordinator told
pub over_made : (t : WorkerView) (ws left : List Work) (gs others : List WorkId) (v x w : StorageView) (before after : Collected) (k : Tickets) (W : WorkId) (T : Tid) → record { table = ws; going = gs } ≡ t → Fits t v → are_rising ws ≡ true → is_some (work_at W t.table) ≡ true
    → StepApplied v W (Ok false) x → WorkRemoved x W true w → left ≡ without W ws → others ≡ filter (λ (other : WorkId). not (work_eq W other)) gs → after.notes ≡ before.notes → after.messages ≡ before.messages ++ (Server T.server, messages.Done T W) ∷ []
    → Takes 32 (carried_row t.table k (new_work W T) (next_of v W)) t v before k (Ok (tt {0})) (record { table = left; going = others }) w after k
over_made t ws left gs others v x w before after k W T e h rising live s m less fewer notes sent =
    subst (λ row. Takes 32 row t v before k (Ok (tt {0})) (record { table = left; going = others }) w after k) (sym (over-row t.table v k W T (nothing_left v x W s).0))
    (subst (λ x. WorkRemoved x W true w → Takes 32 (carried_row t.table k (new_work W T) None) t v before k (Ok (tt {0})) (record { table = left; going = others }) w after k) (sym (nothing_left v x W s).1)
    (λ m. subst (λ (t : WorkerView). Fits t v → is_some (work_at W t.table) ≡ true → Takes 32 (carried_row t.table k (new_work W T) None) t v before k (Ok (tt {0})) (record { table = left; going = others }) w after k) e
    (λ h live. by m h live) h live) m)
  where
    by : WorkRemoved v W true w → Fits (record { table = ws; going = gs }) v → is_some (work_at W ws) ≡ true → Takes 32 (carried_row ws k (new_work W T) None) (record { table = ws; going = gs }) v before k (Ok (tt {0})) (record { table = left; going = others }) w after k
    by m h live = one_made (tt {0}) _ (record { table = ws; going = gs }) _ v w before after k k (RemoveWork W) 16 refl (omega arith) m.called m.change less sent (notes ∙ sym (append-nil before.notes)) refl
        (subst (λ l. Fits (record { table = l; going = others }) w) (sym less) (fits_removed (record { table = ws; going = gs }) v w W others h rising (λ V. ap (λ l. is_in work_eq V l) fewer ∙ in-less W V gs) m))
        (λ f. subst (λ l. TicketsFit l w k) (sym less) (tickets_removed ws v w W k live m f)) (counts_off (state v) W v.accounts w.accounts (m.accounts refl))

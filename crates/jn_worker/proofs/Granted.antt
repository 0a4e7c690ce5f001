-- The works and the storage still fit after a grant.
use Rattle.jn_worker.proofs.Common.{◌≡◌, Bool, true, false, not, List, [], ◌∷◌, length, Option, Some, None, if◌then◌else◌, refl, sym, ◌∙◌, ap, subst, arith, ◌&&◌, is_some, LockUnit, Tid, Tickets, WorkId, work_eq, Files, Work, Phase, Active, Broken, Stored, Prepared, Wanted, WorkerTable, work_at, after_grant, breaks_at, broken_by, gives_way, collision, name_from, is_after, at-grant, once_granted, work_same, found-name, StorageView, state, WorkerView, Fits, TicketsFit, WorkFits, PhaseFits, WorkListFits, ListFits}

name-kept : (T : Tid) (o : Option LockUnit) (v : Work) → (broken_by T o v).name ≡ v.name
name-kept T None v = refl
name-kept T (Some u) v = refl

-- a work breaks only where it gives way, and so is active
broken-fits : (T : Tid) (W : WorkId) (wants : List Wanted) (v : Work) (p : Option Prepared) → PhaseFits v.phase v.tid p → PhaseFits (broken_by T (breaks_at W wants v) v).phase (broken_by T (breaks_at W wants v) v).tid p
broken-fits T W wants v p f = by (breaks_at W wants v) refl
  where
    none : (phase : Phase) → gives_way phase ≡ true → PhaseFits phase v.tid p → (u : LockUnit) → PhaseFits (Broken u T) v.tid p
    none (Active a) g f u = empty p f
      where
        empty : (p : Option Prepared) → PhaseFits (Active a) v.tid p → PhaseFits (Broken u T) v.tid p
        empty None f = f
        empty (Some q) f = f
    none (Broken x y) g f u = absurd (cc g)
    none (Stored q) g f u = absurd (cc g)

    gives : (b : Bool) (u : LockUnit) → (if b then collision v.phase wants else None) ≡ Some u → b ≡ true
    gives true u e = refl
    gives false u e = absurd (cc e)

    both : (a b : Bool) → (a && b) ≡ true → b ≡ true
    both a b h = grind (arith, h)

    by : (o : Option LockUnit) → breaks_at W wants v ≡ o → PhaseFits (broken_by T o v).phase (broken_by T o v).tid p
    by None e = f
    by (Some u) e = none v.phase (both (not (work_eq v.name W)) (gives_way v.phase) (gives (not (work_eq v.name W) && gives_way v.phase) u e)) f u

broken-list : (T : Tid) (files : Files) (o : Option LockUnit) (v : Work) → ListFits files v.phase → ListFits files (broken_by T o v).phase
broken-list T files None v f = f
broken-list T files (Some u) v f = tt

length-grant : (T : Tid) (W : WorkId) (wants : List Wanted) (ws : List Work) → length (after_grant T W wants ws) ≡ length ws
length-grant T W wants [] = refl
length-grant T W wants (w ∷ ws) = let again = length-grant T W wants ws in grind arith

after-grant : (T : Tid) (V W : WorkId) (wants : List Wanted) (ws : List Work) → is_after V (after_grant T W wants ws) ≡ is_after V ws
after-grant T V W wants [] = refl
after-grant T V W wants (w ∷ ws) = let again = after-grant T V W wants ws in let n = name-kept T (breaks_at W wants w) w in grind arith

-- the works in the way are broken
pub fits_broken : (t : WorkerView) (v : StorageView) (T : Tid) (W : WorkId) (wants : List Wanted) → Fits t v → Fits (record { table = after_grant T W wants t.table; going = t.going }) v
fits_broken t v T W wants h = record {
  serving = h.serving;
  few = omega (arith, h.few, length-grant T W wants t.table);
  stored = λ V. subst (λ o. WorkFits o ((state v).works V)) (sym (at-grant T W wants V t.table)) (stays (work_at V t.table) ((state v).works V) (h.stored V));
  going = h.going;
  lists = λ V. subst (λ o. WorkListFits (state v).files o) (sym (at-grant T W wants V t.table)) (listed (work_at V t.table) (h.lists V));
  names = λ V s. h.names V (live (work_at V t.table) (ap is_some (sym (at-grant T W wants V t.table)) ∙ s));
}
  where
    stays : (o : Option Work) (p : Option Prepared) → WorkFits o p → WorkFits (once_granted T W wants o) p
    stays None p f = f
    stays (Some x) p f = broken-fits T W wants x p f

    listed : (o : Option Work) → WorkListFits (state v).files o → WorkListFits (state v).files (once_granted T W wants o)
    listed None f = f
    listed (Some x) f = broken-list T (state v).files (breaks_at W wants x) x f

    live : (o : Option Work) → is_some (once_granted T W wants o) ≡ true → is_some o ≡ true
    live None s = s
    live (Some x) s = refl

pub tickets_broken : (t : WorkerTable) (v : StorageView) (T : Tid) (W : WorkId) (wants : List Wanted) (k : Tickets) → TicketsFit t v k → TicketsFit (after_grant T W wants t) v k
tickets_broken t v T W wants k h = record { server = h.server; epoch = h.epoch; live = after-grant T (name_from k) W wants t ∙ h.live; rubbish = h.rubbish }

-- a grant doesn't break its own work
pub granted_itself : (T : Tid) (W : WorkId) (wants : List Wanted) (t : WorkerTable) (w : Work) → work_at W t ≡ Some w → work_at W (after_grant T W wants t) ≡ Some w
granted_itself T W wants t w at = at-grant T W wants W t ∙ (ap (λ o. once_granted T W wants o) at ∙ itself)
  where
    itself : Some (broken_by T (breaks_at W wants w) w) ≡ Some w
    itself = ap (λ b. Some (broken_by T (if (not b && gives_way w.phase) then collision w.phase wants else None) w)) (ap (λ n. work_eq n W) (found-name W t w at) ∙ work_same W)

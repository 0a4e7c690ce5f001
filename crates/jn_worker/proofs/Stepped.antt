-- A step without a message.
use Rattle.jn_worker.proofs.Common.{◌≡◌, ℕ, Bool, true, false, List, [], ◌∷◌, Option, Some, None, refl, sym, ◌∙◌, ap, subst, arith, true≢false, Result, Ok, Err, is_ok, is_some, not, ◌||◌, if◌then◌else◌, append-nil, Stopped, Tickets, WorkId, work_eq, Intention, Collected, Work, RowOutcome, quiet, StableState, is_going, WorkerTable, work_at, new_work, carried_row, going_work, going_row, worker_step, are_rising, is_in, StorageView, state, next_of, Called, RecordErased, CountsErased, IsGoing, CallFault, Stops, Memory, WorkerView, Fits, TicketsFit, WorkFits, WorkListFits, seen, is_none, going_in, Takes, Steps, has_stopped, whole-stop}
use Rattle.jn_rows.specs.Performing.{Performs}
use Rattle.jn_fields.specs.Reading.{Gives}
use Rattle.jn_worker.proofs.Edits.{going_by_name}
use Rattle.jn_worker.proofs.Counts.{counts_erased}
use Rattle.jn_worker.proofs.Exits.{called-within}
use Rattle.jn_worker.proofs.Fit.{name-later}

going-same : (going : List WorkId) (x : StableState) (ws : List Work) → ((W : WorkId) → is_in work_eq W going ≡ is_going (x.works W)) → going_in going ws ≡ going_work x ws
going-same going x [] h = refl
going-same going x (w ∷ ws) h = let rest = going-same going x ws h in let e = h w.name in grind arith

abbrev erase_row : List WorkId → WorkerTable → Tickets → Option (RowOutcome WorkerTable)
erase_row rubbish t k = if not (is_none rubbish) then Some (quiet t k) else None

none-going : (t : WorkerView) (v : StorageView) (k : Tickets) → Fits t v → going_in t.going t.table ≡ None → worker_step t.table (seen v) k ≡ erase_row v.accounts.rubbish t.table k
none-going t v k h none = ap (λ o. going_row t.table (seen v) k o) (sym (going-same t.going (state v) t.table h.going) ∙ none)

-- stopped while a rubbish record is erased
pub erase_stopped : (t : WorkerView) (v w : StorageView) (before : Collected) (k : Tickets) (answer : Result Bool CallFault) (e : Stopped) → answer ≡ Err Stops → Fits t v → going_in t.going t.table ≡ None → RecordErased v (Err e) w
    → Steps (worker_step t.table (seen v) k) t v before k answer t w before k
erase_stopped t v w before k answer e is h none r = subst (λ row. Steps row t v before k answer t w before k) (sym (none-going t v k h none)) (subst (λ answer. Steps (erase_row v.accounts.rubbish t.table k) t v before k answer t w before k) (sym is) (by v.accounts.rubbish refl))
  where
    not_ok : (a : Result Bool Stopped) → a ≡ Err e → a ≡ Ok false → ⊥
    not_ok a x y = cc (sym x ∙ y)

    by : (rs : List WorkId) → v.accounts.rubbish ≡ rs → Steps (erase_row rs t.table k) t v before k (Err Stops) t w before k
    by [] m = absurd (not_ok (Err e) refl (r.none m).0)
    by (x ∷ xs) m = (
      record {
        performs = record { changes = record { done = λ e. absurd (cc e); stop = λ _ c. whole-stop (state v) [] (w.found c) 0 (r.unchanged c) }; becomes = λ e. absurd (cc e); sent = λ e. absurd (cc e); noted = λ e. absurd (cc e); drawn = λ e. absurd (cc e) };
        called = called-within v w 16 false (omega arith) r.called;
        silent = λ _. refl;
        fits = λ e. absurd (cc e);
        tickets_fit = λ e. absurd (cc e);
        counts = λ e. absurd (cc e);
      },
      λ e. absurd (cc e),
      λ _ e. absurd (cc e),
    )

-- the works fit as before, where nothing but rubbish is less
pub fits_erased : {most : ℕ} (t : WorkerView) (v w : StorageView) → Fits t v → Called v most true w → state w ≡ state v → ((V : WorkId) → is_in work_eq V w.accounts.rubbish ≡ true → is_in work_eq V v.accounts.rubbish ≡ true) → Fits t w
fits_erased t v w h called same fewer = record {
  serving = called.serving refl;
  few = h.few;
  stored = λ V. subst (λ x. WorkFits (work_at V t.table) (x.works V)) (sym same) (h.stored V);
  going = λ V. h.going V ∙ ap (λ x. is_going (x.works V)) (sym same);
  lists = λ V. subst (λ x. WorkListFits x.files (work_at V t.table)) (sym same) (h.lists V);
  names = λ V n. name-later v w called.later.server (ap (λ x. x.epoch) same) V (still V (is_in work_eq V w.accounts.rubbish) refl (h.names V n).no_rubbish) (h.names V n);
}
  where
    still : (V : WorkId) (b : Bool) → is_in work_eq V w.accounts.rubbish ≡ b → is_in work_eq V v.accounts.rubbish ≡ false → b ≡ false
    still V false e n = refl
    still V true e n = absurd (true≢false (sym (fewer V e) ∙ n))

pub tickets_erased : {most : ℕ} (t : WorkerTable) (v w : StorageView) (k : Tickets) → Called v most true w → state w ≡ state v → ((V : WorkId) → is_in work_eq V w.accounts.rubbish ≡ true → is_in work_eq V v.accounts.rubbish ≡ true) → TicketsFit t v k → TicketsFit t w k
tickets_erased t v w k called same fewer h = record { server = h.server ∙ sym called.later.server; epoch = h.epoch ∙ sym (ap (λ x. x.epoch) same); live = h.live; rubbish = λ V e. h.rubbish V (fewer V e) }

abbrev told : Result Bool Stopped → Bool
told (Ok b) = b
told (Err e) = false

abbrev old_answer : Bool → Result Bool Stopped
old_answer b = Ok b

abbrev new_answer : Bool → Result Bool CallFault
new_answer b = Ok b

-- a rubbish record is erased, if there is one
pub erase_made : (t : WorkerView) (v w : StorageView) (before : Collected) (k : Tickets) (answer : Result Bool Stopped) (b : Bool) → answer ≡ Ok b → Fits t v → going_in t.going t.table ≡ None → RecordErased v answer w → Steps (worker_step t.table (seen v) k) t v before k (Ok b) t w before k
erase_made t v w before k answer b is h none r = subst (λ row. Steps row t v before k (Ok b) t w before k) (sym (none-going t v k h none)) (by v.accounts.rubbish refl (subst (λ a. RecordErased v a w) is r))
  where
    by : (rs : List WorkId) → v.accounts.rubbish ≡ rs → RecordErased v (Ok b) w → Steps (erase_row rs t.table k) t v before k (Ok b) t w before k
    by [] m r = (ap new_answer (ap told (r.none m).0), refl, (r.none m).1, refl)
    by (x ∷ xs) m r = (
      record {
        performs = record { changes = record { done = λ _ c. r.unchanged c; stop = λ e. absurd (cc e) }; becomes = λ _. refl; sent = λ _. sym (append-nil before.messages); noted = λ _. sym (append-nil before.notes); drawn = λ _. refl };
        called = called-within v w 16 true (omega arith) r.called;
        silent = λ e. absurd (cc e);
        fits = λ _. fits_erased t v w h r.called (r.unchanged (λ n. false)) erased.1.rubbish_names;
        tickets_fit = λ _. tickets_erased t.table v w k r.called (r.unchanged (λ n. false)) erased.1.rubbish_names;
        counts = λ _. counts_erased (state v) v.accounts w.accounts erased.1;
      },
      λ _. ap new_answer (ap told erased.0),
      λ _ _. erased.1,
    )
      where
        erased : (old_answer b ≡ old_answer true) × CountsErased v.accounts w.accounts
        erased = r.one (λ e. nonempty (sym m ∙ e)) refl
          where
            nonempty : x ∷ xs ≡ [] → ⊥
            nonempty e = cc e

-- ---- a going work

pub live_going : (t : WorkerView) (ws : List Work) (gs : List WorkId) (v : StorageView) (w : Work) → record { table = ws; going = gs } ≡ t → Fits t v → are_rising ws ≡ true → going_in gs ws ≡ Some w → (is_some (work_at w.name t.table) ≡ true) × IsGoing v w.name
live_going t ws gs v w e h rising found = (
  ap (λ (t : WorkerView). is_some (work_at w.name t.table)) (sym e) ∙ ap is_some (going_by_name gs ws w rising found).0,
  sym (h.going w.name) ∙ (ap (λ (t : WorkerView). is_in work_eq w.name t.going) (sym e) ∙ (going_by_name gs ws w rising found).1),
)

carried-same : (t : WorkerTable) (k : Tickets) (w : Work) (o : Option Intention) → carried_row t k w o ≡ carried_row t k (new_work w.name w.tid) o
carried-same t k w None = refl
carried-same t k w (Some i) = refl

one-going : (t : WorkerView) (v : StorageView) (k : Tickets) (w : Work) → Fits t v → going_in t.going t.table ≡ Some w → worker_step t.table (seen v) k ≡ Some (carried_row t.table k (new_work w.name w.tid) (next_of v w.name))
one-going t v k w h found = ap (λ o. going_row t.table (seen v) k o) (sym (going-same t.going (state v) t.table h.going) ∙ found)
    ∙ ap (λ r. Some r) (carried-same t.table k w _)

-- whether a step is left
pub some_given : {X Y : Type 0} (view : X → Y) (o : Option X) (r : Option Y) → Gives view o r → is_some o ≡ is_some r
some_given view None r e = ap is_some (sym e)
some_given view (Some x) r e = ap is_some (sym e)

pub step_left : (t : WorkerView) (v : StorageView) (k : Tickets) → Fits t v → is_some (worker_step t.table (seen v) k) ≡ (is_some (going_in t.going t.table) || (seen v).rubbish)
step_left t v k h = by (going_in t.going t.table) refl
  where
    left : (rs : List WorkId) → is_some (erase_row rs t.table k) ≡ not (is_none rs)
    left [] = refl
    left (x ∷ xs) = refl

    by : (o : Option Work) → going_in t.going t.table ≡ o → is_some (worker_step t.table (seen v) k) ≡ (is_some o || (seen v).rubbish)
    by None e = ap is_some (none-going t v k h e) ∙ left v.accounts.rubbish
    by (Some w) e = ap is_some (one-going t v k w h e)

retold : {A B : Type 0} (row : RowOutcome WorkerTable) (t u : WorkerView) (v w : StorageView) (before after : Collected) (k l : Tickets) (a : Result A CallFault) (b : Result B CallFault) → is_ok a ≡ is_ok b → has_stopped a ≡ has_stopped b
    → Takes 32 row t v before k a u w after l → Takes 32 row t v before k b u w after l
retold row t u v w before after k l a b ok stopped h = record {
  performs = subst (λ ok. Performs row (state v) before ok u.table w.found after l) ok h.performs;
  called = subst (λ s. Called v 32 (not s) w) stopped h.called;
  silent = λ e. h.silent (stopped ∙ e);
  fits = λ e. h.fits (ok ∙ e);
  tickets_fit = λ e. h.tickets_fit (ok ∙ e);
  counts = λ e. h.counts (ok ∙ e);
}

some-change : (t : WorkerTable) (k : Tickets) (w : Work) (o : Option Intention) → (carried_row t k w o).changes ≡ [] → ⊥
some-change t k w None e = cc e
some-change t k w (Some i) e = cc e

pub going_made : (t u : WorkerView) (v w : StorageView) (before after : Collected) (k : Tickets) (g : Work) → Fits t v → going_in t.going t.table ≡ Some g → Takes 32 (carried_row t.table k (new_work g.name g.tid) (next_of v g.name)) t v before k (Ok (tt {0})) u w after k
    → Steps (worker_step t.table (seen v) k) t v before k (Ok true) u w after k
going_made t u v w before after k g h found takes = subst (λ row. Steps row t v before k (Ok true) u w after k) (sym (one-going t v k g h found)) (retold _ t u v w before after k k _ _ refl refl takes, λ _. refl, λ e _. absurd (some-change t.table k (new_work g.name g.tid) (next_of v g.name) e))

pub going_failed : (t u : WorkerView) (v w : StorageView) (before after : Collected) (k : Tickets) (g : Work) (answer : Result Bool CallFault) (f : CallFault) → answer ≡ Err f → Fits t v → going_in t.going t.table ≡ Some g
    → Takes {A = Unit {0}} 32 (carried_row t.table k (new_work g.name g.tid) (next_of v g.name)) t v before k (Err f) u w after k → Steps (worker_step t.table (seen v) k) t v before k answer u w after k
going_failed t u v w before after k g answer f is h found takes = subst (λ row. Steps row t v before k answer u w after k) (sym (one-going t v k g h found)) (subst (λ answer. Steps (Some (carried_row t.table k (new_work g.name g.tid) (next_of v g.name))) t v before k answer u w after k) (sym is)
    (retold _ t u v w before after k k _ (Err f) refl (same f) takes, λ e. absurd (cc e), λ _ e. absurd (cc e)))
  where
    same : (f : CallFault) → has_stopped {A = Unit {0}} (Err f) ≡ has_stopped {A = Bool} (Err f)
    same Stops = refl
    same Memory = refl

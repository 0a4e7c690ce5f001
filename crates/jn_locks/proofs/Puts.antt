-- What is held once one unit's holders have changed.
use Rattle.jn_locks.proofs.Common.{◌≡◌, inl, inr, Bool, true, false, List, [], ◌∷◌, ◌++◌, refl, sym, ◌∙◌, ap, arith, ◌&&◌, ◌||◌, if◌then◌else◌, WorkId, LockUnit, work_eq, work_tells, Mode, Read, IntentionWrite, Commit, Modes, Holder, unit_eq, mode_eq, is_unit, has, holds_in, is_among, each_once, with_holder}
use Rattle.jn_locks.specs.Holders.{committed}
use Rattle.jn_locks.specs.Asked as asked
use Rattle.jn_locks.proofs.Orders.{unit_tells}
use Rattle.jn_locks.proofs.Collisions.{unit_same, work_same}
use Rattle.jn_locks.proofs.Holding.{holds_in-with_holder, is_among-with_holder, each_once-with_holder}

pub is_unit-append : (us : List LockUnit) (v u : LockUnit) → is_unit (us ++ v ∷ []) u ≡ (unit_eq v u || is_unit us u)
is_unit-append [] v u = refl
is_unit-append (x ∷ xs) v u = let again = is_unit-append xs v u in grind arith

module _ (f g : LockUnit → List Holder) (w : LockUnit) (W : WorkId) (ms : Modes) (put : (u : LockUnit) → g u ≡ (if unit_eq w u then with_holder W ms (f w) else f u)) where
  pub put_holds : (V : WorkId) (u : LockUnit) (m : Mode) → holds_in (g u) V m ≡ (if unit_eq w u && work_eq W V then has ms m else holds_in (f u) V m)
  put_holds V u m = rw (put u) (elim (unit_tells w u) [
    | inl p ↦ rw (p.0, holds_in-with_holder W ms (f w) V m) (ap (λ (z : LockUnit). if work_eq W V then has ms m else holds_in (f z) V m) p.1)
    | inr p ↦ rw p.0
  ])

  pub put_among : (V : WorkId) (u : LockUnit) → is_among (g u) V ≡ ((unit_eq w u && work_eq W V) || is_among (f u) V)
  put_among V u = rw (put u) (elim (unit_tells w u) [
    | inl p ↦ rw (p.0, is_among-with_holder W ms (f w) V) (ap (λ (z : LockUnit). work_eq W V || is_among (f z) V) p.1)
    | inr p ↦ rw p.0
  ])

  pub put_once : ((u : LockUnit) → each_once (f u) ≡ true) → (u : LockUnit) → each_once (g u) ≡ true
  put_once once u = rw (put u) (elim (unit_tells w u) [ inl p ↦ rw p.0 (each_once-with_holder W ms (f w) (once w)) | inr p ↦ rw p.0 (once u) ])

  -- one mode more
  pub add_holds : (n : Mode) → ((m : Mode) → has ms m ≡ (holds_in (f w) W m || mode_eq n m)) → (V : WorkId) (u : LockUnit) (m : Mode)
      → holds_in (g u) V m ≡ (holds_in (f u) V m || (work_eq W V && (unit_eq w u && mode_eq n m)))
  add_holds n ms_is V u m = rw (put_holds V u m) (elim (unit_tells w u) [
    | inl p ↦ elim (work_tells W V) [
      | inl q ↦ rw (p.0, q.0, ms_is m) (ap (λ (z : LockUnit). holds_in (f z) W m || mode_eq n m) p.1 ∙ ap (λ (z : WorkId). holds_in (f u) z m || mode_eq n m) q.1)
      | inr q ↦ grind (arith, p.0, q.0)
    ]
    | inr p ↦ grind (arith, p.0)
  ])

  pub put_here : is_among (g w) W ≡ true
  put_here = put_among W w ∙ grind (arith, unit_same w, work_same W)

  -- who was among the holders, or had room, is or has it still
  pub put_still : (room room' : LockUnit → Bool) → ((u : LockUnit) → unit_eq w u ≡ false → room' u ≡ room u) → (u : LockUnit) → (is_among (f u) W || room u) ≡ true → (is_among (g u) W || room' u) ≡ true
  put_still room room' same u k = grind (arith, put_among W u, same u, work_same W)

  pub listed_more : (us us' : WorkId → List LockUnit) → ((V : WorkId) → us' V ≡ (if work_eq W V then us W ++ w ∷ [] else us V)) → ((V : WorkId) (u : LockUnit) → is_among (f u) V ≡ true → is_unit (us V) u ≡ true)
      → (V : WorkId) (u : LockUnit) → is_among (g u) V ≡ true → is_unit (us' V) u ≡ true
  listed_more us us' more old V u k =
      let j = sym (put_among V u) ∙ k in
      let was = old V u in
      elim (work_tells W V) [
        | inl p ↦ rw (more V, p.0, is_unit-append (us W) w u) (grind (arith, j, was, ap (λ (z : WorkId). is_unit (us z) u) p.1))
        | inr p ↦ rw (more V, p.0) (grind (arith, j, was, p.0))
      ]

  pub listed_same : is_among (f w) W ≡ true → (us : WorkId → List LockUnit) → ((V : WorkId) (u : LockUnit) → is_among (f u) V ≡ true → is_unit (us V) u ≡ true)
      → (V : WorkId) (u : LockUnit) → is_among (g u) V ≡ true → is_unit (us V) u ≡ true
  listed_same here us old V u k = old V u (let j = sym (put_among V u) ∙ k in elim (unit_tells w u) [
    | inl p ↦ elim (work_tells W V) [
      | inl q ↦ sym (ap (λ (z : LockUnit). is_among (f z) W) p.1 ∙ ap (λ (z : WorkId). is_among (f u) z) q.1) ∙ here
      | inr q ↦ grind (arith, p.0, q.0, j)
    ]
    | inr p ↦ grind (arith, p.0, j)
  ])

  -- a commit lock in place of one for intention-write
  pub turn_holds : (old : Modes) → ms ≡ committed old → ((m : Mode) → has old m ≡ holds_in (f w) W m) → (V : WorkId) (u : LockUnit) (m : Mode)
      → holds_in (g u) V m ≡ (if work_eq W V && unit_eq w u then asked.committed (λ (v : LockUnit) (n : Mode). holds_in (f v) W n) u m else holds_in (f u) V m)
  turn_holds old is ms_is V u m = rw (put_holds V u m) (elim (unit_tells w u) [
    | inl p ↦ elim (work_tells W V) [
      | inl q ↦ rw (p.0, q.0, has_committed m) (ap (λ (z : LockUnit). asked.committed (λ (v : LockUnit) (n : Mode). holds_in (f v) W n) z m) p.1)
      | inr q ↦ rw (p.0, q.0)
    ]
    | inr p ↦ elim (work_tells W V) [ inl q ↦ rw (p.0, q.0) | inr q ↦ rw (p.0, q.0) ]
  ])
    where
      has_committed : (n : Mode) → has ms n ≡ asked.committed (λ (v : LockUnit) (n : Mode). holds_in (f v) W n) w n
      has_committed Read = rw is (ms_is Read)
      has_committed IntentionWrite = rw is
      has_committed Commit = rw (is, ms_is Commit, ms_is IntentionWrite)

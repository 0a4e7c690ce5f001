-- The list of a unit's holders, with one taken away or put.
use Rattle.jn_locks.proofs.Common.{◌≡◌, ◌≢◌, ◌⊎◌, inl, inr, ◌≤◌, ◌<◌, Bool, true, false, List, [], ◌∷◌, length, refl, arith, not, ◌||◌, if◌then◌else◌, WorkId, work_eq, work_tells, Mode, Modes, Holder, has, holds_in, is_among, without, with_holder, each_once}

pub length_without : (W : WorkId) (hs : List Holder) → length (without W hs) ≤ length hs
length_without W [] = omega arith
length_without W (h ∷ hs) = by (work_eq W h.work) (length_without W hs)
  where
    by : (b : Bool) → length (without W hs) ≤ length hs → length (if not b then h ∷ without W hs else without W hs) ≤ length (h ∷ hs)
    by true k = omega arith
    by false k = omega arith

pub shorter_without : (W : WorkId) (hs : List Holder) → is_among hs W ≡ true → length (without W hs) < length hs
shorter_without W [] h = absurd (cc h)
shorter_without W (h ∷ hs) k = by (work_tells W h.work) (work_tells h.work W) (shorter_without W hs)
  where
    by : (((work_eq W h.work ≡ true) × (W ≡ h.work)) ⊎ ((work_eq W h.work ≡ false) × (W ≢ h.work))) → (((work_eq h.work W ≡ true) × (h.work ≡ W)) ⊎ ((work_eq h.work W ≡ false) × (h.work ≢ W)))
        → (is_among hs W ≡ true → length (without W hs) < length hs) → length (without W (h ∷ hs)) < length (h ∷ hs)
    by (inl p) q rest = rw p.0 (omega (arith, length_without W hs))
    by (inr p) (inl q) rest = absurd (p.1 (cc q.1))
    by (inr p) (inr q) rest = rw p.0 (omega (arith, rest (rw q.0 at k)))

pub holds_in-without : (W : WorkId) (hs : List Holder) (V : WorkId) (m : Mode) → holds_in (without W hs) V m ≡ (if work_eq W V then false else holds_in hs V m)
holds_in-without W [] V m = grind arith
holds_in-without W (h ∷ hs) V m = grind (arith, holds_in-without W hs V m, work_tells W h.work, work_tells h.work V, work_tells W V)

pub holds_in-with_holder : (W : WorkId) (ms : Modes) (hs : List Holder) (V : WorkId) (m : Mode) → holds_in (with_holder W ms hs) V m ≡ (if work_eq W V then has ms m else holds_in hs V m)
holds_in-with_holder W ms [] V m = grind arith
holds_in-with_holder W ms (h ∷ hs) V m = grind (arith, holds_in-with_holder W ms hs V m, work_tells W h.work, work_tells h.work V, work_tells W V)

pub is_among-without : (W : WorkId) (hs : List Holder) (V : WorkId) → is_among (without W hs) V ≡ (if work_eq W V then false else is_among hs V)
is_among-without W [] V = grind arith
is_among-without W (h ∷ hs) V = grind (arith, is_among-without W hs V, work_tells W h.work, work_tells h.work V, work_tells W V)

pub is_among-with_holder : (W : WorkId) (ms : Modes) (hs : List Holder) (V : WorkId) → is_among (with_holder W ms hs) V ≡ (work_eq W V || is_among hs V)
is_among-with_holder W ms [] V = grind arith
is_among-with_holder W ms (h ∷ hs) V = grind (arith, is_among-with_holder W ms hs V, work_tells W h.work, work_tells h.work V, work_tells W V)

pub each_once-without : (W : WorkId) (hs : List Holder) → each_once hs ≡ true → each_once (without W hs) ≡ true
each_once-without W [] k = refl
each_once-without W (h ∷ hs) k = grind (arith, each_once-without W hs, is_among-without W hs h.work)

pub each_once-with_holder : (W : WorkId) (ms : Modes) (hs : List Holder) → each_once hs ≡ true → each_once (with_holder W ms hs) ≡ true
each_once-with_holder W ms [] k = refl
each_once-with_holder W ms (h ∷ hs) k = grind (arith, each_once-with_holder W ms hs, is_among-with_holder W ms hs h.work, work_tells W h.work)

-- a work that holds the unit is among its holders
pub among_if_held : (hs : List Holder) (V : WorkId) (m : Mode) → is_among hs V ≡ false → holds_in hs V m ≡ false
among_if_held [] V m k = refl
among_if_held (h ∷ hs) V m k = grind (arith, among_if_held hs V m)

pub none_if_empty : {A : Type 0} (xs : List A) → length xs ≡ 0 → xs ≡ []
none_if_empty [] k = refl
none_if_empty (x ∷ xs) k = absurd (omega arith)

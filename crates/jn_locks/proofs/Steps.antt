-- One step of the loops over wants, units and broken works.
use Rattle.jn_locks.proofs.Common.{◌≡◌, ◌≢◌, ◌⊎◌, inl, inr, ℕ, zero, suc, ◌+◌, ◌<◌, ◌≤◌, length, get_or, drop, drop-cons, add-one, Bool, true, false, List, [], ◌∷◌, ◌++◌, refl, sym, ◌∙◌, ap, arith, not, ◌&&◌, ◌||◌, if◌then◌else◌, WorkId, LockUnit, File, work_eq, work_tells, Mode, Read, IntentionWrite, Commit, Holder, Want, Broken, wanted, unit_eq, mode_eq, is_unit, is_wanted_unit, is_broken, committed, holds_in, is_among, each_once, without}
use Rattle.jn_locks.proofs.Orders.{unit_tells}
use Rattle.jn_locks.proofs.Collisions.{unit_same, work_same}
use Rattle.jn_locks.proofs.Holding.{holds_in-without, is_among-without, each_once-without}

-- one want more is met
pub one_more : (ws : List Want) (i : ℕ) (d : Want) (W V : WorkId) (u : LockUnit) (m : Mode) (new old all : Bool) → i < length ws
    → new ≡ (old || (work_eq W V && (unit_eq (get_or ws i d).unit u && mode_eq (get_or ws i d).mode m)))
    → (old || (work_eq W V && wanted (drop i ws) u m)) ≡ all → (new || (work_eq W V && wanted (drop (i + 1) ws) u m)) ≡ all
one_more ws i d W V u m new old all h now before =
    by (work_eq W V) (unit_eq (get_or ws i d).unit u && mode_eq (get_or ws i d).mode m) (wanted (drop i ws) u m) (wanted (drop (i + 1) ws) u m)
    (rw add-one (ap (λ (xs : List Want). wanted xs u m) (drop-cons ws i d h))) now before
  where
    by : (w a x y : Bool) → x ≡ (a || y) → new ≡ (old || (w && a)) → (old || (w && x)) ≡ all → (new || (w && y)) ≡ all
    by w a x y e p q = grind arith

-- a unit that is wanted later is wanted
pub wanted_later : (ws : List Want) (i : ℕ) (d : Want) (u : LockUnit) → i < length ws → is_wanted_unit (drop (i + 1) ws) u ≡ true → is_wanted_unit (drop i ws) u ≡ true
wanted_later ws i d u h k = ap (λ (xs : List Want). is_wanted_unit xs u) (drop-cons ws i d h) ∙ grind (arith, rw add-one at k)

pub wanted_here : (ws : List Want) (i : ℕ) (d : Want) → i < length ws → is_wanted_unit (drop i ws) (get_or ws i d).unit ≡ true
wanted_here ws i d h = ap (λ (xs : List Want). is_wanted_unit xs (get_or ws i d).unit) (drop-cons ws i d h) ∙ grind (arith, unit_same (get_or ws i d).unit)

-- what a work holds once the wants that are left are for commit
abbrev pub turned_in : (WorkId → LockUnit → Mode → Bool) → WorkId → List Want → WorkId → LockUnit → Mode → Bool
turned_in holds W ws V u m = if work_eq W V && is_wanted_unit ws u then committed (holds W) u m else holds V u m

pub turn_more : (ws : List Want) (i : ℕ) (d : Want) (W : WorkId) (old new : WorkId → LockUnit → Mode → Bool) → i < length ws
    → ((V : WorkId) (u : LockUnit) (m : Mode) → new V u m ≡ (if work_eq W V && unit_eq (get_or ws i d).unit u then committed (old W) u m else old V u m))
    → (V : WorkId) (u : LockUnit) (m : Mode) → turned_in new W (drop (i + 1) ws) V u m ≡ turned_in old W (drop i ws) V u m
turn_more ws i d W old new h put V u m = rw add-one (by m (work_tells W V)) ∙ ap (λ (xs : List Want). turned_in old W xs V u m) (sym (drop-cons ws i d h))
  where
    by : (m : Mode) → (((work_eq W V ≡ true) × (W ≡ V)) ⊎ ((work_eq W V ≡ false) × (W ≢ V))) → turned_in new W (drop (suc i) ws) V u m ≡ turned_in old W (get_or ws i d ∷ drop (suc i) ws) V u m
    by Read t = grind (arith, t, work_same W, put V u Read, put W u Read)
    by IntentionWrite t = grind (arith, t, work_same W, put V u IntentionWrite)
    by Commit t = grind (arith, t, work_same W, put V u Commit, put W u Commit, put W u IntentionWrite)

pub without-without : (W : WorkId) (hs : List Holder) → without W (without W hs) ≡ without W hs
without-without W [] = refl
without-without W (h ∷ hs) = by (work_eq W h.work) refl (without-without W hs)
  where
    by : (b : Bool) → work_eq W h.work ≡ b → without W (without W hs) ≡ without W hs → without W (if not b then h ∷ without W hs else without W hs) ≡ (if not b then h ∷ without W hs else without W hs)
    by true e k = k
    by false e k = ap (λ (b : Bool). if not b then h ∷ without W (without W hs) else without W (without W hs)) e ∙ ap (λ (xs : List Holder). h ∷ xs) k

abbrev pub dropped_in : (LockUnit → List Holder) → WorkId → List LockUnit → LockUnit → List Holder
dropped_in at W us u = if is_unit us u then without W (at u) else at u

pub drop_more : (us : List LockUnit) (i : ℕ) (d : LockUnit) (W : WorkId) (old new : LockUnit → List Holder) → i < length us
    → ((u : LockUnit) → new u ≡ (if unit_eq (get_or us i d) u then without W (old (get_or us i d)) else old u))
    → (u : LockUnit) → dropped_in new W (drop (i + 1) us) u ≡ dropped_in old W (drop i us) u
drop_more us i d W old new h put u = rw add-one (ap (λ (hs : List Holder). if is_unit (drop (suc i) us) u then without W hs else hs) (put u) ∙ by (unit_tells (get_or us i d) u) (is_unit (drop (suc i) us) u))
    ∙ ap (λ (xs : List LockUnit). dropped_in old W xs u) (sym (drop-cons us i d h))
  where
    by : (((unit_eq (get_or us i d) u ≡ true) × (get_or us i d ≡ u)) ⊎ ((unit_eq (get_or us i d) u ≡ false) × (get_or us i d ≢ u))) → (c : Bool)
        → (if c then without W (if unit_eq (get_or us i d) u then without W (old (get_or us i d)) else old u) else (if unit_eq (get_or us i d) u then without W (old (get_or us i d)) else old u))
        ≡ (if unit_eq (get_or us i d) u || c then without W (old u) else old u)
    by (inl p) true = rw p.0 (without-without W (old (get_or us i d)) ∙ ap (λ (z : LockUnit). without W (old z)) p.1)
    by (inl p) false = rw p.0 (ap (λ (z : LockUnit). without W (old z)) p.1)
    by (inr p) true = rw p.0 refl
    by (inr p) false = rw p.0 refl

-- what is left of something once the rest of the broken works lose it
pub break_more : {A : Type 0} (none : A) (bs : List Broken) (i : ℕ) (d : Broken) (V : WorkId) (old new : A) → i < length bs → new ≡ (if work_eq (get_or bs i d).work V then none else old)
    → (if is_broken (drop (i + 1) bs) V then none else new) ≡ (if is_broken (drop i bs) V then none else old)
break_more none bs i d V old new h e = rw add-one (by (work_eq (get_or bs i d).work V) (is_broken (drop (suc i) bs) V) e) ∙ ap (λ (xs : List Broken). if is_broken xs V then none else old) (sym (drop-cons bs i d h))
  where
    by : (a b : Bool) → new ≡ (if a then none else old) → (if b then none else new) ≡ (if a || b then none else old)
    by true true k = refl
    by true false k = k
    by false true k = refl
    by false false k = k

pub drop_past : {A : Type 0} (i : ℕ) (xs : List A) → length xs ≤ i → drop i xs ≡ []
drop_past zero [] h = refl
drop_past (suc i) [] h = refl
drop_past zero (x ∷ xs) h = absurd (omega arith)
drop_past (suc i) (x ∷ xs) h = drop_past i xs (omega arith)

without_absent : (W : WorkId) (hs : List Holder) → is_among hs W ≡ false → without W hs ≡ hs
without_absent W [] h = refl
without_absent W (x ∷ xs) h = by (work_tells W x.work) (work_tells x.work W) (without_absent W xs)
  where
    by : (((work_eq W x.work ≡ true) × (W ≡ x.work)) ⊎ ((work_eq W x.work ≡ false) × (W ≢ x.work))) → (((work_eq x.work W ≡ true) × (x.work ≡ W)) ⊎ ((work_eq x.work W ≡ false) × (x.work ≢ W)))
        → (is_among xs W ≡ false → without W xs ≡ xs) → without W (x ∷ xs) ≡ x ∷ xs
    by p (inl q) rest = grind (arith, h, q.0)
    by (inl p) (inr q) rest = absurd (q.1 (sym p.1))
    by (inr p) (inr q) rest = rw p.0 (ap (λ (ys : List Holder). x ∷ ys) (rest (rw q.0 at h)))

-- a work that holds no unit any more
module _ (f g : LockUnit → List Holder) (W : WorkId) (us : List LockUnit) (dropped : (u : LockUnit) → g u ≡ dropped_in f W us u) (all : (u : LockUnit) → is_among (f u) W ≡ true → is_unit us u ≡ true) where
  gone : (u : LockUnit) → g u ≡ without W (f u)
  gone u = dropped u ∙ by (is_unit us u) (is_among (f u) W) refl refl (all u)
    where
      by : (b c : Bool) → is_unit us u ≡ b → is_among (f u) W ≡ c → (is_among (f u) W ≡ true → is_unit us u ≡ true) → (if b then without W (f u) else f u) ≡ without W (f u)
      by true c d e k = refl
      by false true d e k = absurd (cc (sym d, k e))
      by false false d e k = sym (without_absent W (f u) e)

  pub released_holds : (V : WorkId) (u : LockUnit) (m : Mode) → holds_in (g u) V m ≡ (if work_eq W V then false else holds_in (f u) V m)
  released_holds V u m = ap (λ (hs : List Holder). holds_in hs V m) (gone u) ∙ holds_in-without W (f u) V m

  pub released_listed : (us' old : WorkId → List LockUnit) → ((V : WorkId) → us' V ≡ (if work_eq W V then [] else old V)) → ((V : WorkId) (u : LockUnit) → is_among (f u) V ≡ true → is_unit (old V) u ≡ true)
      → (V : WorkId) (u : LockUnit) → is_among (g u) V ≡ true → is_unit (us' V) u ≡ true
  released_listed us' old is listed V u k = ap (λ (xs : List LockUnit). is_unit xs u) (is V) ∙ by (work_eq W V) (sym (ap (λ (hs : List Holder). is_among hs V) (gone u) ∙ is_among-without W (f u) V) ∙ k)
    where
      by : (b : Bool) → (if b then false else is_among (f u) V) ≡ true → is_unit (if b then [] else old V) u ≡ true
      by true j = absurd (cc j)
      by false j = listed V u j

  pub released_once : ((u : LockUnit) → each_once (f u) ≡ true) → (u : LockUnit) → each_once (g u) ≡ true
  released_once once u = ap each_once (gone u) ∙ each_once-without W (f u) (once u)

pub wanted-append : (ws : List Want) (w : Want) (u : LockUnit) (m : Mode) → wanted (ws ++ w ∷ []) u m ≡ ((unit_eq w.unit u && mode_eq w.mode m) || wanted ws u m)
wanted-append [] w u m = refl
wanted-append (x ∷ xs) w u m = by (unit_eq x.unit u && mode_eq x.mode m) (wanted xs u m) (unit_eq w.unit u && mode_eq w.mode m) (wanted (xs ++ w ∷ []) u m) (wanted-append xs w u m)
  where
    by : (a b c d : Bool) → d ≡ (c || b) → (a || d) ≡ (c || (a || b))
    by a b c d h = grind arith

-- one unit more is wanted
pub unit_more : (us : List LockUnit) (i : ℕ) (d : LockUnit) (u : LockUnit) (e new old all : Bool) → i < length us → new ≡ ((unit_eq (get_or us i d) u && e) || old)
    → (old || (is_unit (drop i us) u && e)) ≡ all → (new || (is_unit (drop (i + 1) us) u && e)) ≡ all
unit_more us i d u e new old all h now before = by (unit_eq (get_or us i d) u) (is_unit (drop i us) u) (is_unit (drop (i + 1) us) u) (rw add-one (ap (λ (xs : List LockUnit). is_unit xs u) (drop-cons us i d h))) now before
  where
    by : (a x y : Bool) → x ≡ (a || y) → new ≡ ((a && e) || old) → (old || (x && e)) ≡ all → (new || (y && e)) ≡ all
    by a x y p q r = grind arith

-- what an index past the end would give
abbrev pub no_want : Want
no_want = record { unit = File (record { 0 = 0 }); mode = Read }

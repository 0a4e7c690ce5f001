-- The locks of a unit, each once.
use Rattle.jn_locks.proofs.Common.{◌≡◌, ◌≢◌, ◌⊎◌, inl, inr, Bool, true, false, List, [], ◌∷◌, ◌++◌, refl, sym, ◌∙◌, ap, arith, ◌&&◌, ◌||◌, WorkId, LockUnit, work_eq, work_tells, Mode, Read, IntentionWrite, Commit, Holder, Held, mode_eq, is_lock, stands_in, stand_once, AreHolders, has, holds_in, is_among, each_once, at, table_of, IsSoundTable, lock_if, locks_of}
use Rattle.jn_locks.proofs.Collisions.{work_same, mode_same}
use Rattle.jn_locks.proofs.Holding.{among_if_held}

abbrev pub all_locks : List Holder → List (WorkId × Mode)
all_locks [] = []
all_locks (h ∷ hs) = locks_of h ++ all_locks hs

stands_in-append : (xs ys : List (WorkId × Mode)) (V : WorkId) (m : Mode) → stands_in (xs ++ ys) V m ≡ (stands_in xs V m || stands_in ys V m)
stands_in-append [] ys V m = refl
stands_in-append (x ∷ xs) ys V m = by (is_lock x V m) (stands_in xs V m) (stands_in ys V m) (stands_in (xs ++ ys) V m) (stands_in-append xs ys V m)
  where
    by : (a b c d : Bool) → d ≡ (b || c) → (a || d) ≡ ((a || b) || c)
    by a b c d h = grind arith

stands_in-lock_if : (b : Bool) (W : WorkId) (m : Mode) (V : WorkId) (n : Mode) → stands_in (lock_if b W m) V n ≡ (b && (work_eq W V && mode_eq m n))
stands_in-lock_if true W m V n = grind arith
stands_in-lock_if false W m V n = refl

stands_in-locks_of : (h : Holder) (V : WorkId) (m : Mode) → stands_in (locks_of h) V m ≡ (work_eq h.work V && has h.modes m)
stands_in-locks_of h V m =
    stands_in-append (lock_if h.modes.read h.work Read) (lock_if h.modes.intention_write h.work IntentionWrite ++ lock_if h.modes.commit h.work Commit) V m
    ∙ ap (λ (b : Bool). stands_in (lock_if h.modes.read h.work Read) V m || b) (stands_in-append (lock_if h.modes.intention_write h.work IntentionWrite) (lock_if h.modes.commit h.work Commit) V m)
    ∙ by m (stands_in-lock_if h.modes.read h.work Read V m) (stands_in-lock_if h.modes.intention_write h.work IntentionWrite V m) (stands_in-lock_if h.modes.commit h.work Commit V m)
  where
    by : (n : Mode) → stands_in (lock_if h.modes.read h.work Read) V n ≡ (h.modes.read && (work_eq h.work V && mode_eq Read n))
        → stands_in (lock_if h.modes.intention_write h.work IntentionWrite) V n ≡ (h.modes.intention_write && (work_eq h.work V && mode_eq IntentionWrite n))
        → stands_in (lock_if h.modes.commit h.work Commit) V n ≡ (h.modes.commit && (work_eq h.work V && mode_eq Commit n))
        → (stands_in (lock_if h.modes.read h.work Read) V n || (stands_in (lock_if h.modes.intention_write h.work IntentionWrite) V n || stands_in (lock_if h.modes.commit h.work Commit) V n)) ≡ (work_eq h.work V && has h.modes n)
    by Read p q r = grind arith
    by IntentionWrite p q r = grind arith
    by Commit p q r = grind arith

stands_in-all_locks : (hs : List Holder) (V : WorkId) (m : Mode) → stands_in (all_locks hs) V m ≡ holds_in hs V m
stands_in-all_locks [] V m = refl
stands_in-all_locks (h ∷ hs) V m =
    stands_in-append (locks_of h) (all_locks hs) V m ∙ ap (λ (b : Bool). b || stands_in (all_locks hs) V m) (stands_in-locks_of h V m) ∙ ap (λ (b : Bool). (work_eq h.work V && has h.modes m) || b) (stands_in-all_locks hs V m)

stand_once-append : (xs ys : List (WorkId × Mode)) → stand_once xs ≡ true → stand_once ys ≡ true → ((V : WorkId) (m : Mode) → stands_in xs V m ≡ true → stands_in ys V m ≡ false) → stand_once (xs ++ ys) ≡ true
stand_once-append [] ys h k apart = k
stand_once-append (x ∷ xs) ys h k apart =
    grind (arith, stand_once-append xs ys (grind arith) k (λ V m j. apart V m (grind arith)), stands_in-append xs ys x.0 x.1, apart x.0 x.1 (grind (arith, work_same x.0, mode_same x.1)))

stand_once-locks_of : (W : WorkId) (a b c : Bool) → stand_once (lock_if a W Read ++ (lock_if b W IntentionWrite ++ lock_if c W Commit)) ≡ true
stand_once-locks_of W true true true = grind arith
stand_once-locks_of W true true false = grind arith
stand_once-locks_of W true false true = grind arith
stand_once-locks_of W true false false = grind arith
stand_once-locks_of W false true true = grind arith
stand_once-locks_of W false true false = grind arith
stand_once-locks_of W false false true = grind arith
stand_once-locks_of W false false false = refl

stand_once-all_locks : (hs : List Holder) → each_once hs ≡ true → stand_once (all_locks hs) ≡ true
stand_once-all_locks [] k = refl
stand_once-all_locks (h ∷ hs) k = stand_once-append (locks_of h) (all_locks hs) (stand_once-locks_of h.work h.modes.read h.modes.intention_write h.modes.commit) (stand_once-all_locks hs (grind arith))
    (λ V m j. stands_in-all_locks hs V m ∙ by V m (work_tells h.work V) (sym (stands_in-locks_of h V m) ∙ j))
  where
    by : (V : WorkId) (m : Mode) → (((work_eq h.work V ≡ true) × (h.work ≡ V)) ⊎ ((work_eq h.work V ≡ false) × (h.work ≢ V))) → (work_eq h.work V && has h.modes m) ≡ true → holds_in hs V m ≡ false
    by V m (inl p) j = among_if_held hs V m (sym (ap (λ (z : WorkId). is_among hs z) p.1) ∙ grind arith)
    by V m (inr p) j = grind (arith, p.0, j)

pub holders_are : (h : Held) (u : LockUnit) (ls : List (WorkId × Mode)) → IsSoundTable h → ls ≡ all_locks (at h.units u) → AreHolders (table_of h) u ls
holders_are h u ls sound e = rw e (record { exactly = stands_in-all_locks (at h.units u); once = stand_once-all_locks (at h.units u) (sound.once u) })

-- The orders of works, units and conflicts.
use Rattle.jn_locks.proofs.Common.{◌≡◌, ◌≢◌, ◌⊎◌, Bool, true, false, arith, refl, nat_tests, WorkId, LockUnit, File, Block, Conflict, unit_eq, unit_before, work_before, conflict_before}

pub unit_tells : (a b : LockUnit) → ((unit_eq a b ≡ true) × (a ≡ b)) ⊎ ((unit_eq a b ≡ false) × (a ≢ b))
unit_tells (File f) (File g) = grind (arith, nat_tests)
unit_tells (Block f p) (Block g q) = grind (arith, nat_tests)
unit_tells (File f) (Block g q) = grind (arith, nat_tests)
unit_tells (Block f p) (File g) = grind (arith, nat_tests)

pub work_before-irreflexive : (a : WorkId) → work_before a a ≡ false
unfolding work_before
work_before-irreflexive a = grind (arith, nat_tests)

pub work_before-transitive : (a b c : WorkId) → work_before a b ≡ true → work_before b c ≡ true → work_before a c ≡ true
unfolding work_before
work_before-transitive a b c h k = grind (arith, nat_tests)

pub work_before-total : (a b : WorkId) → work_before a b ≡ false → work_before b a ≡ false → a ≡ b
unfolding work_before
work_before-total a b h k = grind (arith, nat_tests)

pub unit_before-irreflexive : (a : LockUnit) → unit_before a a ≡ false
unfolding unit_before
unit_before-irreflexive (File f) = grind (arith, nat_tests)
unit_before-irreflexive (Block f p) = grind (arith, nat_tests)

pub unit_before-transitive : (a b c : LockUnit) → unit_before a b ≡ true → unit_before b c ≡ true → unit_before a c ≡ true
unfolding unit_before
unit_before-transitive (File f) (File g) (File h) k l = grind (arith, nat_tests)
unit_before-transitive (File f) (File g) (Block h q) k l = grind (arith, nat_tests)
unit_before-transitive (File f) (Block g p) (File h) k l = grind (arith, nat_tests)
unit_before-transitive (File f) (Block g p) (Block h q) k l = grind (arith, nat_tests)
unit_before-transitive (Block f o) (File g) (File h) k l = grind (arith, nat_tests)
unit_before-transitive (Block f o) (File g) (Block h q) k l = grind (arith, nat_tests)
unit_before-transitive (Block f o) (Block g p) (File h) k l = grind (arith, nat_tests)
unit_before-transitive (Block f o) (Block g p) (Block h q) k l = grind (arith, nat_tests)

pub conflict_before-transitive : (a b c : Conflict) → conflict_before a b ≡ true → conflict_before b c ≡ true → conflict_before a c ≡ true
conflict_before-transitive a b c h k =
    grind (arith, unit_tells a.unit b.unit, unit_tells b.unit c.unit, unit_tells a.unit c.unit, unit_before-transitive a.unit b.unit c.unit, work_before-transitive a.holder b.holder c.holder)

pub unit_before-total : (a b : LockUnit) → unit_before a b ≡ false → unit_before b a ≡ false → a ≡ b
unfolding unit_before
unit_before-total (File f) (File g) h k = grind (arith, nat_tests)
unit_before-total (File f) (Block g q) h k = grind (arith, nat_tests)
unit_before-total (Block f p) (File g) h k = grind (arith, nat_tests)
unit_before-total (Block f p) (Block g q) h k = grind (arith, nat_tests)

pub conflict_before-total : (a b : Conflict) → conflict_before a b ≡ false → conflict_before b a ≡ false → a ≡ b
conflict_before-total a b h k =
    grind (arith, unit_tells a.unit b.unit, unit_tells b.unit a.unit, unit_before-total a.unit b.unit, work_before-total a.holder b.holder)

-- what comes before another comes before all that doesn't
module _ {A : Type 0} (before : A → A → Bool) (transitive : (a b c : A) → before a b ≡ true → before b c ≡ true → before a c ≡ true)
    (total : (a b : A) → before a b ≡ false → before b a ≡ false → a ≡ b) where
  pub onward : (a b c : A) → before a c ≡ true → before b c ≡ false → before a b ≡ true
  onward a b c h k = by (before c b) refl
    where
      by : (t : Bool) → before c b ≡ t → before a b ≡ true
      by true e = transitive a c b h e
      by false e = rw (total b c k e) h

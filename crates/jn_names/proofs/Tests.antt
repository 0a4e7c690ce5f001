-- Tests that are true, and texts that are one by their bytes.
use Rattle.std.proofs.Common.{◌≡◌, ◌<◌, ◌≤◌, ◌+◌, Bool, true, false, ℕ, List, inl, inr, sym, ◌∙◌, ap, refl, arith, eqb-true, eq-eqb}
use Rattle.std.specs.Prelude.{bytes_eq, ◌&&◌, nat_eq, nat_lt}
use Rattle.std.proofs.lemmas.Bool.{cases_Bool, ltb-true, ltb-false}
use Rattle.std.proofs.lemmas.Slice.Eq.{bytes_eq-Decides}

pub left : (a b : Bool) → (a && b) ≡ true → a ≡ true
left true b h = refl
left false b h = absurd (cc h)

pub right : (a b : Bool) → (a && b) ≡ true → b ≡ true
right true b h = h
right false b h = absurd (cc h)

pub both : (a b : Bool) → a ≡ true → b ≡ true → (a && b) ≡ true
both a b h k = rw (h, k) refl

-- two tests of which each holds where the other does
pub same-tests : (a b : Bool) → (a ≡ true → b ≡ true) → (b ≡ true → a ≡ true) → a ≡ b
same-tests true b f g = sym (f refl)
same-tests false true f g = g refl
same-tests false false f g = refl

pub eq-true : (a b : List ℕ) → bytes_eq a b ≡ true → a ≡ b
eq-true a b e = (bytes_eq-Decides a b).0 e

pub eq-of : (a b : List ℕ) → a ≡ b → bytes_eq a b ≡ true
eq-of a b e = (bytes_eq-Decides a b).1 e

-- the test at a name that is another one's
pub same-test : (a b other : List ℕ) → bytes_eq a b ≡ true → bytes_eq a other ≡ bytes_eq b other
same-test a b other e = ap (λ (x : List ℕ). bytes_eq x other) (eq-true a b e)

pub turned : (a b : List ℕ) → bytes_eq a b ≡ false → bytes_eq b a ≡ false
turned a b h = elim (cases_Bool (bytes_eq b a)) [
  | inl m ↦ absurd (cc (sym (eq-of a b (sym (eq-true b a m))) ∙ h))
  | inr m ↦ m
]

pub lt-holds : (a b : ℕ) → a < b → nat_lt a b ≡ true
lt-holds a b h = elim (cases_Bool (nat_lt a b)) [
  | inl m ↦ m
  | inr m ↦ absurd (let z = ltb-false a b m in omega (arith, z, h))
]

pub lt-fails : (a b : ℕ) → b ≤ a → nat_lt a b ≡ false
lt-fails a b h = elim (cases_Bool (nat_lt a b)) [
  | inl m ↦ absurd (let z = ltb-true a b m in omega (arith, z, h))
  | inr m ↦ m
]

pub eq-fails : (a b : ℕ) → b < a → nat_eq a b ≡ false
eq-fails a b h = elim (cases_Bool (nat_eq a b)) [
  | inl m ↦ absurd (let z = eqb-true a b m in omega (arith, z, h))
  | inr m ↦ m
]

-- what is at least a number, and isn't that number
pub next-one : (a b : ℕ) → a ≤ b → nat_eq a b ≡ false → a + 1 ≤ b
next-one a b h m = elim (cases_Bool (nat_lt a b)) [
  | inl l ↦ (let z = ltb-true a b l in omega (arith, z))
  | inr l ↦ absurd (let z = ltb-false a b l in let e : a ≡ b = omega (arith, z, h) in cc (sym (eq-eqb a b e) ∙ m))
]

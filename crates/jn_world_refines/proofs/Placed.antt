-- A list of which one element is another now.
use Rattle.std.proofs.Common.{◌≡◌, ◌<◌, ℕ, zero, suc, List, [], ◌∷◌, length, slice_get, slice_set, Some, refl, subst, arith}

some-of : {X : Type 0} (a b : X) → Some a ≡ Some b → a ≡ b
some-of a b e = cc

pub get-below : {X : Type 0} (xs : List X) (i : ℕ) (x : X) → slice_get xs i ≡ Some x → i < length xs
get-below [] i x e = absurd (cc e)
get-below (z ∷ xs) zero x e = omega arith
get-below (z ∷ xs) (suc i) x e = let below = get-below xs i x e in omega (arith, below)

pub get-there : {X : Type 0} (xs : List X) (i : ℕ) → i < length xs → (x : X) × (slice_get xs i ≡ Some x)
get-there [] i l = absurd (omega (arith, l))
get-there (z ∷ xs) zero l = (z, refl)
get-there (z ∷ xs) (suc i) l = get-there xs i (omega (arith, l))

-- what holds of the one, and of all others before, holds of each
pub each-set : {X : Type 0} (P : ℕ → X → Type 0) (xs : List X) (i : ℕ) (y : X) → P i y → ((n : ℕ) (x : X) → (i ≡ n → ⊥) → slice_get xs n ≡ Some x → P n x)
    → (n : ℕ) (x : X) → slice_get (slice_set xs i y) n ≡ Some x → P n x
each-set P [] i y h k n x e = absurd (cc e)
each-set P (z ∷ xs) zero y h k zero x e = subst (P 0) (some-of y x e) h
each-set P (z ∷ xs) zero y h k (suc n) x e = k (suc n) x (λ d. omega (arith, d)) e
each-set P (z ∷ xs) (suc i) y h k zero x e = k zero x (λ d. omega (arith, d)) e
each-set P (z ∷ xs) (suc i) y h k (suc n) x e = each-set (λ j. P (suc j)) xs i y h (λ j a d g. k (suc j) a (λ z. d (omega (arith, z))) g) n x e

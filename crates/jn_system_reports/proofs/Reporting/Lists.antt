-- What stands in a list, and what holds of each of its elements.
use Rattle.jn_system_reports.proofs.Common.{◌≡◌, ◌⊎◌, inl, inr, ℕ, zero, suc, List, [], ◌∷◌, ◌++◌, Some, None, refl, subst, slice_get, AllByRecursion}

abbrev pub In : {A : Type 0} → A → List A → Type 0
In a [] = ⊥
In a (x ∷ xs) = (x ≡ a) ⊎ In a xs

abbrev pub Each : {A : Type 0} → (A → Type 0) → List A → Type 0
Each P xs = AllByRecursion P xs

pub in-first : {A : Type 0} (a : A) (xs ys : List A) → In a xs → In a (xs ++ ys)
in-first a [] ys h = absurd h
in-first a (x ∷ xs) ys (inl e) = inl e
in-first a (x ∷ xs) ys (inr h) = inr (in-first a xs ys h)

pub in-second : {A : Type 0} (a : A) (xs ys : List A) → In a ys → In a (xs ++ ys)
in-second a [] ys h = h
in-second a (x ∷ xs) ys h = inr (in-second a xs ys h)

pub in-either : {A : Type 0} (a : A) (xs ys : List A) → In a (xs ++ ys) → In a xs ⊎ In a ys
in-either a [] ys h = inr h
in-either a (x ∷ xs) ys (inl e) = inl (inl e)
in-either a (x ∷ xs) ys (inr h) = by (in-either a xs ys h)
  where
    by : In a xs ⊎ In a ys → ((x ≡ a) ⊎ In a xs) ⊎ In a ys
    by (inl k) = inl (inr k)
    by (inr k) = inr k

pub each-in : {A : Type 0} (P : A → Type 0) (xs : List A) (a : A) → Each P xs → In a xs → P a
each-in P [] a h k = absurd k
each-in P (x ∷ xs) a h (inl e) = subst P e h.0
each-in P (x ∷ xs) a h (inr k) = each-in P xs a h.1 k

pub each-of : {A : Type 0} (P : A → Type 0) (xs : List A) → ((a : A) → In a xs → P a) → Each P xs
each-of P [] h = tt
each-of P (x ∷ xs) h = (h x (inl refl), each-of P xs (λ a k. h a (inr k)))

pub each-append : {A : Type 0} (P : A → Type 0) (xs ys : List A) → Each P xs → Each P ys → Each P (xs ++ ys)
each-append P [] ys h k = k
each-append P (x ∷ xs) ys h k = (h.0, each-append P xs ys h.1 k)

pub each-more : {A : Type 0} (P Q : A → Type 0) (xs : List A) → ((a : A) → P a → Q a) → Each P xs → Each Q xs
each-more P Q [] h k = tt
each-more P Q (x ∷ xs) h k = (h x k.0, each-more P Q xs h k.1)

pub get-in : {A : Type 0} (xs : List A) (k : ℕ) (a : A) → slice_get xs k ≡ Some a → In a xs
get-in [] k a h = absurd (none a h)
  where
    none : {A : Type 0} (a : A) → None ≡ Some a → ⊥
    none a q = cc
get-in (x ∷ xs) zero a h = inl (some x a h)
  where
    some : {A : Type 0} (x a : A) → Some x ≡ Some a → x ≡ a
    some x a q = cc
get-in (x ∷ xs) (suc k) a h = inr (get-in xs k a h)

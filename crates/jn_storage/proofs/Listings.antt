-- Listings with one key more and one key less.
use Rattle.jn_storage.proofs.Common.{◌≡◌, ◌≢◌, ◌⊎◌, ℕ, ◌≤◌, ◌+◌, Bool, true, false, not, ◌&&◌, ◌||◌, if◌then◌else◌, List, [], ◌∷◌, length, refl, sym, ◌∙◌, ap, arith, is_in, are_different, IsListing, total}

-- what a test of two keys tells
abbrev pub Tells : {A : Type 0} → (A → A → Bool) → Type 0
Tells {A} eq = (a b : A) → ((eq a b ≡ true) × (a ≡ b)) ⊎ ((eq a b ≡ false) × (a ≢ b))

-- the keys but one
abbrev pub but : {A : Type 0} → (A → A → Bool) → A → List A → List A
but eq k [] = []
but eq k (x ∷ xs) = if eq x k then but eq k xs else x ∷ but eq k xs

pub is_in-but : {A : Type 0} (eq : A → A → Bool) → Tells eq → (k a : A) (xs : List A) → is_in eq a (but eq k xs) ≡ (is_in eq a xs && not (eq k a))
is_in-but eq tells k a [] = refl
is_in-but eq tells k a (x ∷ xs) = let again = is_in-but eq tells k a xs in let xk = tells x k in let xa = tells x a in let ka = tells k a in grind arith

pub different-but : {A : Type 0} (eq : A → A → Bool) → Tells eq → (k : A) (xs : List A) → are_different eq xs ≡ true → are_different eq (but eq k xs) ≡ true
different-but eq tells k [] h = refl
different-but eq tells k (x ∷ xs) h = let again = different-but eq tells k xs in let at = is_in-but eq tells k x xs in grind arith

pub length-but : {A : Type 0} (eq : A → A → Bool) (k : A) (xs : List A) → length (but eq k xs) ≤ length xs
length-but eq k [] = omega arith
length-but eq k (x ∷ xs) = let again = length-but eq k xs in grind arith

-- one key less
pub listing-less : {A : Type 0} (eq : A → A → Bool) → Tells eq → (k : A) (holds after : A → Bool) (keys : List A) → ((a : A) → after a ≡ (holds a && not (eq k a))) → IsListing eq holds keys → IsListing eq after (but eq k keys)
listing-less eq tells k holds after keys is l = record {
  different = different-but eq tells k keys l.different;
  all = λ a. is_in-but eq tells k a keys ∙ ap (λ b. b && not (eq k a)) (l.all a) ∙ sym (is a);
}

-- one key more
pub listing-more : {A : Type 0} (eq : A → A → Bool) → Tells eq → (k : A) (holds after : A → Bool) (keys : List A) → holds k ≡ false → ((a : A) → after a ≡ (eq k a || holds a)) → IsListing eq holds keys → IsListing eq after (k ∷ keys)
listing-more eq tells k holds after keys new is l = record {
  different = let at = l.all k in grind (arith, l.different);
  all = λ a. ap (λ b. eq k a || b) (l.all a) ∙ sym (is a);
}

pub listing-same : {A : Type 0} (eq : A → A → Bool) (holds after : A → Bool) (keys : List A) → ((a : A) → after a ≡ holds a) → IsListing eq holds keys → IsListing eq after keys
listing-same eq holds after keys is l = record { different = l.different; all = λ a. l.all a ∙ sym (is a) }

pub total-same : {A : Type 0} (eq : A → A → Bool) → Tells eq → (f g : A → ℕ) (keys : List A) → ((a : A) → is_in eq a keys ≡ true → f a ≡ g a) → total f keys ≡ total g keys
total-same eq tells f g [] h = refl
total-same eq tells f g (x ∷ xs) h = let here = h x (let xx = tells x x in grind arith) in let again = total-same eq tells f g xs (λ a i. h a (grind arith)) in grind arith

-- the total over all keys but one
pub total-but : {A : Type 0} (eq : A → A → Bool) → Tells eq → (f : A → ℕ) (k : A) (keys : List A) → are_different eq keys ≡ true → is_in eq k keys ≡ true → total f keys ≡ f k + total f (but eq k keys)
total-but eq tells f k [] d i = absurd (cc i)
total-but eq tells f k (x ∷ xs) d i = let again = total-but eq tells f k xs in let none = but-none eq tells k xs in let xk = tells x k in grind (arith, d, i)
  where
    but-none : {A : Type 0} (eq : A → A → Bool) → Tells eq → (k : A) (xs : List A) → is_in eq k xs ≡ false → but eq k xs ≡ xs
    but-none eq tells k [] h = refl
    but-none eq tells k (x ∷ xs) h = let again = but-none eq tells k xs in grind (arith, h)

-- Finding in lists whose elements have keys.
use Rattle.jn_storage.proofs.Common.{◌≡◌, ℕ, zero, suc, ◌<◌, ◌+◌, Bool, true, false, ◌||◌, if◌then◌else◌, List, [], ◌∷◌, ◌++◌, Some, None, length, map, refl, ap, arith, slice_index_or, slice_set, filter, is_some, is_in, are_different}
use Rattle.jn_storage.proofs.Listings.{Tells}
use Rattle.jn_storage.specs.Finding.{find_by}

pub find-listed : {A K : Type 0} (eq : K → K → Bool) (key : A → K) (xs : List A) (k : K) → is_in eq k (map key xs) ≡ is_some (find_by eq key xs k)
find-listed eq key [] k = refl
find-listed eq key (y ∷ ys) k = let again = find-listed eq key ys k in grind arith

pub find-add : {A K : Type 0} (eq : K → K → Bool) (key : A → K) (xs : List A) (x : A) (k : K) → find_by eq key (xs ++ x ∷ []) k ≡ (if is_some (find_by eq key xs k) then find_by eq key xs k else if eq (key x) k then Some x else None)
find-add eq key [] x k = refl
find-add eq key (y ∷ ys) x k = let again = find-add eq key ys x k in grind arith

pub find-kept : {A K : Type 0} (eq : K → K → Bool) → Tells eq → (key : A → K) (keep : K → Bool) (xs : List A) (k : K) → find_by eq key (filter (λ x. keep (key x)) xs) k ≡ (if keep k then find_by eq key xs k else None)
find-kept eq tells key keep [] k = grind arith
find-kept eq tells key keep (y ∷ ys) k = let again = find-kept eq tells key keep ys k in let t = tells (key y) k in let same = ap keep {x = key y} {y = k} in grind arith

pub keys-kept : {A K : Type 0} (key : A → K) (keep : K → Bool) (xs : List A) → map key (filter (λ x. keep (key x)) xs) ≡ filter keep (map key xs)
keys-kept key keep [] = refl
keys-kept key keep (y ∷ ys) = let again = keys-kept key keep ys in grind arith

pub in-kept : {K : Type 0} (eq : K → K → Bool) (keep : K → Bool) (k : K) (ks : List K) → is_in eq k ks ≡ false → is_in eq k (filter keep ks) ≡ false
in-kept eq keep k [] h = refl
in-kept eq keep k (x ∷ ks) h = let again = in-kept eq keep k ks in grind (arith, h)

pub different-kept : {K : Type 0} (eq : K → K → Bool) (keep : K → Bool) (ks : List K) → are_different eq ks ≡ true → are_different eq (filter keep ks) ≡ true
different-kept eq keep [] h = refl
different-kept eq keep (x ∷ ks) h = let again = different-kept eq keep ks in let out = in-kept eq keep x ks in grind (arith, h)

pub in-add : {K : Type 0} (eq : K → K → Bool) (k x : K) (ks : List K) → is_in eq k (ks ++ x ∷ []) ≡ (is_in eq k ks || eq x k)
in-add eq k x [] = grind arith
in-add eq k x (y ∷ ks) = let again = in-add eq k x ks in grind arith

pub different-add : {K : Type 0} (eq : K → K → Bool) → Tells eq → (x : K) (ks : List K) → are_different eq ks ≡ true → is_in eq x ks ≡ false → are_different eq (ks ++ x ∷ []) ≡ true
different-add eq tells x [] h new = refl
different-add eq tells x (y ∷ ks) h new = let again = different-add eq tells x ks in let a = in-add eq y x ks in let t = tells y x in let u = tells x y in grind (arith, h, new)

pub map-add : {A K : Type 0} (key : A → K) (xs : List A) (x : A) → map key (xs ++ x ∷ []) ≡ map key xs ++ key x ∷ []
map-add key [] x = refl
map-add key (y ∷ ys) x = ap (λ l. key y ∷ l) (map-add key ys x)

-- an element is replaced by one with its key
pub keys-set : {A K : Type 0} (key : A → K) (xs : List A) (i : ℕ) (x : A) → key x ≡ key (slice_index_or xs i x) → map key (slice_set xs i x) ≡ map key xs
keys-set key [] i x e = refl
keys-set key (y ∷ ys) zero x e = ap (λ k. k ∷ map key ys) e
keys-set key (y ∷ ys) (suc i) x e = ap (λ l. key y ∷ l) (keys-set key ys i x e)

in-at : {A K : Type 0} (eq : K → K → Bool) → Tells eq → (key : A → K) (xs : List A) (i : ℕ) (d : A) → i < length xs → is_in eq (key (slice_index_or xs i d)) (map key xs) ≡ true
in-at eq tells key [] i d h = absurd (omega (arith, h))
in-at eq tells key (y ∷ ys) zero d h = let t = tells (key y) (key y) in grind arith
in-at eq tells key (y ∷ ys) (suc i) d h = let again = in-at eq tells key ys i d (omega (arith, h)) in grind arith

pub find-set : {A K : Type 0} (eq : K → K → Bool) → Tells eq → (key : A → K) (xs : List A) (i : ℕ) (x : A) (k : K) → i < length xs → are_different eq (map key xs) ≡ true → key x ≡ key (slice_index_or xs i x)
    → find_by eq key (slice_set xs i x) k ≡ (if eq (key x) k then Some x else find_by eq key xs k)
find-set eq tells key [] i x k h d e = absurd (omega (arith, h))
find-set eq tells key (y ∷ ys) zero x k h d e = grind (arith, e)
find-set eq tells key (y ∷ ys) (suc i) x k h d e = let again = find-set eq tells key ys i x k (omega (arith, h)) (grind (arith, d)) e in let at = in-at eq tells key ys i x (omega (arith, h)) in let t = tells (key y) k in let u = tells (key x) k in grind (arith, d, e)

-- and found where it stands
pub find-at : {A K : Type 0} (eq : K → K → Bool) → Tells eq → (key : A → K) (xs : List A) (i : ℕ) (d : A) → i < length xs → are_different eq (map key xs) ≡ true → find_by eq key xs (key (slice_index_or xs i d)) ≡ Some (slice_index_or xs i d)
find-at eq tells key [] i d h e = absurd (omega (arith, h))
find-at eq tells key (y ∷ ys) zero d h e = let t = tells (key y) (key y) in grind arith
find-at eq tells key (y ∷ ys) (suc i) d h e = let again = find-at eq tells key ys i d (omega (arith, h)) (grind (arith, e)) in let at = in-at eq tells key ys i d (omega (arith, h)) in let t = tells (key y) (key (slice_index_or ys i d)) in grind (arith, e)

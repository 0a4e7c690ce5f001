-- What is collected of a list, by its keys.
use Rattle.jn_recovery.proofs.Common.{◌≡◌, ⊎_elim, ◌+◌, ℕ, Bool, true, false, not, ◌||◌, ◌&&◌, if◌then◌else◌, List, [], ◌∷◌, length, map, get_or, Option, Some, None, refl, sym, ◌∙◌, ap, true≢false, arith, option_map, option_and_then, find, list_any, with_first, PassesOnce, find_by, total, is_in, are_different, Tells, collected}
use Rattle.jn_recovery.proofs.Totals.{total_same, total_ones, none_later, once_later}

abbrev pub is_key : {K : Type 0} → (K → K → Bool) → K → Option K → Bool
is_key eq k None = false
is_key eq k (Some j) = eq j k

abbrev pub on_key : {K : Type 0} → (K → ℕ) → Option K → ℕ
on_key f None = 0
on_key f (Some k) = f k

-- the keys of what is collected
pub keys_of : {A B K : Type 0} (f : A → Option B) (name : B → K) (key : A → Option K) → ((a : A) → option_map name (f a) ≡ key a) → (xs : List A) → map name (collected f xs) ≡ collected key xs
keys_of f name key same [] = refl
keys_of {A} {B} {K} f name key same (x ∷ xs) = first (f x) (collected f xs) ∙ ap (λ o. with_first o (map name (collected f xs))) (same x) ∙ ap (λ l. with_first (key x) l) (keys_of f name key same xs)
  where
    first : (o : Option B) (l : List B) → map name (with_first o l) ≡ with_first (option_map name o) (map name l)
    first None l = refl
    first (Some b) l = refl

module _ {A K : Type 0} (key : A → Option K) where
  pub keys_total : (f : K → ℕ) (xs : List A) → total f (collected key xs) ≡ total (λ a. on_key f (key a)) xs
  keys_total f [] = refl
  keys_total f (x ∷ xs) = by (key x) (keys_total f xs)
    where
      by : (o : Option K) → total f (collected key xs) ≡ total (λ a. on_key f (key a)) xs → total f (with_first o (collected key xs)) ≡ on_key f o + total (λ a. on_key f (key a)) xs
      by None again = omega (arith, again)
      by (Some k) again = omega (arith, again)

  pub keys_length : (xs : List A) → length (collected key xs) ≡ total (λ a. on_key (λ k. 1) (key a)) xs
  keys_length xs = sym (total_ones (collected key xs)) ∙ keys_total (λ k. 1) xs

  -- two counts of each key, place by place
  pub keys_same : (d : A) (f g : K → ℕ) (xs : List A) → ((j : ℕ) (k : K) → key (get_or xs j d) ≡ Some k → f k ≡ g k) → total f (collected key xs) ≡ total g (collected key xs)
  keys_same d f g xs same = keys_total f xs ∙ total_same d (λ a. on_key f (key a)) (λ a. on_key g (key a)) xs (λ j. by j (key (get_or xs j d)) refl) ∙ sym (keys_total g xs)
    where
      by : (j : ℕ) (o : Option K) → key (get_or xs j d) ≡ o → on_key f o ≡ on_key g o
      by j None e = refl
      by j (Some k) e = same j k e

  module _ (eq : K → K → Bool) (tells : Tells eq) (is : K → A → Bool) (link : (k : K) (a : A) → is k a ≡ is_key eq k (key a)) where
    pub keys_in : (k : K) (xs : List A) → is_in eq k (collected key xs) ≡ list_any (is k) xs
    keys_in k [] = refl
    keys_in k (x ∷ xs) = by (key x) (keys_in k xs) ∙ sym (ap (λ b. b || list_any (is k) xs) (link k x))
      where
        by : (o : Option K) → is_in eq k (collected key xs) ≡ list_any (is k) xs → is_in eq k (with_first o (collected key xs)) ≡ (is_key eq k o || list_any (is k) xs)
        by None again = again
        by (Some j) again = ap (λ b. eq j k || b) again

    pub keys_differ : (d : A) (xs : List A) → ((k : K) → PassesOnce (λ i. is k (get_or xs i d))) → are_different eq (collected key xs) ≡ true
    keys_differ d [] once = refl
    keys_differ d (x ∷ xs) once = by (key x) refl (keys_differ d xs (λ k. once_later (is k) d x xs (once k)))
      where
        own : (k : K) → eq k k ≡ true
        own k = ⊎_elim (λ h. h.0) (λ h. absurd (h.1 refl)) (tells k k)

        by : (o : Option K) → key x ≡ o → are_different eq (collected key xs) ≡ true → are_different eq (with_first o (collected key xs)) ≡ true
        by None e again = again
        by (Some k) e again =
            let here : is k x ≡ true = link k x ∙ ap (is_key eq k) e ∙ own k in
            ap (λ b. not b && are_different eq (collected key xs)) (keys_in k xs ∙ none_later (is k) d x xs here (once k)) ∙ again

    -- what is found by its key
    pub found_by : {B : Type 0} (f : A → Option B) (name : B → K) → ((a : A) → option_map name (f a) ≡ key a) → (xs : List A) (k : K) → find_by eq name (collected f xs) k ≡ option_and_then f (find (is k) xs)
    found_by f name same [] k = refl
    found_by {B} f name same (x ∷ xs) k = by (f x) refl (found_by f name same xs k)
      where
        skip : (b : Bool) → b ≡ false → option_and_then f (find (is k) xs) ≡ option_and_then f (if b then Some x else find (is k) xs)
        skip true e = absurd (true≢false e)
        skip false e = refl

        is_it : (o : Option B) → f x ≡ o → is k x ≡ is_key eq k (option_map name o)
        is_it o e = link k x ∙ ap (is_key eq k) (sym (same x) ∙ ap (option_map name) e)

        by : (o : Option B) → f x ≡ o → find_by eq name (collected f xs) k ≡ option_and_then f (find (is k) xs) → find_by eq name (with_first o (collected f xs)) k ≡ option_and_then f (if is k x then Some x else find (is k) xs)
        by None e again = again ∙ skip (is k x) (is_it None e)
        by (Some b) e again = ap (λ o. if eq (name b) k then Some b else o) again ∙ pick (eq (name b) k) (is k x) (is_it (Some b) e)
          where
            pick : (u v : Bool) → v ≡ u → (if u then Some b else option_and_then f (find (is k) xs)) ≡ option_and_then f (if v then Some x else find (is k) xs)
            pick true true h = sym e
            pick false false h = refl
            pick true false h = absurd (true≢false (sym h))
            pick false true h = absurd (true≢false h)

-- Rows of one length, one after another in a list.
use Rattle.jn_image.proofs.Common.{◌≡◌, ◌<◌, ◌+◌, ℕ, zero, suc, List, [], ◌∷◌, ◌++◌, length, get_or, replicate, refl, sym, ap, ◌∙◌, arith, length-append, flat_map, AllByRecursion, get_or-append, get_or-append-add}

-- where a row begins
abbrev pub begin : ℕ → ℕ → ℕ
begin size zero = 0
begin size (suc i) = size + begin size i

module _ {A : Type 0} (f : A → List ℕ) (size : ℕ) (d : A) (none : (p : ℕ) → get_or (f d) p 0 ≡ 0) where
  -- what stands in the i-th row
  pub row : (xs : List A) → AllByRecursion (λ x. length (f x) ≡ size) xs → (i p : ℕ) → p < size → get_or (flat_map f xs) (begin size i + p) 0 ≡ get_or (f (get_or xs i d)) p 0
  row [] all i p lt = sym (none p)
  row (x ∷ xs) all zero p lt =
      let long : length (f x) ≡ size = all.0 in
      let at : begin size zero + p ≡ p = omega arith in
      ap (λ k. get_or (f x ++ flat_map f xs) k 0) at ∙ get_or-append (f x) (flat_map f xs) 0 p (omega (arith, long, lt))
  row (x ∷ xs) all (suc i) p lt =
      let long : length (f x) ≡ size = all.0 in
      let at : begin size (suc i) + p ≡ length (f x) + (begin size i + p) = omega (arith, long) in
      ap (λ k. get_or (f x ++ flat_map f xs) k 0) at ∙ get_or-append-add (f x) (flat_map f xs) (begin size i + p) 0 ∙ row xs all.1 i p lt

  pub rows_length : (xs : List A) → AllByRecursion (λ x. length (f x) ≡ size) xs → length (flat_map f xs) ≡ begin size (length xs)
  rows_length [] all = refl
  rows_length (x ∷ xs) all =
      let long : length (f x) ≡ size = all.0 in
      let more : length (flat_map f xs) ≡ begin size (length xs) = rows_length xs all.1 in
      let all_of : length (f x ++ flat_map f xs) ≡ length (f x) + length (flat_map f xs) = length-append (f x) (flat_map f xs) in
      all_of ∙ omega (arith, long, more)

-- each of them has the length
pub sizes : {A : Type 0} (f : A → List ℕ) (size : ℕ) (d : A) (xs : List A) → ((i : ℕ) → i < length xs → length (f (get_or xs i d)) ≡ size) → AllByRecursion (λ x. length (f x) ≡ size) xs
sizes f size d [] each = tt
sizes f size d (x ∷ xs) each = (each 0 (omega arith), sizes f size d xs (λ i lt. each (suc i) (omega (arith, lt))))

pub zeros_there : (n p : ℕ) → ◌≡◌ {A = ℕ} (get_or (replicate n 0) p 0) 0
zeros_there zero p = refl
zeros_there (suc n) zero = refl
zeros_there (suc n) (suc p) = zeros_there n p

-- ---- values by their numbers

abbrev pub numbered : {A : Type 0} → (ℕ → A) → ℕ → ℕ → List A
numbered f i zero = []
numbered f i (suc n) = f i ∷ numbered f (i + 1) n

pub numbered_length : {A : Type 0} (f : ℕ → A) (i n : ℕ) → length (numbered f i n) ≡ n
numbered_length f i zero = refl
numbered_length f i (suc n) = ap suc (numbered_length f (i + 1) n)

pub numbered_at : {A : Type 0} (f : ℕ → A) (i n k : ℕ) (d : A) → k < n → get_or (numbered f i n) k d ≡ f (i + k)
numbered_at f i zero k d lt = absurd (omega (arith, lt))
numbered_at f i (suc n) zero d lt = ap f (omega arith)
numbered_at f i (suc n) (suc k) d lt = numbered_at f (i + 1) n k d (omega (arith, lt)) ∙ ap f (omega arith)

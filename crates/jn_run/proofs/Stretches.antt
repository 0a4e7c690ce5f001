-- Lists that are gone through a stretch at a time.
use Rattle.jn_run.proofs.Common.{◌≡◌, ◌∙◌, ℕ, zero, suc, ◌+◌, ◌<◌, List, [], ◌∷◌, ◌++◌, length, drop, ap, sym, subst, arith, length-drop, length-take, take-append-drop, AllByRecursion, take}

module _ {A : Type 0} (P : A → Type 0) where
  all-take : (n : ℕ) (xs : List A) → AllByRecursion P xs → AllByRecursion P (take n xs)
  all-take zero xs all = tt
  all-take (suc n) [] all = tt
  all-take (suc n) (x ∷ xs) all = (all.0, all-take n xs all.1)

  all-drop : (n : ℕ) (xs : List A) → AllByRecursion P xs → AllByRecursion P (drop n xs)
  all-drop zero xs all = all
  all-drop (suc n) [] all = tt
  all-drop (suc n) (x ∷ xs) all = all-drop n xs all.1

  -- what holds of all holds of a stretch, and of what is left
  pub stretch-all : (n : ℕ) (xs stretch : List A) → stretch ≡ take n xs → AllByRecursion P xs → AllByRecursion P stretch
  stretch-all n xs stretch is all = subst (AllByRecursion P) (sym is) (all-take n xs all)

  pub left-all : (n : ℕ) (xs left : List A) → left ≡ drop n xs → AllByRecursion P xs → AllByRecursion P left
  left-all n xs left is all = subst (AllByRecursion P) (sym is) (all-drop n xs all)

-- a stretch and what is left are all
pub stretch-joins : {A : Type 0} (n : ℕ) (xs stretch left : List A) → stretch ≡ take n xs → left ≡ drop n xs → stretch ++ left ≡ xs
stretch-joins {A} n xs stretch left is rest = ap (λ (s : List A). s ++ left) is ∙ ap (λ (l : List A). take n xs ++ l) rest ∙ take-append-drop n xs

pub stretch-length : {A : Type 0} (n : ℕ) (xs stretch left : List A) → stretch ≡ take n xs → left ≡ drop n xs → length stretch + length left ≡ length xs
stretch-length {A} n xs stretch left is rest =
    let front = ap (λ (s : List A). length s) is ∙ length-take n xs in
    let back = ap (λ (l : List A). length l) rest ∙ length-drop n xs in
    omega (arith, front, back)

-- some are taken each time
pub stretch-shorter : {A : Type 0} (n : ℕ) (xs left : List A) → 0 < n → 0 < length xs → left ≡ drop n xs → length left < length xs
stretch-shorter {A} n xs left some more rest =
    let back = ap (λ (l : List A). length l) rest ∙ length-drop n xs in
    omega (arith, back, some, more)

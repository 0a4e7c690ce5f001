-- Fronts of lists.
use Rattle.std.proofs.Common.{◌≡◌, ℕ, zero, suc, ◌-◌, ◌≤◌, List, [], ◌∷◌, ◌++◌, length, take, drop, refl, sym, ◌∙◌, ap, arith}
use Rattle.std.specs.Prelude.{min}
use Rattle.std.proofs.lemmas.List.{drop-append-le, length-drop}

take-none : {A : Type 0} (k : ℕ) → take {A = A} k [] ≡ []
take-none zero = refl
take-none (suc k) = refl

-- of two lists, one behind the other
pub take-both : (n : ℕ) (xs ys : List ℕ) → take n (xs ++ ys) ≡ take n xs ++ take (n - length xs) ys
take-both n [] ys = rw (take-none {A = ℕ} n) (ap (λ (k : ℕ). take k ys) (omega arith))
take-both zero (x ∷ xs) ys = ap (λ (k : ℕ). take k ys) (let e : 0 ≡ 0 - suc (length xs) = omega arith in e)
take-both (suc n) (x ∷ xs) ys = ap (λ (zs : List ℕ). x ∷ zs) (take-both n xs ys ∙ ap (λ (k : ℕ). take n xs ++ take k ys) (let e : n - length xs ≡ suc n - suc (length xs) = omega arith in e))

pub drop-first : (offset n : ℕ) (xs : List ℕ) → drop offset (take n xs) ≡ take (n - offset) (drop offset xs)
drop-first zero n xs = ap (λ (k : ℕ). take k xs) (let e : n ≡ n - 0 = omega arith in e)
drop-first (suc o) zero xs = sym (ap (λ (k : ℕ). take k (drop (suc o) xs)) (let e : 0 - suc o ≡ 0 = omega arith in e))
drop-first (suc o) (suc n) [] = sym (take-none {A = ℕ} (suc n - suc o))
drop-first (suc o) (suc n) (x ∷ xs) = drop-first o n xs ∙ ap (λ (k : ℕ). take k (drop o xs)) (let e : n - o ≡ suc n - suc o = omega arith in e)

pub take-twice : (a b : ℕ) (xs : List ℕ) → take a (take b xs) ≡ take (min a b) xs
take-twice zero b xs = ap (λ (k : ℕ). take k xs) (let e : 0 ≡ min 0 b = omega arith in e)
take-twice (suc a) zero xs = ap (λ (k : ℕ). take k xs) (let e : 0 ≡ min (suc a) 0 = omega arith in e)
take-twice (suc a) (suc b) [] = sym (take-none {A = ℕ} (min (suc a) (suc b)))
take-twice (suc a) (suc b) (x ∷ xs) = ap (λ (ys : List ℕ). x ∷ ys) (take-twice a b xs) ∙ ap (λ (k : ℕ). take k (x ∷ xs)) (let e : suc (min a b) ≡ min (suc a) (suc b) = omega arith in e)

-- of the first n those that are wanted
pub wanted : (offset count n : ℕ) (xs : List ℕ) → take count (drop offset (take n xs)) ≡ take (min count (n - offset)) (drop offset xs)
wanted offset count n xs = ap (take count) (drop-first offset n xs) ∙ take-twice count (n - offset) (drop offset xs)

-- within a block and behind it
pub take-of : (from left : ℕ) (b s : List ℕ) → length b ≡ 448 → from ≤ 448 → take left (drop from (b ++ s)) ≡ take left (drop from b) ++ take (left - (448 - from)) s
take-of from left b s l k = ap (take left) (drop-append-le from b s (omega (arith, l, k))) ∙ take-both left (drop from b) s
    ∙ ap (λ (n : ℕ). take left (drop from b) ++ take (left - n) s) (length-drop from b ∙ ap (λ (n : ℕ). n - from) l)

-- The bytes without the zeros at their end, seen from their end.
use Rattle.std.proofs.Common.{◌≡◌, ◌≢◌, ℕ, ◌-◌, ◌<◌, ◌≤◌, List, [], ◌∷◌, ◌++◌, length, take, get_or, replicate, ap, refl, arith, suc, zero, ◌∙◌, sym}
use Rattle.std.proofs.lemmas.Bool.Decides.{nat_tests}
use Rattle.std.proofs.lemmas.Grind.{common_steps}
use Rattle.jn_text.specs.Words.{before_zeros, without_end_zeros}

-- a zero at the end is left out
without_end_zeros-zero : (xs : List ℕ) → without_end_zeros (xs ++ 0 ∷ []) ≡ without_end_zeros xs
without_end_zeros-zero [] = refl
without_end_zeros-zero (x ∷ xs) = ap (before_zeros x) (without_end_zeros-zero xs)

-- and so are many of them
zeros_alone : (n : ℕ) → without_end_zeros (replicate n 0) ≡ []
zeros_alone zero = refl
zeros_alone (suc n) = ap (before_zeros 0) (zeros_alone n)

pub without_end_zeros-zeros : (xs : List ℕ) (n : ℕ) → without_end_zeros (xs ++ replicate n 0) ≡ without_end_zeros xs
without_end_zeros-zeros [] n = zeros_alone n
without_end_zeros-zeros (x ∷ xs) n = ap (before_zeros x) (without_end_zeros-zeros xs n)

-- bytes that end in another byte stay
without_end_zeros-other : (xs : List ℕ) (b : ℕ) → b ≢ 0 → without_end_zeros (xs ++ b ∷ []) ≡ xs ++ b ∷ []
without_end_zeros-other [] b other = grind (arith, nat_tests)
without_end_zeros-other (x ∷ []) b other = grind (arith, nat_tests, without_end_zeros-other [] b other)
without_end_zeros-other (x ∷ y ∷ xs) b other = ap (before_zeros x) (without_end_zeros-other (y ∷ xs) b other)

take-last : (xs : List ℕ) (n : ℕ) → 0 < n → n ≤ length xs → take n xs ≡ take (n - 1) xs ++ get_or xs (n - 1) 0 ∷ []
take-last xs n some within = grind (arith, common_steps)

-- one byte less, where it is a zero
pub without_end_zeros-shorter : (xs : List ℕ) (n : ℕ) → 0 < n → n ≤ length xs → get_or xs (n - 1) 0 ≡ 0 → without_end_zeros (take (n - 1) xs) ≡ without_end_zeros (take n xs)
without_end_zeros-shorter xs n some within last =
    sym (ap without_end_zeros (take-last xs n some within ∙ ap (λ (b : ℕ). take (n - 1) xs ++ b ∷ []) last) ∙ without_end_zeros-zero (take (n - 1) xs))

-- nothing less, where it is another byte
pub without_end_zeros-kept : (xs : List ℕ) (n : ℕ) → 0 < n → n ≤ length xs → get_or xs (n - 1) 0 ≢ 0 → without_end_zeros (take n xs) ≡ take n xs
without_end_zeros-kept xs n some within other =
    ap without_end_zeros (take-last xs n some within) ∙ without_end_zeros-other (take (n - 1) xs) _ other ∙ sym (take-last xs n some within)

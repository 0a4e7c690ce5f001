-- Zeros at the end of a list.
use Rattle.std.proofs.Common.{◌≡◌, ◌≤◌, ◌+◌, ◌-◌, ◌++◌, ◌∷◌, [], ℕ, List, Bool, true, false, length, replicate, nat_eq, ap, refl, sym, ◌∙◌, arith, subst, suc}
use Rattle.std.proofs.lemmas.List.{length-append, length-replicate}
use Rattle.std.proofs.lemmas.Bool.{eqb-true}
use Rattle.jn_text.specs.Words.{before_zeros, without_end_zeros}

-- so many zeros stand behind the bytes
abbrev Followed : List ℕ → List ℕ → Type 0
Followed used whole = (n : ℕ) × (used ++ replicate n 0 ≡ whole)

followed_alone : (x : ℕ) (xs : List ℕ) (n : ℕ) → replicate n 0 ≡ xs → (b : Bool) → nat_eq x 0 ≡ b → Followed (before_zeros x []) (x ∷ xs)
followed_alone x xs n rest true same = rw same (suc n, ap (λ (ys : List ℕ). 0 ∷ ys) rest ∙ ap (λ (y : ℕ). y ∷ xs) (sym (eqb-true x 0 same)))
followed_alone x xs n rest false same = rw same (n, ap (λ (ys : List ℕ). x ∷ ys) rest)

followed_more : (x : ℕ) (xs used : List ℕ) → Followed used xs → Followed (before_zeros x used) (x ∷ xs)
followed_more x xs [] (n, rest) = followed_alone x xs n rest (nat_eq x 0) refl
followed_more x xs (c ∷ cs) (n, rest) = (n, ap (λ (ys : List ℕ). x ∷ ys) rest)

followed : (xs : List ℕ) → Followed (without_end_zeros xs) xs
followed [] = (0, refl)
followed (x ∷ xs) = followed_more x xs (without_end_zeros xs) (followed xs)

counted : (used whole : List ℕ) → Followed used whole → (length used ≤ length whole) × (used ++ replicate (length whole - length used) 0 ≡ whole)
counted used whole (n, rest) =
    let long : length used + n ≡ length whole = ap (λ (k : ℕ). length used + k) (sym (length-replicate n 0)) ∙ sym (length-append used (replicate n 0)) ∙ ap length rest in
    let zeros : length whole - length used ≡ n = omega (arith, long) in
    (omega (arith, long), ap (λ (k : ℕ). used ++ replicate k 0) zeros ∙ rest)

-- the bytes before the zeros at a list's end are the list with zeros behind
pub zeros_behind : (size : ℕ) (used whole : List ℕ) → used ≡ without_end_zeros whole → length whole ≡ size → (length used ≤ size) × (used ++ replicate (size - length used) 0 ≡ whole)
zeros_behind size used whole before long =
    let all = counted used whole (subst (λ (xs : List ℕ). Followed xs whole) (sym before) (followed whole)) in
    subst (λ (n : ℕ). (length used ≤ n) × (used ++ replicate (n - length used) 0 ≡ whole)) long all

-- Values one after another, as a loop puts them.
use Rattle.jn_records.proofs.Common.{◌≡◌, ℕ, suc, ◌*◌, ◌+◌, ◌≤◌, List, [], ◌∷◌, ◌++◌, length, sym, ap, ◌∙◌, arith, length-append, flat_map}
use Rattle.std.proofs.Math.Nat.{mul-suc}

-- the next value still fits
pub next_fits : {X : Type 0} (f : X → List ℕ) (page total : List ℕ) (x : X) (xs : List X) → page ++ flat_map f (x ∷ xs) ≡ total → length total ≤ 512 → length page + length (f x) ≤ 512
next_fits f page total x xs e fits =
    let whole : length (page ++ (f x ++ flat_map f xs)) ≡ length total = ap length e in
    omega (arith, whole, length-append page (f x ++ flat_map f xs), length-append (f x) (flat_map f xs))

-- values of one size take that size for each
pub length-fields : {X : Type 0} (f : X → List ℕ) (size : ℕ) → ((x : X) → length (f x) ≡ size) → (xs : List X) → length (flat_map f xs) ≡ size * length xs
length-fields f size each [] = omega arith
length-fields f size each (x ∷ xs) =
    let k : size * suc (length xs) ≡ size * length xs + size = mul-suc size (length xs) in
    let one : length (f x) ≡ size = each x in
    let ih : length (flat_map f xs) ≡ size * length xs = length-fields f size each xs in
    let n : suc (length xs) ≡ length (x ∷ xs) = omega arith in
    length-append (f x) (flat_map f xs) ∙ (let sum : length (f x) + length (flat_map f xs) ≡ size * length xs + size = omega (arith, one, ih) in sum) ∙ sym k ∙ ap (λ (m : ℕ). size * m) n

-- how long bytes are with a piece behind them
pub grows : (new old piece : List ℕ) (k : ℕ) → length piece ≡ k → new ≡ old ++ piece → length new ≡ length old + k
grows new old piece k len e = ap (λ (l : List ℕ). length l) e ∙ length-append old piece ∙ ap (λ (n : ℕ). length old + n) len

-- A length that is written once what follows it is there.
use Rattle.std.proofs.Common.{◌≡◌, ◌-◌, ℕ, List, [], ◌∷◌, ◌++◌, length, sym, ◌∙◌, ap, arith, append_assoc, length-append}
use Rattle.byteorder.specs.Endian.{big_bytes}

pub length-in-front : (old body mid put out : List ℕ) (at n : ℕ) → at ≡ length old → n ≡ length put → mid ≡ old ++ (0 ∷ 0 ∷ []) → put ≡ mid ++ body
    → ((front rest : List ℕ) → length front ≡ at → put ≡ front ++ (0 ∷ 0 ∷ rest) → out ≡ front ++ (big_bytes 2 (n - at - 2) ++ rest))
    → out ≡ old ++ (big_bytes 2 (length body) ++ body)
length-in-front old body mid put out at n start end first second written =
    let whole : put ≡ old ++ (0 ∷ 0 ∷ body) = second ∙ ap (λ (l : List ℕ). l ++ body) first ∙ append_assoc old (0 ∷ 0 ∷ []) body in
    let longer : length put ≡ length (old ++ (0 ∷ 0 ∷ body)) = ap (λ (l : List ℕ). length l) whole in
    let more = length-append old (0 ∷ 0 ∷ body) in
    let same : n - at - 2 ≡ length body = omega (arith, start, end, longer, more) in
    written old body (sym start) whole ∙ ap (λ (n : ℕ). old ++ (big_bytes 2 n ++ body)) same

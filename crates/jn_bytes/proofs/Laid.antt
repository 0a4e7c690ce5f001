-- Bytes laid over others.
use Rattle.std.proofs.Common.{◌≡◌, ◌⊎◌, inl, inr, ℕ, zero, suc, ◌+◌, ◌-◌, ◌≤◌, ◌<◌, Bool, true, false, List, [], ◌∷◌, ◌++◌, length, take, drop, get_or, Some, None, refl, sym, ◌∙◌, ap, arith, append_assoc, drop-cons}
use Rattle.std.specs.Prelude.{nat_lt, if◌then◌else◌}
use Rattle.std.specs.List.{slice_get}
use Rattle.std.proofs.lemmas.Bool.Decides.{nat_tests}
use Rattle.std.proofs.lemmas.Option.{slice_get_cases}
use Rattle.std.proofs.lemmas.List.{take_all, drop_all, length-drop, drop-drop}
use Rattle.jn_order.specs.Files.{or_else}
use Rattle.jn_bytes.specs.ByteFiles.{laid_over}

drop-none : {A : Type 0} (n : ℕ) → drop {A = A} n [] ≡ []
drop-none zero = refl
drop-none (suc n) = refl

take-none : (n : ℕ) (ys : List ℕ) → take n [] ++ ys ≡ ys
take-none zero ys = refl
take-none (suc n) ys = refl

pub length-laid : (offset : ℕ) (bytes : List ℕ) (at : ℕ) (old : List ℕ) → length (laid_over offset bytes at old) ≡ length old
length-laid offset bytes at [] = refl
length-laid offset bytes at (x ∷ xs) = ap suc (length-laid offset bytes (at + 1) xs)

-- before their place nothing changes
pub laid-before : (offset : ℕ) (bytes : List ℕ) (at k : ℕ) (old : List ℕ) → at + k ≡ offset → k ≤ length old → laid_over offset bytes at old ≡ take k old ++ laid_over offset bytes offset (drop k old)
laid-before offset bytes at zero old e l = ap (λ (n : ℕ). laid_over offset bytes n old) (omega (arith, e))
laid-before offset bytes at (suc k) [] e l = absurd (omega (arith, l))
laid-before offset bytes at (suc k) (x ∷ xs) e l =
    let here : nat_lt at offset ≡ true = grind (arith, nat_tests) in
    rw here (ap (λ (ys : List ℕ). x ∷ ys) (laid-before offset bytes (at + 1) k xs (omega (arith, e)) (omega (arith, l))))

-- from their place on they stand, and behind them what was there
pub laid-from : (offset : ℕ) (bytes : List ℕ) (j : ℕ) (old : List ℕ) → laid_over offset bytes (offset + j) old ≡ take (length old) (drop j bytes) ++ drop (length bytes - j) old
laid-from offset bytes j [] = sym (drop-none (length bytes - j))
laid-from offset bytes j (x ∷ xs) = by (laid-from offset bytes (suc j) xs) (slice_get_cases bytes j).1
  where
    later : nat_lt (offset + j) offset ≡ false
    later = grind (arith, nat_tests)

    place : offset + j - offset ≡ j
    place = omega arith

    next-of : laid_over offset bytes (offset + suc j) xs ≡ take (length xs) (drop (suc j) bytes) ++ drop (length bytes - suc j) xs → laid_over offset bytes (offset + j + 1) xs ≡ take (length xs) (drop (suc j) bytes) ++ drop (length bytes - suc j) xs
    next-of again = ap (λ (n : ℕ). laid_over offset bytes n xs) (let e : offset + j + 1 ≡ offset + suc j = omega arith in e) ∙ again

    by : laid_over offset bytes (offset + suc j) xs ≡ take (length xs) (drop (suc j) bytes) ++ drop (length bytes - suc j) xs → ((b : ℕ) × (j < length bytes) × (slice_get bytes j ≡ Some b) × (get_or bytes j b ≡ b)) ⊎ ((length bytes ≤ j) × (slice_get bytes j ≡ None))
        → laid_over offset bytes (offset + j) (x ∷ xs) ≡ take (length (x ∷ xs)) (drop j bytes) ++ drop (length bytes - j) (x ∷ xs)
    by again (inl (b, l, is, same)) =
        let front : drop j bytes ≡ b ∷ drop (suc j) bytes = drop-cons bytes j b l ∙ ap (λ (y : ℕ). y ∷ drop (suc j) bytes) same in
        let less : length bytes - j ≡ suc (length bytes - suc j) = omega (arith, l) in
        rw (later, place, is, front, less) (ap (λ (ys : List ℕ). b ∷ ys) (next-of again))
    by again (inr (l, is)) =
        let none : drop j bytes ≡ [] = drop_all j bytes l in
        let next_none : drop (suc j) bytes ≡ [] = drop_all (suc j) bytes (omega (arith, l)) in
        let less : length bytes - j ≡ 0 = omega (arith, l) in
        let next_less : length bytes - suc j ≡ 0 = omega (arith, l) in
        rw (later, place, is, none, less) (ap (λ (ys : List ℕ). x ∷ ys) (next-of again ∙ rw (next_none, next_less) (take-none (length xs) xs)))

-- past their end nothing changes
pub laid-past : (offset : ℕ) (bytes : List ℕ) (at : ℕ) (old : List ℕ) → offset + length bytes ≤ at → laid_over offset bytes at old ≡ old
laid-past offset bytes at old l =
    let e : offset + (at - offset) ≡ at = omega (arith, l) in
    let none : drop (at - offset) bytes ≡ [] = drop_all (at - offset) bytes (omega (arith, l)) in
    let less : length bytes - (at - offset) ≡ 0 = omega (arith, l) in
    ap (λ (n : ℕ). laid_over offset bytes n old) (sym e) ∙ laid-from offset bytes (at - offset) old ∙ rw (none, less) (take-none (length old) old)

-- and none before
pub laid-earlier : (offset : ℕ) (bytes : List ℕ) (at : ℕ) (old : List ℕ) → at + length old ≤ offset → laid_over offset bytes at old ≡ old
laid-earlier offset bytes at [] l = refl
laid-earlier offset bytes at (x ∷ xs) l =
    let here : nat_lt at offset ≡ true = grind (arith, nat_tests, l) in
    rw here (ap (λ (ys : List ℕ). x ∷ ys) (laid-earlier offset bytes (at + 1) xs (omega (arith, l))))

-- where there are none
pub laid-nothing : (offset at : ℕ) (old : List ℕ) → laid_over offset [] at old ≡ old
laid-nothing offset at [] = refl
laid-nothing offset at (x ∷ xs) = ap (λ (y : ℕ). y ∷ laid_over offset [] (at + 1) xs) (by (nat_lt at offset)) ∙ ap (λ (ys : List ℕ). x ∷ ys) (laid-nothing offset (at + 1) xs)
  where
    by : (b : Bool) → (if b then x else or_else (slice_get [] (at - offset)) x) ≡ x
    by true = refl
    by false = refl

-- over two lists, one behind the other
pub laid-append : (offset : ℕ) (bytes : List ℕ) (at : ℕ) (xs ys : List ℕ) → laid_over offset bytes at (xs ++ ys) ≡ laid_over offset bytes at xs ++ laid_over offset bytes (at + length xs) ys
laid-append offset bytes at [] ys = ap (λ (n : ℕ). laid_over offset bytes n ys) (omega arith)
laid-append offset bytes at (x ∷ xs) ys = ap (λ (zs : List ℕ). (if nat_lt at offset then x else or_else (slice_get bytes (at - offset)) x) ∷ zs)
    (laid-append offset bytes (at + 1) xs ys ∙ ap (λ (n : ℕ). laid_over offset bytes (at + 1) xs ++ laid_over offset bytes n ys) (let e : at + 1 + length xs ≡ at + suc (length xs) = omega arith in e))

-- where all have room
pub laid-within : (offset : ℕ) (bytes old : List ℕ) → offset + length bytes ≤ length old → laid_over offset bytes 0 old ≡ take offset old ++ bytes ++ drop (offset + length bytes) old
laid-within offset bytes old l =
    laid-before offset bytes 0 offset old (omega arith) (omega (arith, l))
    ∙ ap (λ (ys : List ℕ). take offset old ++ ys) (at-place (drop offset old) (let d = length-drop offset old in omega (arith, l, d)) ∙ ap (λ (ys : List ℕ). bytes ++ ys) (drop-drop (length bytes) offset old))
    ∙ sym (append_assoc (take offset old) bytes (drop (offset + length bytes) old))
  where
    at-place : (rest : List ℕ) → length bytes ≤ length rest → laid_over offset bytes offset rest ≡ bytes ++ drop (length bytes) rest
    at-place rest k = ap (λ (n : ℕ). laid_over offset bytes n rest) (let e : offset ≡ offset + 0 = omega arith in e) ∙ laid-from offset bytes 0 rest
        ∙ rw (take_all (length rest) bytes k) (ap (λ (n : ℕ). bytes ++ drop n rest) (let e : length bytes - 0 ≡ length bytes = omega arith in e))

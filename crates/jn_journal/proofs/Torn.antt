-- What a crash leaves of a few bytes.
use Rattle.std.proofs.Common.{◌≡◌, inl, inr, ⊎_elim, ◌≤◌, ◌+◌, ◌-◌, ◌*◌, ℕ, zero, suc, true, List, [], ◌∷◌, ◌++◌, length, take, drop, refl, sym, ◌∙◌, ap, ap₂, arith, if◌then◌else◌}
use Rattle.std.specs.Prelude.{nat_eq}
use Rattle.std.proofs.lemmas.Bool.Decides.{nat_tests}
use Rattle.jn_journal.specs.Torn.{IsTorn}
use Rattle.jn_journal.specs.Format.{zeros_in, doubled}
use Rattle.jn_journal.specs.Reading.{AreBytes}
use Rattle.jn_journal.specs.Steps.{is_doubled, may_be_doubled, halved}

-- ---- in two parts

pub torn-front : (a b file : List ℕ) → IsTorn (a ++ b) file → IsTorn a (take (length a) file)
torn-front [] b file h = tt
torn-front (x ∷ a) b [] h = tt
torn-front (x ∷ a) b (c ∷ file) h = (h.0, torn-front a b file h.1)

pub torn-rest : (a b file : List ℕ) → IsTorn (a ++ b) file → IsTorn b (drop (length a) file)
torn-rest [] b file h = h
torn-rest (x ∷ a) b [] h = tt
torn-rest (x ∷ a) b (c ∷ file) h = torn-rest a b file h.1

pub torn-join : (a b file : List ℕ) → IsTorn a (take (length a) file) → IsTorn b (drop (length a) file) → IsTorn (a ++ b) file
torn-join [] b file h k = k
torn-join (x ∷ a) b [] h k = tt
torn-join (x ∷ a) b (c ∷ file) h k = (h.0, torn-join a b file h.1 k)

-- of a longer file
pub torn-shorter : (written file more : List ℕ) → IsTorn written (file ++ more) → IsTorn written file
torn-shorter written [] more h = tt
torn-shorter [] (c ∷ file) more h = (h.0, torn-shorter [] file more h.1)
torn-shorter (w ∷ written) (c ∷ file) more h = (h.0, torn-shorter written file more h.1)

-- ---- what is left at most and at least

pub torn-itself : (bytes : List ℕ) → IsTorn bytes bytes
torn-itself [] = tt
torn-itself (b ∷ bytes) = (inl refl, torn-itself bytes)

pub prefix-torn : (written : List ℕ) (n : ℕ) → IsTorn written (take n written)
prefix-torn written zero = tt
prefix-torn [] (suc n) = tt
prefix-torn (w ∷ written) (suc n) = (inl refl, prefix-torn written n)

pub all-torn : (written zeros : List ℕ) → IsTorn [] zeros → IsTorn written (written ++ zeros)
all-torn [] zeros h = h
all-torn (w ∷ written) zeros h = (inl refl, all-torn written zeros h)

pub zeros-torn : (written file : List ℕ) → IsTorn [] file → IsTorn written file
zeros-torn written [] h = tt
zeros-torn [] (c ∷ file) h = h
zeros-torn (w ∷ written) (c ∷ file) h = (inr h.0, zeros-torn written file h.1)

-- ---- zeros tell what is missing

pub zeros-few : (bytes : List ℕ) → zeros_in bytes ≤ length bytes
zeros-few [] = omega arith
zeros-few (b ∷ bytes) = let rest = zeros-few bytes in grind (arith, rest, nat_tests)

pub zeros-append : (xs ys : List ℕ) → zeros_in (xs ++ ys) ≡ zeros_in xs + zeros_in ys
zeros-append [] ys = omega arith
zeros-append (x ∷ xs) ys = let rest = zeros-append xs ys in omega (arith, rest)

abbrev pub zero_of : ℕ → ℕ
zero_of b = if nat_eq b 0 then 1 else 0

-- one byte counts as one zero at most
zero_of-most : (b : ℕ) → zero_of b ≤ 1
zero_of-most b = grind (arith, nat_tests)

-- what is cut off counts as zeros
pub zeros-rise : (written left : List ℕ) → length left ≤ length written → IsTorn written left → zeros_in written ≤ zeros_in left + (length written - length left)
zeros-rise written [] e h = let few = zeros-few written in omega (arith, few)
zeros-rise [] (c ∷ left) e h = absurd (omega (arith, e))
zeros-rise (w ∷ written) (c ∷ left) e h =
    let rest = zeros-rise written left (omega (arith, e)) h.1 in
    elim h.0 [
      | inl same ↦ let here : zero_of c ≡ zero_of w = ap zero_of same in omega (arith, e, rest, here)
      | inr gone ↦ let here : zero_of c ≡ 1 = ap zero_of gone in let most = zero_of-most w in omega (arith, e, rest, here, most)
    ]

pub no-zero-more : (written left : List ℕ) → length left ≡ length written → IsTorn written left → zeros_in left ≤ zeros_in written → left ≡ written
no-zero-more [] [] e h few = refl
no-zero-more [] (c ∷ left) e h few = absurd (omega (arith, e))
no-zero-more (w ∷ written) [] e h few = absurd (omega (arith, e))
no-zero-more (w ∷ written) (c ∷ left) e h few =
    let equal : length left ≡ length written = omega (arith, e) in
    let rest = zeros-rise written left (omega (arith, equal)) h.1 in
    let more = no-zero-more written left equal h.1 in
    elim h.0 [
      | inl same ↦ ap₂ (λ (x : ℕ) (xs : List ℕ). x ∷ xs) same (more (grind (arith, few, same)))
      | inr gone ↦ let was : w ≡ 0 = grind (arith, rest, equal, few, gone, nat_tests) in
          ap₂ (λ (x : ℕ) (xs : List ℕ). x ∷ xs) (gone ∙ sym was) (more (grind (arith, few, gone, was)))
    ]

-- ---- headers

pub doubled-is : (bytes : List ℕ) → AreBytes bytes → is_doubled (doubled bytes) ≡ true
doubled-is [] all = refl
doubled-is (b ∷ bytes) all = let rest = doubled-is bytes all.1 in let small = all.0 in grind (arith, rest, small, nat_tests)

pub halved-doubled : (bytes : List ℕ) → halved (doubled bytes) ≡ bytes
halved-doubled [] = refl
halved-doubled (b ∷ bytes) = ap (λ (xs : List ℕ). b ∷ xs) (halved-doubled bytes)

pub length-doubled : (bytes : List ℕ) → length (doubled bytes) ≡ 2 * length bytes
length-doubled [] = refl
length-doubled (b ∷ bytes) = let rest = length-doubled bytes in omega (arith, rest)

-- a header of which nothing is missing is as it was written
pub whole-header : (numbers left : List ℕ) → length left ≡ length (doubled numbers) → IsTorn (doubled numbers) left → is_doubled left ≡ true → left ≡ doubled numbers
whole-header [] [] e h is = refl
whole-header [] (c ∷ left) e h is = absurd (omega (arith, e))
whole-header (b ∷ numbers) [] e h is = absurd (omega (arith, e))
whole-header (b ∷ numbers) (c ∷ []) e h is = absurd (omega (arith, e))
whole-header (b ∷ numbers) (c ∷ d ∷ left) e h is =
    let first = h.0 in let second = h.1.0 in
    let sum : c + d ≡ 255 = grind (arith, is, nat_tests) in
    let rest : is_doubled left ≡ true = grind (arith, is, nat_tests) in
    let c_is : c ≡ b = ⊎_elim (λ (x : c ≡ b). x) (λ (x : c ≡ 0). ⊎_elim (λ (y : d ≡ 255 - b). omega (arith, x, y, sum)) (λ (y : d ≡ 0). absurd (omega (arith, x, y, sum))) second) first in
    let d_is : d ≡ 255 - b = omega (arith, c_is, sum) in
    ap₂ (λ (x : ℕ) (xs : List ℕ). x ∷ xs) c_is (ap₂ (λ (x : ℕ) (xs : List ℕ). x ∷ xs) d_is (whole-header numbers left (omega (arith, e)) h.1.1 rest))

-- of any other each pair fits or lacks a byte
pub torn-header : (numbers left : List ℕ) → IsTorn (doubled numbers) left → may_be_doubled left ≡ true
torn-header numbers [] h = refl
torn-header numbers (c ∷ []) h = refl
torn-header [] (c ∷ d ∷ left) h = let rest = torn-header [] left h.1.1 in let first = h.0 in grind (arith, rest, first, nat_tests)
torn-header (b ∷ numbers) (c ∷ d ∷ left) h =
    let first = h.0 in let second = h.1.0 in
    let rest = torn-header numbers left h.1.1 in
    grind (arith, rest, first, second, nat_tests)

-- Numbers in decimal digits: what spells them, and what does not.
use Rattle.std.proofs.Common.{◌≡◌, ℕ, ◌+◌, ◌*◌, ◌-◌, ◌^◌, ◌<◌, ◌≤◌, suc, zero, true, List, length, take, drop, get_or, decimal, arith, ap, ◌∙◌, sym, subst, refl}
use Rattle.std.proofs.lemmas.Bool.Decides.{nat_tests}
use Rattle.std.proofs.lemmas.Fmt.{decimal-digits_value, digits_decimal, digits_value-decimal, decimal_nonempty, first_decimal, decimal_digit, decimal_injective}
use Rattle.std.proofs.lemmas.Int.Digits.{digits_value_more}
use Rattle.std.proofs.lemmas.Str.Parse.{IsNumeralModel, numerals_by_value, tells_digits, digit_at, digits_value-take-le, tells_by_index}
use Rattle.std.proofs.lemmas.List.Folds.{length-prefix_len}
use Rattle.std.proofs.lemmas.List.{get_or-take}
use Rattle.std.proofs.lemmas.List.Sums.{prefix_len_passes}
use Rattle.std.specs.Char.{digit_value, is_ascii_digit}
use Rattle.std.specs.Int.{IsInRange}
use Rattle.std.specs.List.{prefix_len}
use Rattle.std.specs.Str.Parse.{AllDigits, digits_value}
use Rattle.jn_text.specs.Read.{IsNumberAt}
use Rattle.jn_text.proofs.Runs.{length-take_drop, run_ends, run_is, run_spelled, run_taken, run_within}

own : IsNumeralModel (AllDigits 10) (digits_value 10)
own = numerals_by_value (AllDigits 10) tells_digits

pub digit_passes : (ds : List ℕ) (i : ℕ) → AllDigits 10 ds → i < length ds → is_ascii_digit (get_or ds i 0) ≡ true
digit_passes ds i digits within =
    let range = digit_at ds i digits within in grind (arith, nat_tests, range)

-- digits with no leading zero spell their value
pub spells_value : (ds : List ℕ) → AllDigits 10 ds → 0 < length ds → (get_or ds 0 0 ≡ 48 → length ds ≡ 1) → digits_value 10 ds < 2 ^ 64 → ds ≡ decimal (digits_value 10 ds)
spells_value ds digits some plain small = sym (decimal-digits_value own ds digits some plain small)

pub value_of_decimal : (ds : List ℕ) (n : ℕ) → n < 2 ^ 64 → ds ≡ decimal n → digits_value 10 ds ≡ n
value_of_decimal ds n small spelled = ap (digits_value 10) spelled ∙ digits_value-decimal own n small

pub decimal_some : (ds : List ℕ) (n : ℕ) → n < 2 ^ 64 → ds ≡ decimal n → 0 < length ds
decimal_some ds n small spelled = subst (λ (l : List ℕ). 0 < length l) (sym spelled) (decimal_nonempty n small)

decimal_zero : length (decimal 0) ≡ 1
decimal_zero = ap length (decimal_digit 0 (omega arith))

-- no number is spelled with a leading zero
pub no_leading_zero : (ds : List ℕ) (n : ℕ) → n < 2 ^ 64 → ds ≡ decimal n → get_or ds 0 0 ≡ 48 → 1 < length ds → ⊥
no_leading_zero ds zero small spelled zero_first long =
    let one : length ds ≡ 1 = ap length spelled ∙ decimal_zero in omega arith
no_leading_zero ds (suc n) small spelled zero_first long =
    let first : 48 < get_or ds 0 0 = subst (λ (l : List ℕ). 48 < get_or l 0 0) (sym spelled) (first_decimal (suc n) (omega arith) small) in
    omega arith

-- a value that no longer fits stays too large
pub too_large : (ds : List ℕ) (i value : ℕ) → i < length ds → value ≡ digits_value 10 (take i ds)
    → ¬ (value * 10 + digit_value (get_or ds i 0) < 2 ^ 64) → ¬ (digits_value 10 ds < 2 ^ 64)
too_large ds i value within is large small =
    let more = digits_value_more 10 ds i within in
    let less = digits_value-take-le 10 ds (i + 1) (omega arith) in
    large (omega arith)

-- the digits of a number are all there are at its place
pub number_is_run : (bytes : List ℕ) (start limit n end : ℕ) → limit < 2 ^ 64 → IsNumberAt bytes start limit n end
    → prefix_len is_ascii_digit (drop start bytes) ≡ end - start
number_is_run bytes start limit n end fits at =
    let small : n < 2 ^ 64 = omega (arith, at.small) in
    let digits : AllDigits 10 (take (end - start) (drop start bytes)) = subst (AllDigits 10) (sym at.digits) (digits_decimal own n small) in
    run_is is_ascii_digit bytes start end at.ordered at.within
    (λ k lt. digit_passes _ k digits (omega (arith, length-take_drop bytes start end at.within)))
    at.whole

in_range : (b : ℕ) → is_ascii_digit b ≡ true → IsInRange 48 57 b
in_range b digit = grind (arith, nat_tests)

-- the run of digits is digits
pub run_digits : (xs : List ℕ) (count : ℕ) → count ≡ prefix_len is_ascii_digit xs → AllDigits 10 (take count xs)
run_digits xs count counted =
    let n = prefix_len is_ascii_digit xs in
    let model = numerals_by_value _ tells_by_index in
    let digits = model.to (take n xs) (λ i lt.
    let before : i < n = omega (arith, length-prefix_len is_ascii_digit xs) in
    in_range _ (ap is_ascii_digit (get_or-take n xs i 0 before) ∙ prefix_len_passes is_ascii_digit xs i 0 before)) in
    rw counted digits

-- the run of digits is a number that stands there, where it spells one
pub run_is_number : (bytes rest : List ℕ) (start limit n count : ℕ) → start ≤ length bytes → rest ≡ drop start bytes
    → count ≡ prefix_len is_ascii_digit rest → n ≤ limit → take count rest ≡ decimal n → IsNumberAt bytes start limit n (start + count)
run_is_number bytes rest start limit n count within same counted small spelled = record {
  ordered = omega arith;
  within = run_within is_ascii_digit bytes rest start count same counted within;
  digits = run_spelled is_ascii_digit bytes rest start count same counted ∙ spelled;
  small = small;
  whole = run_ends is_ascii_digit bytes rest start count same counted refl;
}

-- what stands there is spelled by the run of digits
pub number_is_spelled : (bytes rest : List ℕ) (start limit n end count : ℕ) → limit < 2 ^ 64 → rest ≡ drop start bytes
    → count ≡ prefix_len is_ascii_digit rest → IsNumberAt bytes start limit n end → take count rest ≡ decimal n
number_is_spelled bytes rest start limit n end count fits same counted at =
    (run_taken is_ascii_digit bytes rest start count same counted end (number_is_run bytes start limit n end fits at)).1 ∙ at.digits

-- one number stands there at most
pub number_is_one : (bytes : List ℕ) (start limit n m end last : ℕ) → limit < 2 ^ 64 → IsNumberAt bytes start limit n end → IsNumberAt bytes start limit m last → (n ≡ m) × (end ≡ last)
number_is_one bytes start limit n m end last fits a b =
    let run = number_is_run bytes start limit n end fits a in
    let other = number_is_run bytes start limit m last fits b in
    let same : end ≡ last = omega (arith, a.ordered, b.ordered) in
    let spelled : decimal n ≡ decimal m = sym a.digits ∙ ap (λ (e : ℕ). take (e - start) (drop start bytes)) same ∙ b.digits in
    (decimal_injective n m (omega (arith, a.small)) (omega (arith, b.small)) spelled, same)

-- Words that spell numbers.
use Rattle.jn_schedule.proofs.Common.{◌≡◌, ◌≢◌, ◌⊎◌, inl, inr, ℕ, ◌^◌, ◌<◌, ◌≤◌, ◌&&◌, Bool, true, false, List, length, Option, Some, decimal, nat_le, refl, ap, ◌∙◌, subst, arith, nat_tests, digits_value-decimal, common_steps, get_or_past, cond_some, bytes_eq-Decides, is_ascii_digit, IsNumberAt, same, SpellsNumber, number_in}
use Rattle.std.proofs.lemmas.Str.Parse.{IsNumeralModel, numerals_by_value, tells_digits}
use Rattle.std.specs.Str.Parse.{AllDigits, digits_value}
use Rattle.jn_text.proofs.Numbers.{number_is_one}
use Rattle.jn_schedule.proofs.Told.{Reads, reads_same}

own : IsNumeralModel (AllDigits 10) (digits_value 10)
own = numerals_by_value (AllDigits 10) tells_digits

pub both : (a b c : Bool) → (a && (b && c)) ≡ true → (a ≡ true) × (b ≡ true) × (c ≡ true)
both true true true h = (refl, refl, refl)
both true true false h = absurd cc
both true false c h = absurd cc
both false b c h = absurd cc

pub all_of : (a b c : Bool) → a ≡ true → b ≡ true → c ≡ true → (a && (b && c)) ≡ true
all_of a b c p q r = rw (p, q, r) refl

pub le-is : (m n : ℕ) → nat_le m n ≡ true → m ≤ n
le-is m n h = grind (arith, nat_tests)

pub is-le : (m n : ℕ) → m ≤ n → nat_le m n ≡ true
is-le m n h = grind (arith, nat_tests)

-- what is read is spelled so
pub number_sound : (low high : ℕ) (w : List ℕ) (n : ℕ) → number_in low high w ≡ Some n → SpellsNumber low high n w
unfolding number_in
number_sound low high w n e =
    let v = digits_value 10 w in
    let taken = cond_some (nat_le low v && (nat_le v high && same w (decimal v))) v n e in
    let tests = both (nat_le low v) (nat_le v high) (same w (decimal v)) taken.0 in
    subst (λ (k : ℕ). SpellsNumber low high k w) taken.1 (le-is low v tests.0, le-is v high tests.1, (bytes_eq-Decides w (decimal v)).0 tests.2)

-- what is spelled so is read
pub number_again : (low high : ℕ) (w : List ℕ) (n : ℕ) → high < 2 ^ 64 → SpellsNumber low high n w → number_in low high w ≡ Some n
unfolding number_in
number_again low high w n fits spells =
    let least = spells.0 in
    let most = spells.1 in
    let value : digits_value 10 w ≡ n = ap (digits_value 10) spells.2 ∙ digits_value-decimal own n (omega arith) in
    rw value (rw (all_of (nat_le low n) (nat_le n high) (same w (decimal n)) (is-le low n spells.0) (is-le n high spells.1) ((bytes_eq-Decides w (decimal n)).1 spells.2)) refl)

-- the number of a whole word stands at its front
pub number_at : (low high limit : ℕ) (w : List ℕ) (n : ℕ) → limit ≡ high → SpellsNumber low high n w → IsNumberAt w 0 limit n (length w)
number_at low high limit w n e spells = record {
  ordered = omega arith;
  within = omega arith;
  digits = grind (arith, common_steps, spells.2);
  small = omega (arith, spells.1);
  whole = ap is_ascii_digit (get_or_past w (length w) 0 (omega arith));
}

-- and so what stands there and takes all of it is the word's
pub number_whole : (w : List ℕ) (high n end : ℕ) → IsNumberAt w 0 high n end → end ≡ length w → w ≡ decimal n
number_whole w high n end at e = let digits = at.digits in grind (arith, common_steps)

-- a reader of numbers answers what the function does
pub number_same : (low high : ℕ) (w : List ℕ) (r : Option ℕ) → high < 2 ^ 64 → Reads (λ n. SpellsNumber low high n w) r → r ≡ number_in low high w
number_same low high w r fits h = reads_same (λ n. SpellsNumber low high n w) r (number_in low high w) (number_sound low high w) (λ n. number_again low high w n fits) h

-- what stands at the front but isn't all of the word
pub number_other : (low high limit m end : ℕ) (w : List ℕ) → high < 2 ^ 64 → limit ≡ high → IsNumberAt w 0 limit m end → (end ≢ length w) ⊎ (m < low) → (n : ℕ) → SpellsNumber low high n w → ⊥
number_other low high limit m end w fits e at other n spells =
    let one = number_is_one w 0 limit m n end (length w) (omega arith) at (number_at low high limit w n e spells) in
    elim other [
      | inl not_all ↦ not_all one.1
      | inr less ↦ let least = spells.0 in let same = one.0 in omega arith
    ]

-- what stands at the front and is all of it
pub number_found : (low high limit n end : ℕ) (w : List ℕ) → high < 2 ^ 64 → limit ≡ high → IsNumberAt w 0 limit n end → end ≡ length w → low ≤ n → Some n ≡ number_in low high w
number_found low high limit n end w fits e at whole least =
    let small = at.small in
    number_same low high w (Some n) fits (least, omega arith, number_whole w limit n end at whole)

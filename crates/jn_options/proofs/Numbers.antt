-- A count is the number that stands in its text, whole.
use Rattle.jn_options.proofs.Common.{◌≡◌, ◌≢◌, ℕ, ◌^◌, ◌<◌, ◌≤◌, ◌-◌, ◌&&◌, take, drop, Bool, cond, true, false, leb, le-leb, leb-true, length, Option, Some, None, decimal, refl, sym, subst, ap, ◌∙◌, arith, is_some, unwrap_or, bytes_eq, and_from, and_parts, false≢true, Text, number_in}
use Rattle.std.specs.Str.Parse.{digits_value}
use Rattle.std.specs.Char.{is_ascii_digit}
use Rattle.std.proofs.lemmas.Fmt.{decimal_is_IsNumeral}
use Rattle.std.proofs.lemmas.List.{get_or_past}
use Rattle.std.proofs.lemmas.Slice.Eq.{bytes_eq-Decides}
use Rattle.std.proofs.Math.Seq.{take-length}
use Rattle.jn_text.specs.Read.{IsNumberAt}
use Rattle.jn_text.proofs.Numbers.{number_is_one}

-- what the number's text is
abbrev IsNumber : ℕ → ℕ → Text → ℕ → Type 0
IsNumber least most text n = (least ≤ n) × IsNumberAt text 0 most n (length text)

all_of_text : (text : Text) → take (length text - 0) (drop 0 text) ≡ text
all_of_text text =
    let none : length text - 0 ≡ length text = omega arith in ap (λ k. take k text) none ∙ take-length text

stands : (most n : ℕ) (text : Text) → n ≤ most → text ≡ decimal n → IsNumberAt text 0 most n (length text)
stands most n text small spelled = record {
  ordered = omega arith;
  within = omega arith;
  digits = all_of_text text ∙ spelled;
  small = small;
  whole = ap is_ascii_digit (get_or_past text (length text) 0 (omega arith));
}

pub number_stands : (least most n : ℕ) (text : Text) → number_in least most text ≡ Some n → IsNumber least most text n
number_stands least most n text is = go (bytes_eq text (decimal value) && (leb least value && leb value most)) refl is
  where
    value : ℕ
    value = digits_value 10 text

    go : (test : Bool) → (bytes_eq text (decimal value) && (leb least value && leb value most)) ≡ test → cond test (Some value) None ≡ Some n → IsNumber least most text n
    go false tests e = absurd (false≢true (ap is_some e))
    go true tests e =
        let outer = and_parts _ _ tests in
        let inner = and_parts _ _ outer.1 in
        let same : value ≡ n = ap (λ o. unwrap_or o 0) e in
        let spelled : text ≡ decimal value = (bytes_eq-Decides text (decimal value)).0 outer.0 in
        (omega (arith, leb-true least value inner.0), stands most n text (omega (arith, leb-true value most inner.1)) (spelled ∙ ap decimal same))

pub number_is : (least most n : ℕ) (text : Text) → most < 2 ^ 64 → IsNumber least most text n → number_in least most text ≡ Some n
number_is least most n text fits is =
    let spelled : text ≡ decimal n = sym (all_of_text text) ∙ is.1.digits in
    let value : digits_value 10 text ≡ n = ap (digits_value 10) spelled ∙ (decimal_is_IsNumeral n (omega (arith, is.1.small))).1 in
    let same = (bytes_eq-Decides text (decimal (digits_value 10 text))).1 (spelled ∙ ap decimal (sym value)) in
    let large = le-leb least (digits_value 10 text) (omega (arith, is.0)) in
    let small = le-leb (digits_value 10 text) most (omega (arith, is.1.small)) in
    ap (λ b. cond b (Some (digits_value 10 text)) None) (and_from _ _ same (and_from _ _ large small)) ∙ ap Some value

-- no other number is the text's
pub no_number : (least most : ℕ) (text : Text) → ((n : ℕ) → ¬ IsNumber least most text n) → None ≡ number_in least most text
no_number least most text none = go (number_in least most text) refl
  where
    go : (o : Option ℕ) → number_in least most text ≡ o → None ≡ number_in least most text
    go None e = sym e
    go (Some n) e = absurd (none n (number_stands least most n text e))

-- where another number stands at the start, or the text goes on behind it
pub other_number : (least most n end : ℕ) (text : Text) → most < 2 ^ 64 → IsNumberAt text 0 most n end → (least ≤ n → end ≢ length text) → None ≡ number_in least most text
other_number least most n end text fits at other = no_number least most text (λ m is.
    let one = number_is_one text 0 most m n (length text) end fits is.1 at in
    other (omega (arith, is.0, one.0)) (sym one.1))

-- the same of bytes that are the text's
pub moved : (bytes text : Text) (most n end : ℕ) → bytes ≡ text → IsNumberAt bytes 0 most n end → IsNumberAt text 0 most n end
moved bytes text most n end e at = subst (λ (b : Text). IsNumberAt b 0 most n end) e at

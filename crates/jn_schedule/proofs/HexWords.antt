-- Words that spell bytes.
use Rattle.jn_schedule.proofs.Common.{◌≡◌, ◌≢◌, ℕ, zero, suc, ◌*◌, ◌/◌, ◌%◌, ◌<◌, ◌≤◌, Bool, true, false, not, ◌||◌, eqb, List, [], ◌∷◌, length, get_or, refl, sym, ap, ◌∙◌, arith, eqb-true, false≢true, nat_tests, MatchResult-at_ok, is_ascii_uppercase, AllByRecursion, AllPass, list_any, FromHexError, IsBytes, decode_sized, encode_lower, encode_with, is_hex_digit, lower_digits, decode_of-ok, decode_sized-encode_lower, decode_sized-ok, decode_sized-twice, length-encode_with, is_lower_hex_digit, hex_word, IsByte, SpellsBlock, filled}
use Rattle.std.proofs.lemmas.List.Elements.{All-cons, All-get_or, All-head, All-nil, All-tail}
use Rattle.std.proofs.lemmas.List.Sums.{AllPass-from_list_all}
use Rattle.std.specs.Prelude.{MatchBool, MatchResult, Result, Ok, Err, is_ok}
use Rattle.jn_text.proofs.HexDigits.{decode_of-spelled}

pub bytes_at : (bytes : List ℕ) → AllByRecursion IsByte bytes → IsBytes bytes
bytes_at [] fits i = omega arith
bytes_at (b ∷ bytes) fits zero = fits.0
bytes_at (b ∷ bytes) fits (suc i) = bytes_at bytes fits.1 i

pub bytes_from : (bytes : List ℕ) → IsBytes bytes → AllByRecursion IsByte bytes
bytes_from [] fits = tt
bytes_from (b ∷ bytes) fits = (fits 0, bytes_from bytes (λ i. fits (suc i)))

-- what decoding answers of a word that spells as many bytes as there is room for
pub decoded : (word room left bytes : List ℕ) (r : Result Unit FromHexError)
    → MatchResult (decode_sized word (length room)) (λ found. (r ≡ Ok tt) × (left ≡ found)) (λ e. r ≡ Err e)
    → length bytes ≡ length room → AllByRecursion IsByte bytes → word ≡ encode_lower bytes → (r ≡ Ok tt) × (left ≡ bytes)
decoded word room left bytes r answers long fits spelled =
    let found : decode_sized word (length room) ≡ Ok bytes = ap (λ (w : List ℕ). decode_sized w (length room)) spelled ∙ decode_sized-encode_lower bytes (length room) long (bytes_at bytes fits) in
    MatchResult-at_ok _ _ bytes found answers

-- a digit in lower case
lower_one : (c : ℕ) → is_hex_digit c ≡ true → is_ascii_uppercase c ≡ false → is_lower_hex_digit c ≡ true
lower_one c digit small = grind (arith, nat_tests)

abbrev Digit : ℕ → Type 0
Digit c = is_hex_digit c ≡ true

abbrev Lower : ℕ → Type 0
Lower c = is_lower_hex_digit c ≡ true

neither : (a b : Bool) → (a || b) ≡ false → (a ≡ false) × (b ≡ false)
neither true b h = absurd (false≢true (sym h))
neither false b h = (refl, h)

-- digits of which no letter is in upper case
lower_all : (word : List ℕ) → AllPass is_hex_digit word → list_any is_ascii_uppercase word ≡ false → AllPass is_lower_hex_digit word
lower_all [] digits small = All-nil Lower
lower_all (c ∷ word) digits small =
    let parts = neither (is_ascii_uppercase c) (list_any is_ascii_uppercase word) small in
    All-cons Lower c word (lower_one c (All-head Digit c word digits) parts.0) (lower_all word (All-tail Digit c word digits) parts.1)

-- what decodes without an upper-case letter is spelled by its digits
decoded_spelled : (word room left : List ℕ) (r : Result Unit FromHexError)
    → MatchResult (decode_sized word (length room)) (λ found. (r ≡ Ok tt) × (left ≡ found)) (λ e. r ≡ Err e)
    → true ≡ is_ok r → list_any is_ascii_uppercase word ≡ false → AllByRecursion IsByte left × (word ≡ encode_lower left)
decoded_spelled word room left r answers ok small = go (decode_sized word (length room)) refl answers
  where
    go : (read : Result (List ℕ) FromHexError) → decode_sized word (length room) ≡ read
        → MatchResult read (λ found. (r ≡ Ok tt) × (left ≡ found)) (λ e. r ≡ Err e) → AllByRecursion IsByte left × (word ≡ encode_lower left)
    go (Ok found) e h =
        let whole = sym (decode_sized-twice word (length room) (decode_sized-ok word (length room) found e)) ∙ e in
        let spelled = decode_of-spelled word found (lower_all word (decode_of-ok word found whole).1 small) whole in
        (bytes_from left (rw h.1 spelled.1), sym spelled.0 ∙ ap encode_lower (sym h.1))
    go (Err x) e h = absurd (false≢true (sym (ok ∙ ap is_ok h)))

-- what decoding a word without upper-case letters then tells
pub told : (word room left : List ℕ) (r : Result Unit FromHexError) (ok : Bool)
    → MatchResult (decode_sized word (length room)) (λ found. (r ≡ Ok tt) × (left ≡ found)) (λ e. r ≡ Err e)
    → ok ≡ is_ok r → list_any is_ascii_uppercase word ≡ false
    → MatchBool ok (AllByRecursion IsByte left × (word ≡ encode_lower left)) ((bytes : List ℕ) → length bytes ≡ length room → AllByRecursion IsByte bytes → word ≢ encode_lower bytes)
told word room left r true answers is small = decoded_spelled word room left r answers is small
told word room left r false answers is small =
    λ bytes long fits e. absurd (false≢true (is ∙ ap is_ok (decoded word room left bytes r answers long fits e).0))

small_digit : (d : ℕ) → d < 16 → is_ascii_uppercase (get_or lower_digits d 0) ≡ false
small_digit d few = opposite (is_ascii_uppercase (get_or lower_digits d 0)) (All-get_or (λ c. not (is_ascii_uppercase c) ≡ true) lower_digits d 0 few (AllPass-from_list_all (λ c. not (is_ascii_uppercase c)) lower_digits refl))
  where
    opposite : (b : Bool) → not b ≡ true → b ≡ false
    opposite true h = absurd (false≢true h)
    opposite false h = refl

-- no letter is in upper case where bytes are spelled
small_spelled : (bytes : List ℕ) → AllByRecursion IsByte bytes → list_any is_ascii_uppercase (encode_lower bytes) ≡ false
unfolding encode_with
small_spelled [] fits = refl
small_spelled (b ∷ bytes) fits =
    let byte = fits.0 in
    rw (small_digit (b / 16) (omega arith), small_digit (b % 16) (omega arith)) (small_spelled bytes fits.1)

pub not_spelled : (word bytes : List ℕ) → list_any is_ascii_uppercase word ≡ true → AllByRecursion IsByte bytes → word ≢ encode_lower bytes
not_spelled word bytes large fits e = absurd (false≢true (sym (small_spelled bytes fits) ∙ ap (list_any is_ascii_uppercase) (sym e) ∙ large))

-- a block of which some bytes are spelled
pub record SpellsSome (word : List ℕ) : Type 0 where
  pub bytes : List ℕ
  pub some : 0 < length bytes
  pub few : length bytes ≤ 448
  pub are_bytes : AllByRecursion IsByte bytes
  pub spelled : word ≡ encode_lower bytes
  pub long : length word ≡ 2 * length bytes

pub spells_some : (stored word : List ℕ) → SpellsBlock stored word → word ≢ 45 ∷ [] → SpellsSome word
spells_some stored word spells other = go spells.bytes spells.few spells.are_bytes spells.spelled
  where
    go : (bytes : List ℕ) → length bytes ≤ 448 → AllByRecursion IsByte bytes → word ≡ hex_word bytes → SpellsSome word
    go [] few fits e = absurd (other e)
    go (b ∷ bytes) few fits e = record {
      bytes = b ∷ bytes;
      some = omega arith;
      few = few;
      are_bytes = fits;
      spelled = e;
      long = ap length e ∙ length-encode_with lower_digits (b ∷ bytes);
    }

pub spells_none : (word : List ℕ) → word ≡ 45 ∷ [] → SpellsBlock (filled []) word
spells_none word e = record { bytes = []; few = omega arith; are_bytes = tt; stores = refl; spelled = e }

pub hex_word-some : (bytes : List ℕ) → 0 < length bytes → hex_word bytes ≡ encode_lower bytes
hex_word-some [] some = absurd (omega arith)
hex_word-some (b ∷ bytes) some = refl

-- what is decoded is a block's bytes
pub spells_these : (word bytes : List ℕ) → false ≡ eqb (length word) 0 → length word / 2 ≤ 448
    → AllByRecursion IsByte bytes × (word ≡ encode_lower bytes) → SpellsBlock (filled bytes) word
spells_these word bytes some few (fits, e) =
    let long = ap length e ∙ length-encode_with lower_digits bytes in
    let one : 0 < length bytes = grind (arith, nat_tests) in
    record {
      bytes = bytes;
      few = omega arith;
      are_bytes = fits;
      stores = refl;
      spelled = e ∙ sym (hex_word-some bytes one);
    }

pub some_count : (word : List ℕ) (some : SpellsSome word) → length some.bytes ≡ length word / 2
some_count word some = let long = some.long in omega arith

pub not_empty : (word : List ℕ) → SpellsSome word → true ≡ eqb (length word) 0 → ⊥
not_empty word some empty = let long = some.long in let one = some.some in let none = eqb-true (length word) 0 (sym empty) in omega arith

pub not_long : (word : List ℕ) → SpellsSome word → 448 < length word / 2 → ⊥
not_long word some past = let long = some.long in let few = some.few in omega arith

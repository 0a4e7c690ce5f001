-- Words that spell blocks.
use Rattle.jn_schedule.proofs.Common.{◌≡◌, ℕ, ◌<◌, ◌≤◌, ◌&&◌, Bool, true, false, cond, List, [], ◌∷◌, length, Option, Some, None, Result, Ok, Err, ok_or, nat_le, nat_lt, refl, sym, ap, ◌∙◌, arith, nat_tests, cond_some, bytes_eq-Decides, AllByRecursion, FromHexError, decode_of, encode_lower, lower_digits, decode_of-ok, decode_of-encode_lower, length-encode_with, hex_word, same, IsByte, SpellsBlock, filled, block_if, block_in, bytes_of}
use Rattle.jn_schedule.specs.declared.fault.LineFault.TheVariants as faults
use Rattle.jn_schedule.proofs.HexWords.{bytes_at, bytes_from, hex_word-some}
use Rattle.jn_schedule.proofs.Numbers.{both, all_of, is-le, le-is}
use Rattle.jn_schedule.proofs.Told.{Reads, reads_same}

pub some_is : {X : Type 0} (x y : X) → ◌≡◌ {A = Option X} (Some x) (Some y) → x ≡ y
some_is x y e = cc

lt-is : (m n : ℕ) → nat_lt m n ≡ true → m < n
lt-is m n h = grind (arith, nat_tests)

is-lt : (m n : ℕ) → m < n → nat_lt m n ≡ true
is-lt m n h = grind (arith, nat_tests)

-- what is read is spelled so
pub block_sound : (w stored : List ℕ) → block_in w ≡ Some stored → SpellsBlock stored w
unfolding block_in
block_sound w stored e = go (same w (45 ∷ [])) refl (decode_of w) refl e
  where
    go : (dash : Bool) → same w (45 ∷ []) ≡ dash → (r : Result (List ℕ) FromHexError) → decode_of w ≡ r
        → cond dash (Some (filled [])) (block_if w r) ≡ Some stored → SpellsBlock stored w
    go true is r of_w e = record {
      bytes = [];
      few = omega arith;
      are_bytes = tt;
      stores = sym (some_is (filled []) stored e);
      spelled = (bytes_eq-Decides w (45 ∷ [])).0 is;
    }
    go false is (Ok bytes) of_w e =
        let taken = cond_some (nat_lt 0 (length bytes) && (nat_le (length bytes) 448 && same w (encode_lower bytes))) (filled bytes) stored e in
        let tests = both (nat_lt 0 (length bytes)) (nat_le (length bytes) 448) (same w (encode_lower bytes)) taken.0 in
        record {
          bytes = bytes;
          few = le-is (length bytes) 448 tests.1;
          are_bytes = bytes_from bytes (decode_of-ok w bytes of_w).3;
          stores = sym taken.1;
          spelled = (bytes_eq-Decides w (encode_lower bytes)).0 tests.2 ∙ sym (hex_word-some bytes (lt-is 0 (length bytes) tests.0));
        }
    go false is (Err x) of_w e = absurd cc

not_true : (b : Bool) → (b ≡ true → ⊥) → b ≡ false
not_true true h = absurd (h refl)
not_true false h = refl

-- what is spelled so is read
pub block_again : (w stored : List ℕ) → SpellsBlock stored w → block_in w ≡ Some stored
unfolding block_in
block_again w stored spells = go spells.bytes spells.few spells.are_bytes spells.stores spells.spelled
  where
    go : (bytes : List ℕ) → length bytes ≤ 448 → AllByRecursion IsByte bytes → stored ≡ filled bytes → w ≡ hex_word bytes
        → cond (same w (45 ∷ [])) (Some (filled [])) (block_if w (decode_of w)) ≡ Some stored
    go [] few fits stores e = rw ((bytes_eq-Decides w (45 ∷ [])).1 e) (ap (λ (l : List ℕ). Some l) (sym stores))
    go (b ∷ bytes) few fits stores e =
        let long = ap length e ∙ length-encode_with lower_digits (b ∷ bytes) in
        let other : same w (45 ∷ []) ≡ false = not_true (same w (45 ∷ [])) (λ h. let one = ap length ((bytes_eq-Decides w (45 ∷ [])).0 h) in omega arith) in
        let decoded : decode_of w ≡ Ok (b ∷ bytes) = ap decode_of e ∙ decode_of-encode_lower (b ∷ bytes) (bytes_at (b ∷ bytes) fits) in
        let tests = all_of (nat_lt 0 (length (b ∷ bytes))) (nat_le (length (b ∷ bytes)) 448) (same w (encode_lower (b ∷ bytes))) (is-lt 0 (length (b ∷ bytes)) (omega arith)) (is-le (length (b ∷ bytes)) 448 few) ((bytes_eq-Decides w (encode_lower (b ∷ bytes))).1 e) in
        ap (λ (t : Bool). cond t (Some (filled [])) (block_if w (decode_of w))) other
        ∙ ap (block_if w) decoded
        ∙ ap (λ (t : Bool). cond t (Some (filled (b ∷ bytes))) None) tests
        ∙ ap (λ (l : List ℕ). Some l) (sym stores)

-- a reader of blocks answers what the function does
pub block_same : (w : List ℕ) (r : Option (List ℕ)) → Reads (λ stored. SpellsBlock stored w) r → r ≡ block_in w
block_same w r h = reads_same (λ stored. SpellsBlock stored w) r (block_in w) (block_sound w) (block_again w) h

-- the reading of a word that spells these bytes, or spells no block
pub bytes_some : (w bytes content : List ℕ) → SpellsBlock (filled bytes) w → content ≡ filled bytes → bytes_of w ≡ Ok content
unfolding bytes_of
bytes_some w bytes content spells is =
    ap (λ (o : Option (List ℕ)). ok_or o faults.Bytes) (block_again w (filled bytes) spells) ∙ ap (λ (l : List ℕ). Ok l) (sym is)

pub bytes_none : (w : List ℕ) → ((stored : List ℕ) → ¬ SpellsBlock stored w) → bytes_of w ≡ Err faults.Bytes
unfolding bytes_of
bytes_none w never =
    ap (λ (o : Option (List ℕ)). ok_or o faults.Bytes) (sym (block_same w None never))

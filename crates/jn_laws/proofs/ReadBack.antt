-- What is written of a block's bytes is read again.
use Rattle.jn_laws.proofs.Common.{◌≡◌, ℕ, zero, suc, ◌+◌, ◌-◌, ◌<◌, ◌≤◌, Bool, true, false, List, [], ◌∷◌, ◌++◌, length, take, drop, get_or, arith, ap, ◌∙◌, sym, nat_tests, drop-append_seam, take-append_seam, drop-append-add, nat_eq, if◌then◌else◌}
use Rattle.std.proofs.lemmas.List.{get_or-drop}
use Rattle.std.proofs.lemmas.List.{length-append}
use Rattle.hex.specs.Hex.{IsBytes}
use Rattle.jn_text.specs.Read.{is_lower_hex_digit, IsHexAt}
use Rattle.jn_text.specs.Words.{before_zeros, without_end_zeros, block_word}

one_or_none : (is_none : Bool) (b : ℕ) → b < 256 → IsBytes [] → IsBytes (if is_none then [] else b ∷ [])
one_or_none true b small bytes k = bytes k
one_or_none false b small bytes zero = small
one_or_none false b small bytes (suc k) = bytes k

-- the bytes before the zeros are bytes, and no more
kept_bytes : (b : ℕ) (rest : List ℕ) → b < 256 → IsBytes rest → IsBytes (before_zeros b rest)
kept_bytes b [] small bytes k = one_or_none (nat_eq b 0) b small bytes k
kept_bytes b (x ∷ xs) small bytes zero = small
kept_bytes b (x ∷ xs) small bytes (suc k) = bytes k

without_zeros_bytes : (content : List ℕ) → IsBytes content → IsBytes (without_end_zeros content)
without_zeros_bytes [] bytes = bytes
without_zeros_bytes (b ∷ rest) bytes = kept_bytes b (without_end_zeros rest) (bytes 0) (without_zeros_bytes rest (λ k. bytes (suc k)))

kept_length : (b : ℕ) (rest : List ℕ) → length (before_zeros b rest) ≤ suc (length rest)
kept_length zero [] = grind (arith, nat_tests)
kept_length (suc b) [] = grind (arith, nat_tests)
kept_length b (x ∷ xs) = omega arith

without_zeros_length : (content : List ℕ) → length (without_end_zeros content) ≤ length content
without_zeros_length [] = omega arith
without_zeros_length (b ∷ rest) = let more = without_zeros_length rest in let one = kept_length b (without_end_zeros rest) in omega (arith, more, one)

pub is_read_back : (before content after : List ℕ) → IsBytes content → length content ≤ 448 → is_lower_hex_digit (get_or after 0 0) ≡ false
    → IsHexAt (before ++ (block_word content ++ after)) (length before) (without_end_zeros content) (length before + length (block_word content))
is_read_back before content after bytes small ends =
    let word = block_word content in
    let text = before ++ (word ++ after) in
    let size : length before + length word - length before ≡ length word = omega arith in
    let rest : drop (length before) text ≡ word ++ after = drop-append_seam before (word ++ after) in
    let behind : drop (length before + length word) text ≡ after = drop-append-add before (word ++ after) (length word) ∙ drop-append_seam word after in
    let next : get_or text (length before + length word) 0 ≡ get_or after 0 0 =
    ap (λ k. get_or text k 0) (sym (plus_zero (length before + length word))) ∙ sym (get_or-drop (length before + length word) text 0 0) ∙ ap (λ (l : List ℕ). get_or l 0 0) behind in
    record {
      ordered = omega arith;
      within = omega (arith, length-append before (word ++ after), length-append word after);
      digits = ap (λ k. take k (drop (length before) text)) size ∙ ap (take (length word)) rest ∙ take-append_seam word after;
      small = omega (arith, small, without_zeros_length content);
      of_bytes = without_zeros_bytes content bytes;
      whole = λ _. ap is_lower_hex_digit next ∙ ends;
    }
  where
    plus_zero : (n : ℕ) → n + 0 ≡ n
    plus_zero n = omega arith

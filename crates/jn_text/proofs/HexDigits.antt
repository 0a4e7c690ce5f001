-- Bytes as pairs of lower-case hexadecimal digits: what spells them, and what does not.
use Rattle.std.proofs.Common.{◌≡◌, ◌≢◌, ℕ, ◌+◌, ◌*◌, ◌-◌, ◌/◌, ◌%◌, ◌<◌, ◌≤◌, suc, true, List, [], ◌∷◌, length, take, drop, get_or, Some, Result, Ok, Err, arith, ap, ◌∙◌, sym, subst, refl, inl, inr, add-zero, IfOk, MatchResult, IsErrAnd}
use Rattle.std.proofs.lemmas.Bool.{cases_eq, cases_lt}
use Rattle.std.proofs.lemmas.Bool.Decides.{nat_tests}
use Rattle.std.proofs.lemmas.List.{get_or-drop, get_or-take, length-take}
use Rattle.std.proofs.lemmas.List.Elements.{All-nil, All-cons, All-head, All-tail, All-get_or, All-from_get_or}
use Rattle.std.proofs.lemmas.List.Sums.{AllPass-from_list_all, prefix_len_passes}
use Rattle.std.specs.List.{AllPass, prefix_len}
use Rattle.std.specs.Result.{result_unwrap_or}
use Rattle.hex.specs.Hex.{IsBytes, decode_of, decode_pairs, digit_or_error, encode_lower, encode_with, hex_digit_value, lower_digits, pair_value, value_at}
use Rattle.hex.specs.declared.error.FromHexError.{FromHexError}
use Rattle.hex.proofs.HexLemmas.{length-encode_with, decode_of-ok, decode_of-even, decode_of-encode_lower, decode_of-same, IsDigits-lower_digits}
use Rattle.hex.proofs.Pairs.{cons_byte, decode_pairs-ok_pair}
use Rattle.jn_text.specs.Read.{is_lower_hex_digit, IsHexAt}
use Rattle.jn_text.specs.Words.{hex_word}
use Rattle.jn_text.proofs.Runs.{length-take_drop, run_ends, run_is, run_spelled, run_taken, run_within}

abbrev Lower : ℕ → Type 0
Lower c = is_lower_hex_digit c ≡ true

-- each digit of the table is one
lower_digit : (d : ℕ) → d < 16 → Lower (get_or lower_digits d 0)
lower_digit d small = All-get_or Lower lower_digits d 0 small (AllPass-from_list_all is_lower_hex_digit lower_digits refl)

-- a digit's value
low_digit_read : (c : ℕ) → Lower c → c < 58 → (hex_digit_value c ≡ Some (c - 48)) × (c - 48 < 16)
low_digit_read c lower low = grind (arith, nat_tests)

high_digit_read : (c : ℕ) → Lower c → 58 ≤ c → (hex_digit_value c ≡ Some (c - 87)) × (c - 87 < 16)
high_digit_read c lower high = grind (arith, nat_tests)

digit_read : (c : ℕ) → Lower c → (v : ℕ) × (hex_digit_value c ≡ Some v) × (v < 16)
digit_read c lower =
    elim (cases_lt c 58) [
      | inl low ↦ let r = low_digit_read c lower low in (c - 48, r.0, r.1)
      | inr high ↦ let r = high_digit_read c lower high in (c - 87, r.0, r.1)
    ]

-- two digits of one value are one
same_digit : (a b v : ℕ) → Lower a → Lower b → hex_digit_value a ≡ Some v → hex_digit_value b ≡ Some v → a ≡ b
same_digit a b v la lb ea eb = grind (arith, nat_tests)

-- the table at a digit's value is the digit
digit_of_value : (c v : ℕ) → Lower c → hex_digit_value c ≡ Some v → v < 16 → get_or lower_digits v 0 ≡ c
digit_of_value c v lower read small = same_digit (get_or lower_digits v 0) c v (lower_digit v small) lower (IsDigits-lower_digits v small) read

-- ---- what decodes is spelled by its digits

-- what a result holds is one
of_ok : (r : Result (List ℕ) FromHexError) (a b : List ℕ) → r ≡ Ok a → r ≡ Ok b → a ≡ b
of_ok r a b first second = ap (λ (o : Result (List ℕ) FromHexError). result_unwrap_or o []) (sym first ∙ second)

cons_ok : (v : ℕ) (r : Result (List ℕ) FromHexError) (content : List ℕ) → cons_byte v r ≡ Ok content
    → (more : List ℕ) × (r ≡ Ok more) × (content ≡ v ∷ more)
cons_ok v (Ok more) content read = (more, refl, of_ok (cons_byte v (Ok more)) content (v ∷ more) read refl)
cons_ok v (Err e) content read = cc read

pair_same : (x y a b : ℕ) (zs rest : List ℕ) → x ≡ a → y ≡ b → zs ≡ rest → x ∷ y ∷ zs ≡ a ∷ b ∷ rest
pair_same x y a b zs rest first second more = cc

-- two digits are those of their byte
pair_spelled : (a b va vb : ℕ) (rest more : List ℕ) → Lower a → Lower b → hex_digit_value a ≡ Some va → hex_digit_value b ≡ Some vb
    → va < 16 → vb < 16 → encode_lower more ≡ rest → encode_lower ((va * 16 + vb) ∷ more) ≡ a ∷ b ∷ rest
unfolding encode_with
pair_spelled a b va vb rest more la lb ra rb sa sb spelled =
    let high : (va * 16 + vb) / 16 ≡ va = omega arith in
    let low : (va * 16 + vb) % 16 ≡ vb = omega arith in
    pair_same _ _ a b _ rest
    (ap (λ (k : ℕ). get_or lower_digits k 0) high ∙ digit_of_value a va la ra sa)
    (ap (λ (k : ℕ). get_or lower_digits k 0) low ∙ digit_of_value b vb lb rb sb)
    spelled

-- two digits and what the rest decodes to
pair_decoded : (i a b va vb : ℕ) (rest content : List ℕ) → Lower a → Lower b → hex_digit_value a ≡ Some va → hex_digit_value b ≡ Some vb
    → va < 16 → vb < 16 → ((more : List ℕ) → decode_pairs (i + 2) rest ≡ Ok more → encode_lower more ≡ rest)
    → decode_pairs i (a ∷ b ∷ rest) ≡ Ok content → encode_lower content ≡ a ∷ b ∷ rest
pair_decoded i a b va vb rest content la lb ra rb sa sb rest_spelled read =
    let byte = va * 16 + vb in
    let first : value_at a i ≡ Ok va = ap (digit_or_error a i) ra in
    let second : value_at b (i + 1) ≡ Ok vb = ap (digit_or_error b (i + 1)) rb in
    let pair : pair_value a b i ≡ Ok byte = rw (first, second) refl in
    let split = cons_ok byte (decode_pairs (i + 2) rest) content (sym (decode_pairs-ok_pair i a b byte rest pair) ∙ read) in
    ap encode_lower split.2 ∙ pair_spelled a b va vb rest split.0 la lb ra rb sa sb (rest_spelled split.0 split.1)

decoded_spelled : (i : ℕ) (s content : List ℕ) → AllPass is_lower_hex_digit s → decode_pairs i s ≡ Ok content → encode_lower content ≡ s
unfolding decode_pairs encode_with
decoded_spelled i [] content lower read = ap encode_lower (of_ok (decode_pairs i []) content [] read refl)
decoded_spelled i (a ∷ []) content lower read = cc read
decoded_spelled i (a ∷ b ∷ rest) content lower read =
    let tail = All-tail Lower a (b ∷ rest) lower in
    let la = All-head Lower a (b ∷ rest) lower in
    let lb = All-head Lower b rest tail in
    let ra = digit_read a la in
    let rb = digit_read b lb in
    pair_decoded i a b ra.0 rb.0 rest content la lb ra.1 rb.1 ra.2 rb.2
    (λ more read_rest. decoded_spelled (i + 2) rest more (All-tail Lower b rest tail) read_rest) read

-- what the pairs of digits decode to is bytes, and they spell it
pub decode_of-spelled : (s content : List ℕ) → AllPass is_lower_hex_digit s → decode_of s ≡ Ok content → (encode_lower content ≡ s) × IsBytes content
decode_of-spelled s content lower read =
    let parts = decode_of-ok s content read in
    (decoded_spelled 0 s content lower (sym (decode_of-even s parts.0) ∙ read), parts.3)

-- ---- what spells bytes

lower_encoded : (content : List ℕ) → IsBytes content → AllPass is_lower_hex_digit (encode_lower content)
unfolding encode_with
lower_encoded [] bytes = All-nil Lower
lower_encoded (b ∷ rest) bytes =
    let fits : b < 256 = bytes 0 in
    let high = get_or lower_digits (b / 16) 0 in
    let low = get_or lower_digits (b % 16) 0 in
    let more = All-cons Lower low (encode_lower rest) (lower_digit (b % 16) (omega arith)) (lower_encoded rest (λ k. bytes (suc k))) in
    All-cons Lower high (low ∷ encode_lower rest) (lower_digit (b / 16) (omega arith)) more

hex_word-some : (content : List ℕ) → 0 < length content → hex_word content ≡ encode_lower content
hex_word-some [] some = absurd (omega arith)
hex_word-some (b ∷ rest) some = refl

-- the run of digits stands there, where it spells bytes
pub run_is_hex : (bytes rest : List ℕ) (start : ℕ) (content : List ℕ) (count : ℕ) → start ≤ length bytes → rest ≡ drop start bytes
    → count ≡ prefix_len is_lower_hex_digit rest → 0 < count → count ≤ 896
    → encode_lower content ≡ take count rest → IsBytes content → IsHexAt bytes start content (start + count)
run_is_hex bytes rest start content count within same counted some small spelled of_bytes =
    let room = run_within is_lower_hex_digit bytes rest start count same counted within in
    let whole : start + count - start ≡ count = omega arith in
    let taken = run_spelled is_lower_hex_digit bytes rest start count same counted in
    let len : 2 * length content ≡ start + count - start =
    sym (length-encode_with lower_digits content) ∙ ap length (spelled ∙ sym taken) ∙ length-take_drop bytes start (start + count) room in
    let more : 0 < length content = omega arith in record {
      ordered = omega arith;
      within = room;
      digits = taken ∙ sym spelled ∙ sym (hex_word-some content more);
      small = omega arith;
      of_bytes = of_bytes;
      whole = λ _. run_ends is_lower_hex_digit bytes rest start count same counted refl;
    }

-- the byte at a place is the first of what is taken there
first_taken : (bytes : List ℕ) (start end : ℕ) → start < end → get_or bytes start 0 ≡ get_or (take (end - start) (drop start bytes)) 0 0
first_taken bytes start end some =
    let more : 0 < end - start = omega arith in
    sym (ap (λ (k : ℕ). get_or bytes k 0) (add-zero start)) ∙ sym (get_or-drop start bytes 0 0) ∙ sym (get_or-take (end - start) (drop start bytes) 0 0 more)

-- nothing but `-` spells no bytes
dash_alone : (bytes : List ℕ) (start end : ℕ) → end ≤ length bytes → take (end - start) (drop start bytes) ≡ 45 ∷ []
    → (end - start ≡ 1) × (get_or bytes start 0 ≡ 45)
dash_alone bytes start end within dash =
    let one : end - start ≡ 1 = sym (length-take_drop bytes start end within) ∙ ap length dash in
    (one, first_taken bytes start end (omega arith) ∙ ap (λ (l : List ℕ). get_or l 0 0) dash)

taken_lower : (bytes : List ℕ) (start b : ℕ) (rest : List ℕ) (end : ℕ) → IsHexAt bytes start (b ∷ rest) end
    → AllPass is_lower_hex_digit (take (end - start) (drop start bytes))
taken_lower bytes start b rest end at = subst (AllPass is_lower_hex_digit) (sym at.digits) (lower_encoded (b ∷ rest) at.of_bytes)

-- the digits of bytes are all there are at their place
pub hex_is_run : (bytes : List ℕ) (start : ℕ) (content : List ℕ) (end : ℕ) → IsHexAt bytes start content end → get_or bytes start 0 ≢ 45
    → (prefix_len is_lower_hex_digit (drop start bytes) ≡ end - start) × (end - start ≡ 2 * length content) × (0 < length content)
hex_is_run bytes start [] end at other = absurd (other (dash_alone bytes start end at.within at.digits).1)
hex_is_run bytes start (b ∷ rest) end at other =
    let content = b ∷ rest in
    let len = length-take_drop bytes start end at.within in
    let lower = taken_lower bytes start b rest end at in (
      run_is is_lower_hex_digit bytes start end at.ordered at.within (λ k lt. All-get_or Lower _ k 0 (omega arith) lower) (at.whole (omega arith)),
      sym len ∙ ap length at.digits ∙ length-encode_with lower_digits content,
      omega arith,
    )

-- ---- an error that is reported otherwise

if_no_error : {V D : Type 0} (m : Result V D) (P : D → Type 0) (Q : V → Type 0) → IsErrAnd m P → IfOk m Q
if_no_error (Ok x) P Q err = absurd err
if_no_error (Err d) P Q err = tt

-- what a result holds is held by it with another error
pub IfOk-map_err : {V E D : Type 0} (r : Result V E) (m : Result V D) (P Q : V → Type 0) (F : E → D → Type 0)
    → MatchResult r (λ x. m ≡ Ok x) (λ e. IsErrAnd m (F e)) → IfOk r P → ((x : V) → P x → Q x) → IfOk m Q
IfOk-map_err {V = V} {D = D} (Ok x) m P Q F same holds more = subst (λ (o : Result V D). IfOk o Q) (sym same) (more x holds)
IfOk-map_err (Err e) m P Q F same holds more = if_no_error m (F e) Q same

-- the run of digits is digits
pub run_lower : (xs : List ℕ) (count : ℕ) → count ≡ prefix_len is_lower_hex_digit xs → AllPass is_lower_hex_digit (take count xs)
run_lower xs count counted =
    All-from_get_or Lower (take count xs) 0 (λ i lt.
    let inside : i < count = omega (arith, length-take count xs) in
    let before : i < prefix_len is_lower_hex_digit xs = omega arith in
    ap is_lower_hex_digit (get_or-take count xs i 0 inside) ∙ prefix_len_passes is_lower_hex_digit xs i 0 before)

-- why nothing is read: no digits, too many, or one that is left over
pub no_hex : (bytes rest : List ℕ) (start count : ℕ) → rest ≡ drop start bytes → count ≡ prefix_len is_lower_hex_digit rest
    → get_or bytes start 0 ≢ 45 → ((n : ℕ) → 0 < n → n ≤ 448 → count ≢ 2 * n)
    → (content : List ℕ) (end : ℕ) → ¬ IsHexAt bytes start content end
no_hex bytes rest start count same counted other none content end at =
    let run = hex_is_run bytes start content end at other in
    let taken = run_taken is_lower_hex_digit bytes rest start count same counted end run.0 in
    none (length content) run.2 at.small (taken.0 ∙ run.1)

-- ---- one spelling stands at a place

-- `-` is of no bytes
dash_is_none : (bytes : List ℕ) (start : ℕ) (content : List ℕ) (end : ℕ) → IsHexAt bytes start content end → get_or bytes start 0 ≡ 45
    → (content ≡ []) × (end ≡ start + 1)
dash_is_none bytes start [] end at dash =
    let one = dash_alone bytes start end at.within at.digits in
    (refl, omega (arith, one.0, at.ordered))
dash_is_none bytes start (b ∷ rest) end at dash =
    let len : end - start ≡ 2 * suc (length rest) =
    sym (length-take_drop bytes start end at.within) ∙ ap length at.digits ∙ length-encode_with lower_digits (b ∷ rest) in
    let digit = All-get_or Lower _ 0 0 (omega (arith, length-take_drop bytes start end at.within)) (taken_lower bytes start b rest end at) in
    let first : is_lower_hex_digit 45 ≡ true = ap is_lower_hex_digit (sym dash ∙ first_taken bytes start end (omega arith)) ∙ digit in
    cc first

pub hex_is_one : (bytes : List ℕ) (start : ℕ) (content other : List ℕ) (end last : ℕ) → IsHexAt bytes start content end → IsHexAt bytes start other last
    → (content ≡ other) × (end ≡ last)
hex_is_one bytes start content other end last a b =
    elim (cases_eq (get_or bytes start 0) 45) [
      | inl dash ↦
          let first = dash_is_none bytes start content end a dash in
          let second = dash_is_none bytes start other last b dash in
          (first.0 ∙ sym second.0, first.1 ∙ sym second.1)
      | inr digit ↦
          let first = hex_is_run bytes start content end a digit in
          let second = hex_is_run bytes start other last b digit in
          let same : end ≡ last = omega (arith, a.ordered, b.ordered, first.0, second.0) in
          let spelled : encode_lower content ≡ encode_lower other =
          sym (hex_word-some content first.2) ∙ sym a.digits ∙ ap (λ (e : ℕ). take (e - start) (drop start bytes)) same
          ∙ b.digits ∙ hex_word-some other second.2 in (
            decode_of-same (encode_lower content) content other (decode_of-encode_lower content a.of_bytes)
                (ap decode_of spelled ∙ decode_of-encode_lower other b.of_bytes),
            same,
          )
    ]

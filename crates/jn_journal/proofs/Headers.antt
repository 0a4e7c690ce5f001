-- The numbers of a header, and what stands in one.
use Rattle.std.proofs.Common.{◌≡◌, ◌≤◌, ◌<◌, ◌+◌, ◌-◌, ◌*◌, ◌/◌, ◌%◌, ◌^◌, ℕ, zero, suc, Bool, true, false, List, [], ◌∷◌, ◌++◌, get_or, length, take, drop, refl, sym, ◌∙◌, ap, ap₂, subst, arith, append-nil}
use Rattle.std.specs.Prelude.{slice_index}
use Rattle.std.proofs.lemmas.Bool.Decides.{nat_tests}
use Rattle.std.proofs.lemmas.List.{get_or-drop, take-append-drop, take_all, drop_at, length-drop}
use Rattle.byteorder.specs.Endian.{big_number, big_bytes}
use Rattle.byteorder.specs.Numbers.{length-bytes_high_first, big_number-reads_back}
use Rattle.jn_journal.specs.Torn.{IsTorn}
use Rattle.jn_journal.specs.Format.{zeros_in, doubled}
unfoldable use Rattle.jn_journal.specs.Format.{header_of}
use Rattle.jn_journal.specs.Reading.{AreBytes}
use Rattle.jn_journal.specs.Steps.{is_doubled, may_be_doubled, halved}
use Rattle.jn_journal.proofs.Torn.{zeros-few, doubled-is, halved-doubled, whole-header, torn-header}

-- ---- by their places

half-at : (xs : List ℕ) (i j : ℕ) → j ≡ i + i → get_or (halved xs) i 0 ≡ get_or xs j 0
half-at [] i j e = refl
half-at (a ∷ []) zero j e = let z : j ≡ 0 = omega (arith, e) in subst (λ (k : ℕ). a ≡ get_or (a ∷ []) k 0) (sym z) refl
half-at (a ∷ []) (suc i) zero e = absurd (omega (arith, e))
half-at (a ∷ []) (suc i) (suc j) e = refl
half-at (a ∷ b ∷ xs) zero j e = let z : j ≡ 0 = omega (arith, e) in subst (λ (k : ℕ). a ≡ get_or (a ∷ b ∷ xs) k 0) (sym z) refl
half-at (a ∷ b ∷ xs) (suc i) zero e = absurd (omega (arith, e))
half-at (a ∷ b ∷ xs) (suc i) (suc zero) e = absurd (omega (arith, e))
half-at (a ∷ b ∷ xs) (suc i) (suc (suc j)) e = half-at xs i j (omega (arith, e))

pub zeros-told : (xs : List ℕ) → big_number 4 (drop 4 (halved xs)) ≡ big_number 4 (slice_index xs 8 ∷ slice_index xs 10 ∷ slice_index xs 12 ∷ slice_index xs 14 ∷ [])
zeros-told xs =
    let at = λ (i : ℕ). get_or-drop 4 (halved xs) i 0 in
    let a = at 0 ∙ half-at xs 4 8 refl in let b = at 1 ∙ half-at xs 5 10 refl in let c = at 2 ∙ half-at xs 6 12 refl in let d = at 3 ∙ half-at xs 7 14 refl in
    rw (a, b, c, d) refl

-- ---- numbers as they are written

abbrev numbers_of : List ℕ → List ℕ
numbers_of body = big_bytes 4 (length body) ++ big_bytes 4 (zeros_in body)

small-bytes : (n m : ℕ) → AreBytes (big_bytes 4 n ++ big_bytes 4 m)
small-bytes n m = (omega arith, (omega arith, (omega arith, (omega arith, (omega arith, (omega arith, (omega arith, (omega arith, tt))))))))

pub length-header : (body : List ℕ) → length (header_of body) ≡ 16
unfolding header_of
length-header body = refl

pub header-is : (body : List ℕ) → is_doubled (header_of body) ≡ true
unfolding header_of
header-is body = doubled-is (numbers_of body) (small-bytes (length body) (zeros_in body))

pub header-whole : (body left : List ℕ) → length left ≡ 16 → IsTorn (header_of body) left → is_doubled left ≡ true → left ≡ header_of body
unfolding header_of
header-whole body left e h is = whole-header (numbers_of body) left e h is

pub header-torn : (body left : List ℕ) → IsTorn (header_of body) left → may_be_doubled left ≡ true
unfolding header_of
header-torn body left h = torn-header (numbers_of body) left h

halved-header : (body : List ℕ) → halved (header_of body) ≡ numbers_of body
unfolding header_of
halved-header body = halved-doubled (numbers_of body)

pub size-back : (body : List ℕ) → length body < 2 ^ 32 → big_number 4 (halved (header_of body)) ≡ length body
size-back body small = ap (big_number 4) (halved-header body) ∙ big_number-reads_back 4 (length body) (big_bytes 4 (zeros_in body)) (omega (arith, small))

pub zeros-back : (body : List ℕ) → length body < 2 ^ 32 → big_number 4 (drop 4 (halved (header_of body))) ≡ zeros_in body
zeros-back body small = let few = zeros-few body in
    ap (λ (xs : List ℕ). big_number 4 (drop 4 xs)) (halved-header body)
    ∙ ap (big_number 4) (drop_at (big_bytes 4 (length body)) (big_bytes 4 (zeros_in body)) 4 (length-bytes_high_first 4 (length body)) ∙ sym (append-nil (big_bytes 4 (zeros_in body))))
    ∙ big_number-reads_back 4 (zeros_in body) [] (omega (arith, small, few))

-- ---- numbers as they are read

bytes-of : (a b c d n : ℕ) → n ≡ a * 16777216 + (b * 65536 + (c * 256 + d)) → a < 256 → b < 256 → c < 256 → d < 256 → big_bytes 4 n ≡ a ∷ b ∷ c ∷ d ∷ []
bytes-of a b c d n is small_a small_b small_c small_d =
    let a_is : n / 16777216 % 256 ≡ a = omega (arith, is, small_a, small_b, small_c, small_d) in
    let b_is : n / 65536 % 256 ≡ b = omega (arith, is, small_a, small_b, small_c, small_d) in
    let c_is : n / 256 % 256 ≡ c = omega (arith, is, small_a, small_b, small_c, small_d) in
    let d_is : n % 256 ≡ d = omega (arith, is, small_a, small_b, small_c, small_d) in
    onto a_is (onto b_is (onto c_is (onto d_is refl)))
  where
    onto : {x y : ℕ} {xs ys : List ℕ} → x ≡ y → xs ≡ ys → x ∷ xs ≡ y ∷ ys
    onto e f = ap₂ (λ (z : ℕ) (zs : List ℕ). z ∷ zs) e f

bytes-back : (xs : List ℕ) → 4 ≤ length xs → AreBytes xs → big_bytes 4 (big_number 4 xs) ≡ take 4 xs
bytes-back [] e all = absurd (omega (arith, e))
bytes-back (a ∷ []) e all = absurd (omega (arith, e))
bytes-back (a ∷ b ∷ []) e all = absurd (omega (arith, e))
bytes-back (a ∷ b ∷ c ∷ []) e all = absurd (omega (arith, e))
bytes-back (a ∷ b ∷ c ∷ d ∷ xs) e all = bytes-of a b c d (big_number 4 (a ∷ b ∷ c ∷ d ∷ xs)) (omega arith) all.0 all.1.0 all.1.1.0 all.1.1.1.0

pub number-small : (xs : List ℕ) → 4 ≤ length xs → AreBytes xs → big_number 4 xs < 2 ^ 32
number-small [] e all = absurd (omega (arith, e))
number-small (a ∷ []) e all = absurd (omega (arith, e))
number-small (a ∷ b ∷ []) e all = absurd (omega (arith, e))
number-small (a ∷ b ∷ c ∷ []) e all = absurd (omega (arith, e))
number-small (a ∷ b ∷ c ∷ d ∷ xs) e all =
    let small_a = all.0 in let small_b = all.1.0 in let small_c = all.1.1.0 in let small_d = all.1.1.1.0 in
    omega (arith, small_a, small_b, small_c, small_d)

abbrev Holds : Bool → Type 0
Holds true = Unit {0}
Holds false = ⊥

pub never-true : false ≡ true → ⊥
never-true e = subst Holds (sym e) tt

doubled-halved : (left : List ℕ) → is_doubled left ≡ true → doubled (halved left) ≡ left
doubled-halved [] is = refl
doubled-halved (a ∷ []) is = absurd (never-true is)
doubled-halved (a ∷ b ∷ left) is =
    let sum : a + b ≡ 255 = grind (arith, is, nat_tests) in
    let rest : is_doubled left ≡ true = grind (arith, is, nat_tests) in
    let b_is : 255 - a ≡ b = omega (arith, sum) in
    ap₂ (λ (x : ℕ) (xs : List ℕ). a ∷ x ∷ xs) b_is (doubled-halved left rest)

halved-small : (left : List ℕ) → is_doubled left ≡ true → AreBytes (halved left)
halved-small [] is = tt
halved-small (a ∷ []) is = absurd (never-true is)
halved-small (a ∷ b ∷ left) is =
    let sum : a + b ≡ 255 = grind (arith, is, nat_tests) in
    let rest : is_doubled left ≡ true = grind (arith, is, nat_tests) in
    (omega (arith, sum), halved-small left rest)

length-halved : (left : List ℕ) → is_doubled left ≡ true → 2 * length (halved left) ≡ length left
length-halved [] is = refl
length-halved (a ∷ []) is = absurd (never-true is)
length-halved (a ∷ b ∷ left) is =
    let rest = length-halved left (grind (arith, is, nat_tests)) in omega (arith, rest)

drop-small : (n : ℕ) (xs : List ℕ) → AreBytes xs → AreBytes (drop n xs)
drop-small zero xs all = all
drop-small (suc n) [] all = tt
drop-small (suc n) (x ∷ xs) all = drop-small n xs all.1

module _ (left : List ℕ) (sixteen : length left ≡ 16) (is : is_doubled left ≡ true) where
  eight : length (halved left) ≡ 8
  eight = let e = length-halved left is in omega (arith, e, sixteen)

  abbrev behind : List ℕ
  behind = drop 4 (halved left)

  four-behind : length behind ≡ 4
  four-behind = let e = length-drop 4 (halved left) in let n = eight in omega (arith, e, n)

  pub size-small : big_number 4 (halved left) < 2 ^ 32
  size-small = let n = eight in number-small (halved left) (omega (arith, n)) (halved-small left is)

  -- a whole header is that of any body whose numbers it has
  pub header-back : (body : List ℕ) → length body ≡ big_number 4 (halved left) → zeros_in body ≡ big_number 4 (drop 4 (halved left)) → header_of body ≡ left
  unfolding header_of
  header-back body size zeros =
      let n = eight in let m = four-behind in
      let front = bytes-back (halved left) (omega (arith, n)) (halved-small left is) in
      let rest = bytes-back behind (omega (arith, m)) (drop-small 4 (halved left) (halved-small left is)) ∙ take_all 4 behind (omega (arith, m)) in
      ap₂ (λ (k j : ℕ). doubled (big_bytes 4 k ++ big_bytes 4 j)) size zeros
      ∙ ap doubled (ap₂ (λ (xs ys : List ℕ). xs ++ ys) front rest ∙ take-append-drop 4 (halved left))
      ∙ doubled-halved left is

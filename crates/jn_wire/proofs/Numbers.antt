-- The bytes that a number was read from are those that it is written as.
use Rattle.std.proofs.Common.{◌≡◌, ◌⊎◌, inl, inr, ◌≤◌, ◌<◌, ◌+◌, ◌*◌, ◌/◌, ◌^◌, ℕ, zero, suc, List, [], ◌∷◌, ◌++◌, length, take, drop, refl, sym, ◌∙◌, ap, subst, arith, append-nil}
use Rattle.std.specs.Prelude.{slice_index}
use Rattle.std.specs.Int.{byte_at}
use Rattle.std.proofs.Math.Nat.{add-mul, mul-le-mul_right, mod-lt}
use Rattle.std.proofs.lemmas.Bool.{cases_lt}
use Rattle.std.proofs.lemmas.List.{take-append-drop, length-take-le}
use Rattle.byteorder.specs.Endian.{big_bytes, big_number, big_from}
use Rattle.byteorder.specs.Numbers.{length-bytes_high_first, big_number-reads_back, big_from-cons, big_from-lt, big_from-take}
use Rattle.jn_wire.specs.Spelling.{AreBytes}

-- ---- bytes

pub front-bytes : (xs ys : List ℕ) → AreBytes (xs ++ ys) → AreBytes xs
front-bytes [] ys h = tt
front-bytes (x ∷ xs) ys h = (h.0, front-bytes xs ys h.1)

pub back-bytes : (xs ys : List ℕ) → AreBytes (xs ++ ys) → AreBytes ys
back-bytes [] ys h = h
back-bytes (x ∷ xs) ys h = back-bytes xs ys h.1

each-is-byte : (xs : List ℕ) → AreBytes xs → (k : ℕ) → slice_index xs k < 256
each-is-byte [] h k = omega arith
each-is-byte (x ∷ xs) h zero = h.0
each-is-byte (x ∷ xs) h (suc k) = each-is-byte xs h.1 k

small-byte : (n x : ℕ) → byte_at n x < 256
small-byte zero x = mod-lt x (omega arith)
small-byte (suc n) x = mod-lt (x / 256 ^ suc n) (omega arith)

written-bytes : (n x : ℕ) → AreBytes (big_bytes n x)
written-bytes zero x = tt
written-bytes (suc n) x = (small-byte n x, written-bytes n x)

-- ---- two numbers in their digits

less-high : (p x y r q : ℕ) → r < p → x * p + r ≡ y * p + q → x < y → ⊥
less-high p x y r q small e lt =
    let top : (x + 1) * p ≤ y * p = mul-le-mul_right p (omega arith) in
    let expand : (x + 1) * p ≡ x * p + 1 * p = add-mul x 1 p in
    absurd (omega arith)

same-high : (p x y r q : ℕ) → r < p → q < p → x * p + r ≡ y * p + q → x ≡ y
same-high p x y r q small less e = by (cases_lt x y) (cases_lt y x)
  where
    by : (x < y) ⊎ (y ≤ x) → (y < x) ⊎ (x ≤ y) → x ≡ y
    by (inl lt) other = absurd (less-high p x y r q small e lt)
    by (inr le) (inl lt) = absurd (less-high p y x q r less (sym e) lt)
    by (inr le) (inr ge) = omega arith

bytes-alike : (n : ℕ) (xs ys : List ℕ) → length xs ≡ n → length ys ≡ n → AreBytes xs → AreBytes ys → big_number n xs ≡ big_number n ys → xs ≡ ys
bytes-alike zero [] [] one two h k e = refl
bytes-alike zero (x ∷ xs) ys one two h k e = absurd (omega (arith, one))
bytes-alike zero [] (y ∷ ys) one two h k e = absurd (omega (arith, two))
bytes-alike (suc n) [] ys one two h k e = absurd (omega (arith, one))
bytes-alike (suc n) (x ∷ xs) [] one two h k e = absurd (omega (arith, two))
bytes-alike (suc n) (x ∷ xs) (y ∷ ys) one two h k e =
    let r = big_from-lt 0 n xs (each-is-byte xs h.1) in
    let q = big_from-lt 0 n ys (each-is-byte ys k.1) in
    let sums : x * 256 ^ n + big_from 0 n xs ≡ y * 256 ^ n + big_from 0 n ys = ap (λ (m : ℕ). x * 256 ^ n + m) (sym (big_from-cons 0 n x xs)) ∙ e ∙ ap (λ (m : ℕ). y * 256 ^ n + m) (big_from-cons 0 n y ys) in
    let high : x ≡ y = same-high (256 ^ n) x y (big_from 0 n xs) (big_from 0 n ys) r q sums in
    let shifted : y * 256 ^ n + big_from 0 n xs ≡ y * 256 ^ n + big_from 0 n ys = ap (λ (m : ℕ). m * 256 ^ n + big_from 0 n xs) (sym high) ∙ sums in
    let low : big_from 0 n xs ≡ big_from 0 n ys = omega (arith, shifted) in
    let rest : xs ≡ ys = bytes-alike n xs ys (omega (arith, one)) (omega (arith, two)) h.1 k.1 low in
    cc

pub number-below : (n : ℕ) (bytes : List ℕ) → AreBytes bytes → big_number n bytes < 256 ^ n
number-below n bytes h = big_from-lt 0 n bytes (each-is-byte bytes h)

pub number-again : (n : ℕ) (bytes : List ℕ) → n ≤ length bytes → AreBytes bytes → take n bytes ≡ big_bytes n (big_number n bytes)
number-again n bytes long h =
    let x = big_number n bytes in
    bytes-alike n (take n bytes) (big_bytes n x) (length-take-le n bytes long) (length-bytes_high_first n x)
    (front-bytes (take n bytes) (drop n bytes) (subst AreBytes (sym (take-append-drop n bytes)) h)) (written-bytes n x)
    (big_from-take 0 n n bytes (omega arith) ∙ sym (big_number-reads_back n x [] (number-below n bytes h)) ∙ ap (big_number n) (append-nil (big_bytes n x)))

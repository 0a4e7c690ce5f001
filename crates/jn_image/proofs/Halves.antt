-- Physical pages are read as they were written, and written as they were read.
use Rattle.jn_image.proofs.Common.{◌≡◌, ◌≤◌, ◌+◌, ◌*◌, ℕ, zero, suc, Bool, true, false, List, [], ◌∷◌, ◌++◌, length, take, drop, refl, sym, ap, ◌∙◌, append_assoc, arith, length-append, length-drop, ◌&&◌, nat_eq, nat_le, slice_index, flat_map, if◌then◌else◌, AllByRecursion, take-add, nat_tests, take_at, drop_at, Half, statuses_fit, half_bytes, half_in, halves_in, length-take-le}

abbrev made : Bool → List ℕ → Half
made good bytes = record { good = good; bytes = bytes }

abbrev status : Bool → ℕ
status good = if good then 1 else 0

abbrev pub written : List Half → List ℕ
written hs = flat_map (λ h. half_bytes h) hs

-- ---- what was written is read

status_again : (b : Bool) → nat_eq (status b) 1 ≡ b
status_again true = refl
status_again false = refl

status_fits : (b : Bool) → nat_le (status b) 1 ≡ true
status_fits true = refl
status_fits false = refl

half_again : (h : Half) (rest : List ℕ) → length h.bytes ≡ 512 → half_in (half_bytes h ++ rest) ≡ h
half_again h rest whole =
    ap (λ b. made b (take 512 (h.bytes ++ rest))) (status_again h.good) ∙ ap (made h.good) (take_at h.bytes rest 512 whole)

half_size : (h : Half) → length h.bytes ≡ 512 → length (half_bytes h) ≡ 513
half_size h whole = omega (arith, whole)

one_more : {A : Type 0} (x : A) (xs : List A) → length (x ∷ xs) ≡ suc (length xs)
one_more x xs = omega arith

pub halves_again : (hs : List Half) (rest : List ℕ) → AllByRecursion (λ h. length h.bytes ≡ 512) hs → halves_in (length hs) (written hs ++ rest) ≡ hs
halves_again [] rest fit = refl
halves_again (h ∷ hs) rest fit =
    let behind = written hs ++ rest in
    ap (λ n. halves_in n (written (h ∷ hs) ++ rest)) (one_more h hs)
    ∙ ap (halves_in (suc (length hs))) (append_assoc (half_bytes h) (written hs) rest)
    ∙ rw (half_again h behind fit.0, drop_at (half_bytes h) behind 513 (half_size h fit.0), halves_again hs rest fit.1) refl

pub statuses_again : (hs : List Half) (rest : List ℕ) → AllByRecursion (λ h. length h.bytes ≡ 512) hs → statuses_fit (length hs) (written hs ++ rest) ≡ true
statuses_again [] rest fit = refl
statuses_again (h ∷ hs) rest fit =
    let behind = written hs ++ rest in
    ap (λ n. statuses_fit n (written (h ∷ hs) ++ rest)) (one_more h hs)
    ∙ ap (statuses_fit (suc (length hs))) (append_assoc (half_bytes h) (written hs) rest)
    ∙ ap (λ b. b && statuses_fit (length hs) (drop 513 (half_bytes h ++ behind))) (status_fits h.good)
    ∙ ap (statuses_fit (length hs)) (drop_at (half_bytes h) behind 513 (half_size h fit.0))
    ∙ statuses_again hs rest fit.1

pub length-written : (hs : List Half) → AllByRecursion (λ h. length h.bytes ≡ 512) hs → length (written hs) ≡ 513 * length hs
length-written [] fit = refl
length-written (h ∷ hs) fit =
    let ih = length-written hs fit.1 in
    let one = half_size h fit.0 in
    omega (arith, ih, one, one_more h hs, length-append (half_bytes h) (written hs))

-- ---- what was read is written

pub halves_fit : (n : ℕ) (bytes : List ℕ) → 513 * n ≤ length bytes → AllByRecursion (λ h. length h.bytes ≡ 512) (halves_in n bytes)
halves_fit zero bytes long = tt
halves_fit (suc n) bytes long =
    (length-take-le 512 (drop 1 bytes) (omega (arith, long, length-drop 1 bytes)), halves_fit n (drop 513 bytes) (omega (arith, long, length-drop 513 bytes)))

pub length-halves_in : (n : ℕ) (bytes : List ℕ) → length (halves_in n bytes) ≡ n
length-halves_in zero bytes = refl
length-halves_in (suc n) bytes = let ih = length-halves_in n (drop 513 bytes) in omega (arith, ih)

fits_now : (a b : Bool) → (a && b) ≡ true → a ≡ true
fits_now true b e = refl
fits_now false b e = e

fits_then : (a b : Bool) → (a && b) ≡ true → b ≡ true
fits_then true b e = e
fits_then false b e = absurd (false_true e)
  where
    false_true : false ≡ true → ⊥
    false_true e = cc

status_written : (s : ℕ) → nat_le s 1 ≡ true → status (nat_eq s 1) ≡ s
status_written zero e = refl
status_written (suc zero) e = refl
status_written (suc (suc s)) e = absurd (over s e)
  where
    over : (s : ℕ) → nat_le (suc (suc s)) 1 ≡ true → ⊥
    over s e = grind (arith, nat_tests, e)

half_written : (bytes : List ℕ) → 513 ≤ length bytes → nat_le (slice_index bytes 0) 1 ≡ true → half_bytes (half_in bytes) ≡ take 513 bytes
half_written [] long fits = absurd (omega (arith, long))
half_written (s ∷ bytes) long fits = ap (λ k. k ∷ take 512 bytes) (status_written s fits)

pub halves_written : (n : ℕ) (bytes : List ℕ) → 513 * n ≤ length bytes → statuses_fit n bytes ≡ true → written (halves_in n bytes) ≡ take (513 * n) bytes
halves_written zero bytes long fits = refl
halves_written (suc n) bytes long fits =
    let first : half_bytes (half_in bytes) ≡ take 513 bytes = half_written bytes (omega (arith, long)) (fits_now (nat_le (slice_index bytes 0) 1) (statuses_fit n (drop 513 bytes)) fits) in
    let ih : written (halves_in n (drop 513 bytes)) ≡ take (513 * n) (drop 513 bytes) = halves_written n (drop 513 bytes) (omega (arith, long, length-drop 513 bytes)) (fits_then (nat_le (slice_index bytes 0) 1) (statuses_fit n (drop 513 bytes)) fits) in
    let size : 513 + 513 * n ≡ 513 * suc n = omega arith in
    ap (λ (xs : List ℕ). xs ++ written (halves_in n (drop 513 bytes))) first
    ∙ ap (λ (xs : List ℕ). take 513 bytes ++ xs) ih
    ∙ sym (take-add 513 (513 * n) bytes)
    ∙ ap (λ k. take k bytes) size

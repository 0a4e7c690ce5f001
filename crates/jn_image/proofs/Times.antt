-- How often a number stands in a list, and what is noted of it.
use Rattle.jn_image.proofs.Common.{◌≡◌, ◌≢◌, ◌<◌, ◌≤◌, ◌+◌, ℕ, zero, suc, Bool, true, false, List, [], ◌∷◌, ◌++◌, length, get_or, replicate, refl, sym, ap, ◌∙◌, subst, arith, true≢false, nat_eq, nat_lt, slice_index, slice_set, nat_tests, length-set, get_or-set_same, get_or-set_other, noted, noted_all}
use Rattle.std.proofs.Common.{◌&&◌, if◌then◌else◌}

abbrev pub times_in : ℕ → List ℕ → ℕ
times_in a [] = 0
times_in a (x ∷ xs) = (if nat_eq x a then 1 else 0) + times_in a xs

abbrev pub capped : ℕ → ℕ
capped n = if nat_lt n 2 then n else 2

capped_most : (n : ℕ) → capped n ≤ 2
capped_most n = grind (arith, nat_tests)

capped_small : (n : ℕ) → n ≤ 2 → capped n ≡ n
capped_small n small = grind (arith, nat_tests, small)

equal : (m n : ℕ) → nat_eq m n ≡ true → m ≡ n
equal m n e = grind (arith, nat_tests, e)

-- ---- one address

module _ (times : List ℕ) (x : ℕ) where
  abbrev counts : Bool
  counts = nat_lt 0 x && (nat_lt x (length times) && nat_lt (slice_index times x) 2)

  noted_size : length (noted times x) ≡ length times
  noted_size = by counts
    where
      by : (b : Bool) → length (if b then slice_set times x (slice_index times x + 1) else times) ≡ length times
      by true = length-set times x (slice_index times x + 1)
      by false = refl

  noted_other : (a : ℕ) → a ≢ x → slice_index (noted times x) a ≡ slice_index times a
  noted_other a ne = by counts
    where
      by : (b : Bool) → slice_index (if b then slice_set times x (slice_index times x + 1) else times) a ≡ slice_index times a
      by true = get_or-set_other times x a (slice_index times x + 1) 0 ne
      by false = refl

  noted_here : 0 < x → x < length times → slice_index times x ≤ 2 → slice_index (noted times x) x ≡ capped (1 + slice_index times x)
  noted_here least lt most = by (nat_lt (slice_index times x) 2) refl
    where
      first : nat_lt 0 x ≡ true
      first = grind (arith, nat_tests, least)

      second : nat_lt x (length times) ≡ true
      second = grind (arith, nat_tests, lt)

      its : (b : Bool) → nat_lt (slice_index times x) 2 ≡ b → counts ≡ b
      its b e = ap (λ (c : Bool). c && (nat_lt x (length times) && nat_lt (slice_index times x) 2)) first ∙ ap (λ (c : Bool). c && nat_lt (slice_index times x) 2) second ∙ e

      whole : (b : Bool) → nat_lt (slice_index times x) 2 ≡ b → slice_index (noted times x) x ≡ slice_index (if b then slice_set times x (slice_index times x + 1) else times) x
      whole b e = ap (λ (c : Bool). slice_index (if c then slice_set times x (slice_index times x + 1) else times) x) (its b e)

      low : (n : ℕ) → nat_lt n 2 ≡ true → n + 1 ≡ capped (1 + n)
      low n e = grind (arith, nat_tests, e)

      high : (n : ℕ) → nat_lt n 2 ≡ false → n ≤ 2 → n ≡ capped (1 + n)
      high n e most = grind (arith, nat_tests, e, most)

      by : (b : Bool) → nat_lt (slice_index times x) 2 ≡ b → slice_index (noted times x) x ≡ capped (1 + slice_index times x)
      by true e = whole true e ∙ get_or-set_same times x (slice_index times x + 1) 0 lt ∙ low (slice_index times x) e
      by false e = whole false e ∙ high (slice_index times x) e most

noted_at : (times : List ℕ) (x a : ℕ) → 0 < a → a < length times → slice_index times a ≤ 2 → slice_index (noted times x) a ≡ capped ((if nat_eq x a then 1 else 0) + slice_index times a)
noted_at times x a least lt most = by (nat_eq x a) refl
  where
    kept : (n : ℕ) → n ≤ 2 → n ≡ capped (0 + n)
    kept n most = grind (arith, nat_tests, most)

    apart : nat_eq x a ≡ false → a ≢ x
    apart e q = grind (arith, nat_tests, e, q)

    here : x ≡ a → slice_index (noted times x) a ≡ capped (1 + slice_index times a)
    here e = subst (λ (z : ℕ). slice_index (noted times z) a ≡ capped (1 + slice_index times a)) (sym e) (noted_here times a least lt most)

    by : (b : Bool) → nat_eq x a ≡ b → slice_index (noted times x) a ≡ capped ((if b then 1 else 0) + slice_index times a)
    by true e = here (equal x a e)
    by false e = noted_other times x a (apart e) ∙ kept (slice_index times a) most

-- ---- a list of addresses

pub all_size : (xs times : List ℕ) → length (noted_all times xs) ≡ length times
all_size [] times = refl
all_size (x ∷ xs) times = all_size xs (noted times x) ∙ noted_size times x

pub all_at : (xs times : List ℕ) (a : ℕ) → 0 < a → a < length times → slice_index times a ≤ 2 → slice_index (noted_all times xs) a ≡ capped (slice_index times a + times_in a xs)
all_at [] times a least lt most = sym (capped_small (slice_index times a + 0) (omega (arith, most)) ∙ add_none (slice_index times a))
  where
    add_none : (n : ℕ) → n + 0 ≡ n
    add_none n = omega arith
all_at (x ∷ xs) times a least lt most =
    let one : ℕ = if nat_eq x a then 1 else 0 in
    let step = noted_at times x a least lt most in
    let size = noted_size times x in
    let small : slice_index (noted times x) a ≤ 2 = subst (λ (n : ℕ). n ≤ 2) (sym step) (capped_most (one + slice_index times a)) in
    all_at xs (noted times x) a least (omega (arith, lt, size)) small
    ∙ ap (λ (n : ℕ). capped (n + times_in a xs)) step
    ∙ joined one (slice_index times a) (times_in a xs)
  where
    joined : (o v t : ℕ) → capped (capped (o + v) + t) ≡ capped (v + (o + t))
    joined o v t = grind (arith, nat_tests)

-- address 0 is never noted
pub noted_first : (xs times : List ℕ) → slice_index (noted_all times xs) 0 ≡ slice_index times 0
noted_first [] times = refl
noted_first (zero ∷ xs) times = noted_first xs times
noted_first (suc x ∷ xs) times = noted_first xs (noted times (suc x)) ∙ noted_other times (suc x) 0 (λ e. omega (arith, e))

pub all_then : (xs ys times : List ℕ) → noted_all times (xs ++ ys) ≡ noted_all (noted_all times xs) ys
all_then [] ys times = refl
all_then (x ∷ xs) ys times = all_then xs ys (noted times x)

pub none_noted : (n : ℕ) (times : List ℕ) → noted_all times (replicate n 0) ≡ times
none_noted zero times = refl
none_noted (suc n) times = none_noted n times

-- ---- where it stands

abbrev pub IsOnceIn : List ℕ → ℕ → Type 0
IsOnceIn xs a = (i j : ℕ) → get_or xs i 0 ≡ a → get_or xs j 0 ≡ a → i ≡ j

pub stands : (xs : List ℕ) (a : ℕ) → 0 < times_in a xs → (i : ℕ) × (get_or xs i 0 ≡ a)
stands [] a some = absurd (omega (arith, some))
stands (x ∷ xs) a some = by (nat_eq x a) refl some (λ h. stands xs a h)
  where
    by : (b : Bool) → nat_eq x a ≡ b → 0 < (if b then 1 else 0) + times_in a xs → (0 < times_in a xs → (i : ℕ) × (get_or xs i 0 ≡ a)) → (i : ℕ) × (get_or (x ∷ xs) i 0 ≡ a)
    by true e h more = (0, equal x a e)
    by false e h more = let (i, at) = more (omega (arith, h)) in (suc i, at)

pub counted : (xs : List ℕ) (a i : ℕ) → 0 < a → get_or xs i 0 ≡ a → 0 < times_in a xs
counted [] a i least at = absurd (past i at)
  where
    past : (i : ℕ) → get_or [] i 0 ≡ a → ⊥
    past zero e = omega (arith, least, e)
    past (suc i) e = omega (arith, least, e)
counted (x ∷ xs) a zero least at = by (nat_eq x a) (grind (arith, nat_tests, at))
  where
    by : (b : Bool) → b ≡ true → 0 < (if b then 1 else 0) + times_in a xs
    by true e = omega arith
    by false e = absurd (true≢false (sym e))
counted (x ∷ xs) a (suc i) least at = let more = counted xs a i least at in further (nat_eq x a) (times_in a xs) more
  where
    further : (b : Bool) (n : ℕ) → 0 < n → 0 < (if b then 1 else 0) + n
    further true n h = omega arith
    further false n h = omega (arith, h)

-- what stands at one place counts once
pub once_few : (xs : List ℕ) (a : ℕ) → 0 < a → IsOnceIn xs a → times_in a xs < 2
once_few [] a least once = omega arith
once_few (x ∷ xs) a least once = by (nat_eq x a) refl (once_few xs a least rest)
  where
    rest : IsOnceIn xs a
    rest i j at too = let e = once (suc i) (suc j) at too in omega (arith, e)

    behind : x ≡ a → (n : ℕ) → times_in a xs ≡ n → 1 + n < 2
    behind e zero n = omega arith
    behind e (suc k) n = let (i, at) = stands xs a (omega (arith, n)) in let z = once 0 (suc i) e at in absurd (omega (arith, z))

    by : (b : Bool) → nat_eq x a ≡ b → times_in a xs < 2 → (if b then 1 else 0) + times_in a xs < 2
    by true e few = behind (equal x a e) (times_in a xs) refl
    by false e few = omega (arith, few)

pub few_once : (xs : List ℕ) (a : ℕ) → 0 < a → times_in a xs < 2 → IsOnceIn xs a
few_once [] a least few i j at too = absurd (past i at)
  where
    past : (i : ℕ) → get_or [] i 0 ≡ a → ⊥
    past zero e = omega (arith, least, e)
    past (suc i) e = omega (arith, least, e)
few_once (x ∷ xs) a least few i j at too = by (nat_eq x a) refl few (few_once xs a least) i j at too
  where
    same : x ≡ a → nat_eq x a ≡ true
    same e = grind (arith, nat_tests, e)

    by : (b : Bool) → nat_eq x a ≡ b → (if b then 1 else 0) + times_in a xs < 2 → (times_in a xs < 2 → IsOnceIn xs a) → (i j : ℕ) → get_or (x ∷ xs) i 0 ≡ a → get_or (x ∷ xs) j 0 ≡ a → i ≡ j
    by b e h rest zero zero at too = refl
    by true e h rest zero (suc j) at too = let more = counted xs a j least too in absurd (omega (arith, h, more))
    by true e h rest (suc i) zero at too = let more = counted xs a i least at in absurd (omega (arith, h, more))
    by false e h rest zero (suc j) at too = absurd (true≢false (sym (same at) ∙ e))
    by false e h rest (suc i) zero at too = absurd (true≢false (sym (same too) ∙ e))
    by true e h rest (suc i) (suc j) at too = ap suc (rest (omega (arith, h)) i j at too)
    by false e h rest (suc i) (suc j) at too = ap suc (rest (omega (arith, h)) i j at too)

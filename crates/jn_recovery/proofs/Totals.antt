-- Sums over lists, and over the numbers below one.
use Rattle.jn_recovery.proofs.Common.{◌≡◌, ⊎_elim, ◌<◌, ◌≤◌, ◌+◌, ℕ, zero, suc, Bool, true, false, ◌||◌, ◌&&◌, if◌then◌else◌, List, [], ◌∷◌, length, get_or, refl, sym, ◌∙◌, ap, subst, true≢false, arith, cases_eq, nat_tests, sum_by-cons, nat_eq, nat_lt, slice_index_or, count_by, list_any, Tells, passes_at, PassesOnce, total, is_in, are_different, any-found}
unfoldable use Rattle.jn_records.specs.Layouts.{any_below}

abbrev pub one : Bool → ℕ
one b = if b then 1 else 0

-- ---- over a list

module _ {X : Type 0} where
  pub total_same : (d : X) (f g : X → ℕ) (xs : List X) → ((j : ℕ) → f (get_or xs j d) ≡ g (get_or xs j d)) → total f xs ≡ total g xs
  total_same d f g [] same = refl
  total_same d f g (x ∷ xs) same = let here = same 0 in let again = total_same d f g xs (λ j. same (suc j)) in omega (arith, here, again)

  pub total_plus : (f g h : X → ℕ) → ((x : X) → h x ≡ f x + g x) → (xs : List X) → total h xs ≡ total f xs + total g xs
  total_plus f g h is [] = refl
  total_plus f g h is (x ∷ xs) = let here = is x in let again = total_plus f g h is xs in omega (arith, here, again)

  pub total_ones : (xs : List X) → total (λ x. 1) xs ≡ length xs
  total_ones [] = refl
  total_ones (x ∷ xs) = let again = total_ones xs in omega (arith, again)

  pub total_none : (xs : List X) → total (λ x. 0) xs ≡ 0
  total_none [] = refl
  total_none (x ∷ xs) = let again = total_none xs in omega (arith, again)

  pub count_total : (p : X → Bool) (xs : List X) → count_by p xs ≡ total (λ x. one (p x)) xs
  count_total p [] = refl
  count_total p (x ∷ xs) = let more = sum_by-cons (λ x. if p x then 1 else 0) x xs in let again = count_total p xs in omega (arith, more, again)

pub swapped : {X Y : Type 0} (f : X → Y → ℕ) (xs : List X) (ys : List Y) → total (λ x. total (f x) ys) xs ≡ total (λ y. total (λ x. f x y) xs) ys
swapped f [] ys = sym (total_none ys)
swapped f (x ∷ xs) ys =
    let again = swapped f xs ys in
    let both = total_plus (f x) (λ y. total (λ x. f x y) xs) (λ y. f x y + total (λ x. f x y) xs) (λ y. refl) ys in
    omega (arith, again, both)

-- ---- what passes once

module _ {X : Type 0} (p : X → Bool) where
  none_total : (xs : List X) → list_any p xs ≡ false → total (λ x. one (p x)) xs ≡ 0
  none_total [] none = refl
  none_total (x ∷ xs) none = let again = none_total xs (grind arith) in grind (arith, again, none)

  pub none_later : (d x : X) (xs : List X) → p x ≡ true → PassesOnce (λ i. p (get_or (x ∷ xs) i d)) → list_any p xs ≡ false
  none_later d x xs here once = by (list_any p xs) refl
    where
      by : (b : Bool) → list_any p xs ≡ b → b ≡ false
      by true t = let at = passes_at p d xs t in absurd (let e = once 0 (suc at.0) here at.1 in omega (arith, e))
      by false t = refl

  pub once_later : (d x : X) (xs : List X) → PassesOnce (λ i. p (get_or (x ∷ xs) i d)) → PassesOnce (λ i. p (get_or xs i d))
  once_later d x xs once i j a b = let e = once (suc i) (suc j) a b in omega (arith, e)

  pub any_total : (d : X) (xs : List X) → PassesOnce (λ i. p (get_or xs i d)) → one (list_any p xs) ≡ total (λ x. one (p x)) xs
  any_total d [] once = refl
  any_total d (x ∷ xs) once = by (p x) refl (any_total d xs (once_later d x xs once))
    where
      by : (b : Bool) → p x ≡ b → one (list_any p xs) ≡ total (λ x. one (p x)) xs → one (b || list_any p xs) ≡ one b + total (λ x. one (p x)) xs
      by true e again = let none = none_total xs (none_later d x xs e once) in omega (arith, none)
      by false e again = omega (arith, again)

-- and a further test passes
pub any_total_if : {X : Type 0} (p : X → Bool) (c : Bool) (d : X) (xs : List X) → PassesOnce (λ i. p (get_or xs i d)) → one (list_any p xs && c) ≡ total (λ x. one (p x && c)) xs
any_total_if p c d xs once = by c
  where
    nothing : (b : Bool) → (b && false) ≡ false
    nothing true = refl
    nothing false = refl

    all : (b : Bool) → (b && true) ≡ b
    all true = refl
    all false = refl

    by : (c : Bool) → one (list_any p xs && c) ≡ total (λ x. one (p x && c)) xs
    by true = ap one (all (list_any p xs)) ∙ any_total p d xs once ∙ sym (total_same d (λ x. one (p x && true)) (λ x. one (p x)) xs (λ j. ap one (all (p (get_or xs j d)))))
    by false = ap one (nothing (list_any p xs)) ∙ sym (total_same d (λ x. one (p x && false)) (λ x. 0) xs (λ j. ap one (nothing (p (get_or xs j d)))) ∙ total_none xs)

module _ {K : Type 0} (eq : K → K → Bool) (tells : Tells eq) where
  not_in : (k : K) (keys : List K) → is_in eq k keys ≡ false → total (λ w. one (eq k w)) keys ≡ 0
  not_in k [] none = refl
  not_in k (x ∷ xs) none =
      let again = not_in k xs (grind arith) in let t = tells k x in let u = tells x k in ⊎_elim
      (λ h. absurd (true≢false (sym (⊎_elim (λ g. g.0) (λ g. absurd (g.1 (sym h.1))) (tells x k)) ∙ (let e : eq x k ≡ false = grind (arith, none) in e))))
      (λ h. grind (arith, again, h.0))
      (tells k x)

  -- a key of a list stands there once
  pub in_once : (k : K) (keys : List K) → are_different eq keys ≡ true → is_in eq k keys ≡ true → total (λ w. one (eq k w)) keys ≡ 1
  in_once k [] differ here = absurd (true≢false (sym here))
  in_once k (x ∷ xs) differ here = ⊎_elim
      (λ h. let none = not_in k xs (subst (λ j. is_in eq j xs ≡ false) (sym h.1) (grind (arith, differ))) in grind (arith, none, h.0))
      (λ h. let again = in_once k xs (grind (arith, differ)) (later h.1) in grind (arith, again, h.0))
      (tells k x)
    where
      later : (k ≡ x → ⊥) → is_in eq k xs ≡ true
      later ne = ⊎_elim (λ g. absurd (ne (sym g.1))) (λ g. let e = g.0 in grind (arith, here, e)) (tells x k)

-- ---- over the numbers below one

-- closed, since n may be a number like that of a file's cells
unfoldable pub below : (ℕ → ℕ) → ℕ → ℕ
below f zero = 0
below f (suc n) = below f n + f n

pub below_more : (f : ℕ → ℕ) (n : ℕ) → below f (suc n) ≡ below f n + f n
unfolding below
below_more f n = refl

pub below_same : (f g : ℕ → ℕ) (n : ℕ) → ((a : ℕ) → a < n → f a ≡ g a) → below f n ≡ below g n
unfolding below
below_same f g zero same = refl
below_same f g (suc n) same = let here = same n (omega arith) in let again = below_same f g n (λ a lt. same a (omega (arith, lt))) in omega (arith, here, again)

pub below_plus : (f g h : ℕ → ℕ) → ((a : ℕ) → h a ≡ f a + g a) → (n : ℕ) → below h n ≡ below f n + below g n
unfolding below
below_plus f g h is zero = refl
below_plus f g h is (suc n) = let here = is n in let again = below_plus f g h is n in omega (arith, here, again)

pub below_ones : (n : ℕ) → below (λ a. 1) n ≡ n
unfolding below
below_ones zero = refl
below_ones (suc n) = let again = below_ones n in omega (arith, again)

pub below_zeros : (n : ℕ) → below (λ a. 0) n ≡ 0
unfolding below
below_zeros zero = refl
below_zeros (suc n) = let again = below_zeros n in omega (arith, again)

pub below_total : {X : Type 0} (f : ℕ → X → ℕ) (xs : List X) (n : ℕ) → below (λ a. total (f a) xs) n ≡ total (λ x. below (λ a. f a x) n) xs
unfolding below
below_total f xs zero = sym (total_none xs)
below_total f xs (suc n) =
    let again = below_total f xs n in
    let both = total_plus (λ x. below (λ a. f a x) n) (f n) (λ x. below (λ a. f a x) n + f n x) (λ x. refl) xs in
    omega (arith, again, both)

-- a sum of sums in the other order
pub below_swapped : (f : ℕ → ℕ → ℕ) (m n : ℕ) → below (λ a. below (f a) m) n ≡ below (λ q. below (λ a. f a q) n) m
unfolding below
below_swapped f m zero = sym (below_zeros m)
below_swapped f m (suc n) =
    let again = below_swapped f m n in
    let both = below_plus (λ q. below (λ a. f a q) n) (f n) (λ q. below (λ a. f a q) n + f n q) (λ q. refl) m in
    omega (arith, again, both)

-- the first m, and those behind them
pub below_split : (f : ℕ → ℕ) (m n : ℕ) → below f (m + n) ≡ below f m + below (λ a. f (m + a)) n
unfolding below
below_split f m zero = ap (below f) (let e : m + 0 ≡ m = omega arith in e) ∙ (let e : below f m ≡ below f m + 0 = omega arith in e)
below_split f m (suc n) =
    let again = below_split f m n in
    let next : m + suc n ≡ suc (m + n) = omega arith in
    ap (below f) next ∙ (let e : below f (m + n) + f (m + n) ≡ below f m + (below (λ a. f (m + a)) n + f (m + n)) = omega (arith, again) in e)

below_front : (f : ℕ → ℕ) (n : ℕ) → below f (suc n) ≡ f 0 + below (λ a. f (suc a)) n
unfolding below
below_front f zero = omega arith
below_front f (suc n) = let again = below_front f n in omega (arith, again)

pub below_flags : (flags : List Bool) → count_by (λ b. b) flags ≡ below (λ a. one (slice_index_or flags a false)) (length flags)
unfolding below
below_flags [] = refl
below_flags (b ∷ flags) =
    let more = sum_by-cons (λ (b : Bool). if b then 1 else 0) b flags in
    let again = below_flags flags in
    let front = below_front (λ a. one (slice_index_or (b ∷ flags) a false)) (length flags) in
    omega (arith, more, again, front)

below_hit : (k n : ℕ) → below (λ a. one (nat_eq (suc k) (suc a))) n ≡ one (nat_lt k n)
unfolding below
below_hit k zero = grind (arith, nat_tests)
below_hit k (suc n) = let again = below_hit k n in grind (arith, nat_tests, again)

-- a test that passes at one number at most
pub below_any : (test : ℕ → Bool) (n : ℕ) → ((p q : ℕ) → test p ≡ true → test q ≡ true → p ≡ q) → one (any_below n test) ≡ below (λ q. one (test q)) n
unfolding any_below below
below_any test zero once = refl
below_any test (suc n) once = by (test n) refl (any_below n test) refl (below_any test n once)
  where
    by : (b : Bool) → test n ≡ b → (c : Bool) → any_below n test ≡ c → one (any_below n test) ≡ below (λ q. one (test q)) n → one (b || any_below n test) ≡ below (λ q. one (test q)) n + one b
    by true e true h again = let at = any-found n test h in absurd (let same = once at.0 n at.2 e in let lt = at.1 in omega (arith, same, lt))
    by true e false h again = let none = ap one h in omega (arith, again, none)
    by false e c h again = omega (arith, again)

-- the data page that an address leads to
pub below_one : (x n : ℕ) → x ≤ n → below (λ a. one (nat_eq x (suc a))) n ≡ one (nat_lt 0 x)
below_one zero n fits = below_same (λ a. one (nat_eq 0 (suc a))) (λ a. 0) n (λ a lt. grind (arith, nat_tests)) ∙ below_zeros n ∙ grind (arith, nat_tests)
below_one (suc k) n fits = below_hit k n ∙ (let here : nat_lt k n ≡ true = grind (arith, nat_tests, fits) in let there : nat_lt 0 (suc k) ≡ true = grind (arith, nat_tests) in ap one (here ∙ sym there))

-- an address that there is a page for is that of one page, where the test passes
pub below_address : (x n : ℕ) (p : ℕ → Bool) → x ≤ n → below (λ a. one (nat_eq x (suc a) && p (suc a))) n ≡ one (nat_lt 0 x && p x)
below_address x n p fits = below_same (λ a. one (nat_eq x (suc a) && p (suc a))) (λ a. one (nat_eq x (suc a) && p x)) n (λ a lt. moved a) ∙ by (p x)
  where
    moved : (a : ℕ) → one (nat_eq x (suc a) && p (suc a)) ≡ one (nat_eq x (suc a) && p x)
    moved a = ⊎_elim
        (λ e. ap (λ k. one (nat_eq x (suc a) && p k)) (sym e))
        (λ ne. let none : nat_eq x (suc a) ≡ false = grind (arith, nat_tests, ne) in ap (λ b. one (b && p (suc a))) none ∙ sym (ap (λ b. one (b && p x)) none))
        (cases_eq x (suc a))

    nothing : (b : Bool) → (b && false) ≡ false
    nothing true = refl
    nothing false = refl

    all : (b : Bool) → (b && true) ≡ b
    all true = refl
    all false = refl

    by : (b : Bool) → below (λ a. one (nat_eq x (suc a) && b)) n ≡ one (nat_lt 0 x && b)
    by true = below_same (λ a. one (nat_eq x (suc a) && true)) (λ a. one (nat_eq x (suc a))) n (λ a lt. ap one (all (nat_eq x (suc a)))) ∙ below_one x n fits ∙ ap one (sym (all (nat_lt 0 x)))
    by false = below_same (λ a. one (nat_eq x (suc a) && false)) (λ a. 0) n (λ a lt. ap one (nothing (nat_eq x (suc a)))) ∙ below_zeros n ∙ ap one (sym (nothing (nat_lt 0 x)))

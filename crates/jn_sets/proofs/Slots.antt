-- Lists by slot, and the index that numbers them.
use Rattle.jn_sets.proofs.Common.{◌≡◌, ◌⊎◌, inr, ⊎_elim, ◌≤◌, ◌<◌, ℕ, zero, suc, ◌+◌, Bool, true, false, List, [], ◌∷◌, ◌++◌, length, Option, None, Some, refl, sym, ◌∙◌, ap, subst, arith, nat_tests, length-filter, sum_by-cons, nat_eq, nat_lt, slice_set, position, filter, count_by, is_some, cond, not, enumerate_from, position_or_len, list_any, values_of, lookup, IndexMap, set_value_at, insert_entry, insert_entry-new}

-- a value of the index is changed in its place
pub set_numbered : {X : Type 0} (xs : List X) (n i : ℕ) (w : X) → set_value_at (enumerate_from n xs) i w ≡ enumerate_from n (slice_set xs i w)
set_numbered [] n i w = refl
set_numbered (x ∷ xs) n zero w = refl
set_numbered (x ∷ xs) n (suc i) w = ap (λ l. (n, x) ∷ l) (set_numbered xs (n + 1) i w)

pub values_set : {K X : Type 0} (es : List (K × X)) (i : ℕ) (w : X) → values_of (set_value_at es i w) ≡ slice_set (values_of es) i w
values_set [] i w = refl
values_set (e ∷ es) zero w = refl
values_set (e ∷ es) (suc i) w = ap (λ l. e.1 ∷ l) (values_set es i w)

-- the next value goes last
pub push_numbered : {X : Type 0} (xs : List X) (n : ℕ) (x : X) → enumerate_from n (xs ++ x ∷ []) ≡ enumerate_from n xs ++ (n + length xs, x) ∷ []
push_numbered [] n x = ap (λ k. (k, x) ∷ []) (omega arith)
push_numbered (y ∷ xs) n x = ap (λ l. (n, y) ∷ l) (push_numbered xs (n + 1) x ∙ ap (λ k. enumerate_from (n + 1) xs ++ (k, x) ∷ []) (omega arith))

pub values_push : {K X : Type 0} (es : List (K × X)) (k : K) (x : X) → values_of (es ++ (k, x) ∷ []) ≡ values_of es ++ x ∷ []
values_push [] k x = refl
values_push (e ∷ es) k x = ap (λ l. e.1 ∷ l) (values_push es k x)

-- either one passes, and then one is counted, or none is
counted : {X : Type 0} (test : X → Bool) (xs : List X) → ((position_or_len test xs < length xs) × (0 < length (filter test xs))) ⊎ ((position_or_len test xs ≡ length xs) × (length (filter test xs) ≡ 0))
counted test [] = inr (refl, refl)
counted test (x ∷ xs) = by (test x) refl (counted test xs)
  where
    by : (b : Bool) → test x ≡ b → ((position_or_len test xs < length xs) × (0 < length (filter test xs))) ⊎ ((position_or_len test xs ≡ length xs) × (length (filter test xs) ≡ 0))
        → ((position_or_len test (x ∷ xs) < length (x ∷ xs)) × (0 < length (filter test (x ∷ xs)))) ⊎ ((position_or_len test (x ∷ xs) ≡ length (x ∷ xs)) × (length (filter test (x ∷ xs)) ≡ 0))
    by b e rest = grind (arith, nat_tests)

pub none_counted : {X : Type 0} (test : X → Bool) (xs : List X) → position test xs ≡ None → count_by test xs ≡ 0
none_counted test xs none = sym (length-filter test xs) ∙ ⊎_elim (λ h. let t : nat_lt (position_or_len test xs) (length xs) ≡ true = grind (arith, nat_tests, h.0) in absurd (cc (t, none))) (λ h. h.1) (counted test xs)

pub some_counted : {X : Type 0} (test : X → Bool) (xs : List X) (i : ℕ) → position test xs ≡ Some i → 0 < count_by test xs
some_counted test xs i some = subst (λ n. 0 < n) (length-filter test xs) (⊎_elim (λ h. h.1) (λ h. let t : nat_lt (position_or_len test xs) (length xs) ≡ false = grind (arith, nat_tests, h.0) in absurd (cc (t, some))) (counted test xs))

-- the index doesn't have a slot past its last
absent_past : {X : Type 0} (xs : List X) (n k : ℕ) → n + length xs ≤ k → lookup (nat_eq k) (enumerate_from n xs) ≡ None
absent_past [] n k past = refl
absent_past (x ∷ xs) n k past =
    let t : nat_eq k n ≡ false = grind (arith, nat_tests, past) in
    rw t (absent_past xs (n + 1) k (omega (arith, past)))

pub index_push : {X S : Type 0} (m : IndexMap ℕ X S) (n : ℕ) (x : X) → m.entries ≡ enumerate_from 0 (values_of m.entries) → length (values_of m.entries) ≡ n → insert_entry nat_eq m.entries n x ≡ m.entries ++ (n, x) ∷ []
index_push m n x numbered long = insert_entry-new nat_eq m n x (ap (lookup (nat_eq n)) numbered ∙ absent_past (values_of m.entries) 0 n (omega (arith, long)))

-- one is found exactly where any passes
pub any_found : {X : Type 0} (test : X → Bool) (xs : List X) → is_some (position test xs) ≡ list_any test xs
any_found test xs = some_where (nat_lt (position_or_len test xs) (length xs)) (position_or_len test xs) ∙ within test xs
  where
    some_where : (b : Bool) (i : ℕ) → is_some (cond b (Some i) None) ≡ b
    some_where true i = refl
    some_where false i = refl

    within : {X : Type 0} (test : X → Bool) (xs : List X) → nat_lt (position_or_len test xs) (length xs) ≡ list_any test xs
    within test [] = refl
    within test (x ∷ xs) = by (test x) refl (within test xs)
      where
        by : (b : Bool) → test x ≡ b → nat_lt (position_or_len test xs) (length xs) ≡ list_any test xs → nat_lt (position_or_len test (x ∷ xs)) (length (x ∷ xs)) ≡ list_any test (x ∷ xs)
        by true e rest = grind (arith, nat_tests)
        by false e rest = grind (arith, nat_tests)

-- as many entries pass by their values as values do
values_counted : {K X : Type 0} (test : X → Bool) (es : List (K × X)) → count_by (λ e. test e.1) es ≡ count_by test (values_of es)
values_counted test [] = refl
values_counted test (e ∷ es) =
    let one : count_by (λ m. test m.1) (e ∷ es) ≡ cond (test e.1) 1 0 + count_by (λ m. test m.1) es = sum_by-cons (λ m. cond (test m.1) 1 0) e es in
    let its : count_by test (e.1 ∷ values_of es) ≡ cond (test e.1) 1 0 + count_by test (values_of es) = sum_by-cons (λ x. cond (test x) 1 0) e.1 (values_of es) in
    let rest = values_counted test es in
    omega arith

pub values_passing : {K X : Type 0} (test : X → Bool) (es : List (K × X)) → length (filter (λ e. test e.1) es) ≡ count_by test (values_of es)
values_passing test es = length-filter (λ e. test e.1) es ∙ values_counted test es

-- the others are those that don't pass
pub values_others : {K X : Type 0} (test : X → Bool) (es : List (K × X)) → length (filter (λ e. not (test e.1)) es) + count_by test (values_of es) ≡ length (values_of es)
values_others test [] = refl
values_others test (e ∷ es) =
    let its : count_by test (e.1 ∷ values_of es) ≡ cond (test e.1) 1 0 + count_by test (values_of es) = sum_by-cons (λ x. cond (test x) 1 0) e.1 (values_of es) in
    by (test e.1) refl its (values_others test es)
  where
    by : (b : Bool) → test e.1 ≡ b → count_by test (e.1 ∷ values_of es) ≡ cond b 1 0 + count_by test (values_of es)
        → length (filter (λ e. not (test e.1)) es) + count_by test (values_of es) ≡ length (values_of es)
        → length (filter (λ e. not (test e.1)) (e ∷ es)) + count_by test (e.1 ∷ values_of es) ≡ length (e.1 ∷ values_of es)
    by true e its rest = rw e (omega arith)
    by false e its rest = rw e (omega arith)

pub none_yet : (n m : ℕ) → n ≡ m → 0 + n ≡ m
none_yet n m h = omega (arith, h)

pub none_found_where : {X : Type 0} (test : X → Bool) (xs : List X) → list_any test xs ≡ false → None ≡ position test xs
none_found_where test xs none = by (position test xs) (any_found test xs ∙ none)
  where
    by : (o : Option ℕ) → is_some o ≡ false → None ≡ o
    by None e = refl
    by (Some i) e = absurd (cc e)

-- How many records are intentions of a work, and how many are rubbish once it is removed.
use Rattle.jn_recovery.proofs.Common.{◌≡◌, ◌≢◌, ⊎_elim, ◌<◌, ◌≤◌, ◌+◌, ℕ, zero, suc, Bool, true, false, not, ◌&&◌, ◌||◌, if◌then◌else◌, List, [], ◌∷◌, length, Option, Some, None, get_or, refl, sym, ◌∙◌, ap, subst, true≢false, arith, nat_tests, find_at, sum_by-cons, sum_by-set, slice_get_within, get_or_from_slice_get, is_some, nat_eq, nat_lt, count_by, slice_set, option_and_then, find, list_any, position_or_len, WorkId, work_eq, work_tells, stored_in, intention_of, with_first, intentions_from, PassesOnce, HasIntentions, none_found, found_passes, any_same, at_set, StoredIntention, Record, Free, Intention, Ready, Going, FlagRecord, record_in, is_prepared, is_intention, is_rubbish, is_in, rubbish_of, rubbish_in, intends_for}
use Rattle.jn_recovery.proofs.Erasing.{rubbish_length, rubbish_fewer, in_both}
use Rattle.jn_recovery.proofs.FlagCalls.{none_any}
use Rattle.jn_recovery.proofs.Totals.{one}

module _ {X : Type 0} (d : X) where
  module _ (p : X → Bool) where
    pub none_counts : (xs : List X) → ((j : ℕ) → p (get_or xs j d) ≡ false) → count_by p xs ≡ 0
    none_counts [] none = refl
    none_counts (x ∷ xs) none = let more = sum_by-cons (λ x. if p x then 1 else 0) x xs in let here = none 0 in let again = none_counts xs (λ j. none (suc j)) in grind (arith, more, here, again)

    not_true : (b : Bool) → (b ≡ true → ⊥) → b ≡ false
    not_true b h = grind arith

    pub one_counts : (xs : List X) (i : ℕ) → i < length xs → p (get_or xs i d) ≡ true → ((j : ℕ) → p (get_or xs j d) ≡ true → j ≡ i) → count_by p xs ≡ 1
    one_counts [] i below at only = absurd (omega (arith, below))
    one_counts (x ∷ xs) zero below at only =
        let more = sum_by-cons (λ x. if p x then 1 else 0) x xs in
        let rest = none_counts xs (λ j. not_true (p (get_or xs j d)) (λ t. let e = only (suc j) t in omega (arith, e))) in grind (arith, more, at, rest)
    one_counts (x ∷ xs) (suc i) below at only =
        let more = sum_by-cons (λ x. if p x then 1 else 0) x xs in
        let first : p x ≡ false = not_true (p x) (λ t. let e = only 0 t in omega (arith, e)) in
        let again = one_counts xs i (omega (arith, below)) at (λ j t. let e = only (suc j) t in omega (arith, e)) in grind (arith, more, first, again)

    -- where a find ends
    pub found_at : (xs : List X) (x : X) → find p xs ≡ Some x → (j : ℕ) × (j < length xs) × (get_or xs j d ≡ x) × (p (get_or xs j d) ≡ true)
    found_at xs x e =
        let at = sym (find_at p xs) ∙ e in let is = get_or_from_slice_get xs (position_or_len p xs) x d at in
        (position_or_len p xs, slice_get_within xs (position_or_len p xs) x at, is, subst (λ y. p y ≡ true) (sym is) (found_passes p d xs x e))

  pub same_counts : (p q : X → Bool) (xs : List X) → ((j : ℕ) → p (get_or xs j d) ≡ q (get_or xs j d)) → count_by p xs ≡ count_by q xs
  same_counts p q [] same = refl
  same_counts p q (x ∷ xs) same =
      let a = sum_by-cons (λ x. if p x then 1 else 0) x xs in let b = sum_by-cons (λ x. if q x then 1 else 0) x xs in let here = same 0 in let again = same_counts p q xs (λ j. same (suc j)) in grind (arith, a, b, here, again)

pub counts_plus : {X : Type 0} (p q r : X → Bool) → ((x : X) → one (r x) ≡ one (p x) + one (q x)) → (xs : List X) → count_by r xs ≡ count_by p xs + count_by q xs
counts_plus p q r is [] = refl
counts_plus p q r is (x ∷ xs) =
    let a = sum_by-cons (λ x. if p x then 1 else 0) x xs in let b = sum_by-cons (λ x. if q x then 1 else 0) x xs in let c = sum_by-cons (λ x. if r x then 1 else 0) x xs in
    let here = is x in let again = counts_plus p q r is xs in omega (arith, a, b, c, here, again)

-- ---- the intentions of a work

abbrev is_below : WorkId → ℕ → Record → Bool
is_below w n (Intention v u k i) = work_eq v w && nat_lt k n
is_below w n _ = false

below_step : (w : WorkId) (n : ℕ) (r : Record) → one (is_below w (suc n) r) ≡ one (is_below w n r) + one (is_intention w n r)
below_step w n Free = refl
below_step w n (Intention v u k i) = by (work_eq v w)
  where
    by : (b : Bool) → one (b && nat_lt k (suc n)) ≡ one (b && nat_lt k n) + one (b && nat_eq k n)
    by true = grind (arith, nat_tests)
    by false = refl
below_step w n (Ready head m reads) = refl
below_step w n (Going head m reads) = refl
below_step w n (FlagRecord f) = refl

none_below : (w : WorkId) (r : Record) → is_below w 0 r ≡ false
none_below w Free = refl
none_below w (Intention v u k i) = grind (arith, nat_tests)
none_below w (Ready head m reads) = refl
none_below w (Going head m reads) = refl
none_below w (FlagRecord f) = refl

some_found : (o : Option Record) → is_some (option_and_then stored_in o) ≡ true → (r : Record) × (o ≡ Some r)
some_found None h = absurd (true≢false (sym h))
some_found (Some r) h = (r, refl)

module _ (pool : List Record) (w : WorkId) where
  below_count : (n : ℕ) → ((order : ℕ) → order < n → is_some (intention_of pool w order) ≡ true) → ((order : ℕ) → PassesOnce (λ i. is_intention w order (record_in pool i))) → count_by (is_below w n) pool ≡ n
  below_count zero all once = none_counts Free (is_below w 0) pool (λ j. none_below w (record_in pool j))
  below_count (suc n) all once =
      let found = some_found (find (is_intention w n) pool) (all n (omega arith)) in
      let at = found_at Free (is_intention w n) pool found.0 found.1 in
      let more = counts_plus (is_below w n) (is_intention w n) (is_below w (suc n)) (below_step w n) pool in
      let again = below_count n (λ order lt. all order (omega (arith, lt))) once in
      let last = one_counts Free (is_intention w n) pool at.0 at.1 at.3 (λ j t. once n j at.0 t at.3) in
      omega (arith, more, again, last)

  pub work_count : (n : ℕ) → HasIntentions pool w n → count_by (intends_for w) pool ≡ n
  work_count n has = same_counts Free (intends_for w) (is_below w n) pool (λ j. by (record_in pool j) (λ order t. has.no_more order j t)) ∙ below_count n has.all has.once
    where
      by : (r : Record) → ((order : ℕ) → is_intention w order r ≡ true → order < n) → intends_for w r ≡ is_below w n r
      by Free less = refl
      by (Intention v u k i) less = own (work_eq v w) refl
        where
          own : (b : Bool) → work_eq v w ≡ b → b ≡ (b && nat_lt k n)
          own true e = let lt = less k (grind (arith, nat_tests, e)) in grind (arith, nat_tests, lt)
          own false e = refl
      by (Ready head m reads) less = refl
      by (Going head m reads) less = refl
      by (FlagRecord f) less = refl

  pub listed_length : (order n : ℕ) → ((k : ℕ) → order ≤ k → k < order + n → is_some (intention_of pool w k) ≡ true) → length (intentions_from pool w order n) ≡ n
  listed_length order zero all = refl
  listed_length order (suc n) all = by (intention_of pool w order) (all order (omega arith) (omega arith)) (listed_length (suc order) n (λ k low high. all k (omega (arith, low)) (omega (arith, high))))
    where
      by : (o : Option StoredIntention) → is_some o ≡ true → length (intentions_from pool w (suc order) n) ≡ n → length (with_first o (intentions_from pool w (suc order) n)) ≡ suc n
      by None h e = absurd (true≢false (sym h))
      by (Some s) h e = ap suc e

-- ---- rubbish, once a work's record is freed

module _ (pool : List Record) (slot : ℕ) (work : WorkId) (below : slot < length pool) (stands : is_prepared work (record_in pool slot) ≡ true) (once : PassesOnce (λ i. is_prepared work (record_in pool i)))
    (others : (w : WorkId) → work ≢ w → is_prepared w (record_in pool slot) ≡ false) (some : list_any (is_prepared work) pool ≡ true) where
  pub none_prepared : (j : ℕ) → is_prepared work (record_in (slice_set pool slot Free) j) ≡ false
  none_prepared j = ⊎_elim
      (λ h. ap (is_prepared work) h.1)
      (λ h. ap (is_prepared work) h.1 ∙ wrong (is_prepared work (record_in pool j)) refl h.0)
      (at_set Free pool slot Free below j)
    where
      wrong : (b : Bool) → is_prepared work (record_in pool j) ≡ b → j ≢ slot → b ≡ false
      wrong true e ne = absurd (ne (once j slot e stands))
      wrong false e ne = refl

  pub gone_found : find (is_prepared work) (slice_set pool slot Free) ≡ None
  gone_found = none_found (is_prepared work) Free (slice_set pool slot Free) none_prepared

  pub prepared_gone : (w : WorkId) → list_any (is_prepared w) (slice_set pool slot Free) ≡ (list_any (is_prepared w) pool && not (work_eq work w))
  prepared_gone w = ⊎_elim
      (λ h. subst (λ u. list_any (is_prepared u) (slice_set pool slot Free) ≡ false) h.1 (none_any (is_prepared work) (slice_set pool slot Free) gone_found) ∙ none (list_any (is_prepared w) pool) (work_eq work w) h.0)
      (λ h. any_same (is_prepared w) Free pool slot Free (others w h.1) ∙ stays (list_any (is_prepared w) pool) (work_eq work w) h.0)
      (work_tells work w)
    where
      none : (a e : Bool) → e ≡ true → false ≡ (a && not e)
      none true e h = grind (arith, h)
      none false e h = refl

      stays : (a e : Bool) → e ≡ false → a ≡ (a && not e)
      stays true e h = grind (arith, h)
      stays false e h = refl

  rubbish_more : (r : Record) → one (is_rubbish (slice_set pool slot Free) r) ≡ one (is_rubbish pool r) + one (intends_for work r)
  rubbish_more Free = refl
  rubbish_more (Intention v u k i) = ap (λ b. one (not b)) (prepared_gone v) ∙ ⊎_elim
      (λ h. own (list_any (is_prepared v) pool) (work_eq work v) (work_eq v work) (subst (λ x. list_any (is_prepared x) pool ≡ true) h.1 some) h.0 (let t = work_tells v work in let e = h.1 in grind (arith, e)))
      (λ h. other (list_any (is_prepared v) pool) (work_eq work v) (work_eq v work) h.0 (let t = work_tells v work in let t2 = work_tells work v in grind (arith, h.0)))
      (work_tells work v)
    where
      own : (a e f : Bool) → a ≡ true → e ≡ true → f ≡ true → one (not (a && not e)) ≡ one (not a) + one f
      own a e f x y z = grind (arith, x, y, z)

      other : (a e f : Bool) → e ≡ false → f ≡ false → one (not (a && not e)) ≡ one (not a) + one f
      other true e f y z = grind (arith, y, z)
      other false e f y z = grind (arith, y, z)
  rubbish_more (Ready head m reads) = refl
  rubbish_more (Going head m reads) = refl
  rubbish_more (FlagRecord f) = refl

  past : (p : Record → Bool) → p Free ≡ false → p (record_in pool slot) ≡ false → count_by p (slice_set pool slot Free) ≡ count_by p pool
  past p free old = let e = sum_by-set (λ r. if p r then 1 else 0) pool slot Free Free below in grind (arith, free, old)

  pub removed_rubbish : (n : ℕ) → HasIntentions pool work n → is_rubbish pool (record_in pool slot) ≡ false → intends_for work (record_in pool slot) ≡ false
      → length (rubbish_in (slice_set pool slot Free) (slice_set pool slot Free)) ≡ length (rubbish_in pool pool) + n
  removed_rubbish n has old own =
      let all = rubbish_length (slice_set pool slot Free) (slice_set pool slot Free) in
      let split = counts_plus (is_rubbish pool) (intends_for work) (is_rubbish (slice_set pool slot Free)) rubbish_more (slice_set pool slot Free) in
      let a = past (is_rubbish pool) refl old in let b = past (intends_for work) refl own in let c = work_count pool work n has in let before = rubbish_length pool pool in
      omega (arith, all, split, a, b, c, before)

  names_more : (rs : List Record) (n : WorkId) → is_in work_eq n (rubbish_in (slice_set pool slot Free) rs) ≡ true → (work_eq work n || is_in work_eq n (rubbish_in pool rs)) ≡ true
  names_more [] n h = absurd (true≢false (sym h))
  names_more (r ∷ rs) n h =
      let again = names_more rs n in let a = in_both n (rubbish_of (slice_set pool slot Free) r) (rubbish_in (slice_set pool slot Free) rs) in let b = in_both n (rubbish_of pool r) (rubbish_in pool rs) in let here = by r in grind (arith, h, here)
    where
      by : (r : Record) → is_in work_eq n (rubbish_of (slice_set pool slot Free) r) ≡ true → (work_eq work n || is_in work_eq n (rubbish_of pool r)) ≡ true
      by Free h = absurd (true≢false (sym h))
      by (Intention v u k i) h = gone (list_any (is_prepared v) pool) (work_eq work v) refl (sym (ap (λ b. is_in work_eq n (if b then [] else v ∷ [])) (prepared_gone v)) ∙ h)
        where
          gone : (a e : Bool) → work_eq work v ≡ e → is_in work_eq n (if a && not e then [] else v ∷ []) ≡ true → (work_eq work n || is_in work_eq n (if a then [] else v ∷ [])) ≡ true
          gone true true e h = let t = work_tells work v in grind (arith, e, h)
          gone true false e h = absurd (true≢false (sym h))
          gone false e f h = grind (arith, h)
      by (Ready head m reads) h = absurd (true≢false (sym h))
      by (Going head m reads) h = absurd (true≢false (sym h))
      by (FlagRecord f) h = absurd (true≢false (sym h))

  pub removed_names : (n : WorkId) → is_in work_eq n (rubbish_in (slice_set pool slot Free) (slice_set pool slot Free)) ≡ true → is_in work_eq n (work ∷ rubbish_in pool pool) ≡ true
  removed_names n h = let a = names_more (slice_set pool slot Free) n h in let b = rubbish_fewer pool pool slot n in grind (arith, a)

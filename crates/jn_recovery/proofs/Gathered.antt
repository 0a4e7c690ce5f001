-- What is collected of the records, one after another.
use Rattle.jn_recovery.proofs.Common.{◌≡◌, ⊎_elim, ◌<◌, ◌+◌, ◌-◌, ℕ, zero, suc, Bool, true, false, ◌||◌, List, [], ◌∷◌, ◌++◌, length, take, get_or, Some, None, refl, sym, ◌∙◌, ap, subst, arith, cases_eq, nat_tests, nat_eq, position, option_and_then, list_any, get_or-set_same, get_or-set_other, length-set, TableView, is_held, WorkId, with_first, stored_in, intention_of, intentions_from, Record, Free, Intention, Ready, Going, FlagRecord, StoredIntention, Counts, slice_set, record_in, is_intention, record_names, MayHold, HoldsNamed, names_address, IsApart, MayHoldAt, held_at, HoldsBoth, both_held}
use Rattle.jn_recovery.proofs.Pool.{position_at, none_position}

-- ---- the intentions of a work

list_step : (pool : List Record) (w : WorkId) (k n : ℕ) → k < n → intentions_from pool w k (n - k) ≡ with_first (intention_of pool w k) (intentions_from pool w (k + 1) (n - (k + 1)))
list_step pool w k n lt =
    let left : n - k ≡ suc (n - (k + 1)) = omega (arith, lt) in
    let next : suc k ≡ k + 1 = omega arith in
    ap (intentions_from pool w k) left ∙ ap (λ j. with_first (intention_of pool w k) (intentions_from pool w j (n - (k + 1)))) next

-- one more is listed, or it isn't there
pub list_some : (pool : List Record) (w : WorkId) (k n : ℕ) (i : StoredIntention) (acc new all : List StoredIntention) → k < n → intention_of pool w k ≡ Some i → new ≡ acc ++ i ∷ [] → acc ++ intentions_from pool w k (n - k) ≡ all
    → new ++ intentions_from pool w (k + 1) (n - (k + 1)) ≡ all
list_some pool w k n i acc new all lt e more before =
    ap (λ l. l ++ intentions_from pool w (k + 1) (n - (k + 1))) more ∙ joined acc ∙ ap (λ l. acc ++ l) (sym (list_step pool w k n lt ∙ ap (λ o. with_first o (intentions_from pool w (k + 1) (n - (k + 1)))) e)) ∙ before
  where
    joined : (xs : List StoredIntention) → (xs ++ i ∷ []) ++ intentions_from pool w (k + 1) (n - (k + 1)) ≡ xs ++ i ∷ intentions_from pool w (k + 1) (n - (k + 1))
    joined [] = refl
    joined (x ∷ xs) = ap (λ l. x ∷ l) (joined xs)

pub list_none : (pool : List Record) (w : WorkId) (k n : ℕ) (acc all : List StoredIntention) → k < n → intention_of pool w k ≡ None → acc ++ intentions_from pool w k (n - k) ≡ all
    → acc ++ intentions_from pool w (k + 1) (n - (k + 1)) ≡ all
list_none pool w k n acc all lt e before = ap (λ l. acc ++ l) (sym (list_step pool w k n lt ∙ ap (λ o. with_first o (intentions_from pool w (k + 1) (n - (k + 1)))) e)) ∙ before

pub intention_none : (pool : List Record) (w : WorkId) (k : ℕ) → position (is_intention w k) pool ≡ None → intention_of pool w k ≡ None
intention_none pool w k e = ap (option_and_then stored_in) (none_position (is_intention w k) pool e)

pub intention_some : (pool : List Record) (w : WorkId) (k slot : ℕ) → position (is_intention w k) pool ≡ Some slot → intention_of pool w k ≡ stored_in (record_in pool slot)
intention_some pool w k slot e = ap (option_and_then stored_in) (position_at (is_intention w k) pool Free slot e).2

-- ---- the data pages that records name

module _ {X : Type 0} (p : X → Bool) (d : X) where
  -- of the first and of one more
  any_more : (xs : List X) (k : ℕ) → k < length xs → list_any p (take (k + 1) xs) ≡ (list_any p (take k xs) || p (get_or xs k d))
  any_more [] k lt = absurd (omega (arith, lt))
  any_more (x ∷ xs) zero lt = grind arith
  any_more (x ∷ xs) (suc k) lt = ap (λ j. list_any p (take j (x ∷ xs))) (let e : suc k + 1 ≡ suc (k + 1) = omega arith in e) ∙ ap (λ b. p x || b) (any_more xs k (omega (arith, lt))) ∙ (let a = p x in let b = list_any p (take k xs) in let e = p (get_or xs k d) in grind arith)

  -- where it passes once, it passes at no earlier place
  none_earlier : (xs : List X) (k : ℕ) → p (get_or xs k d) ≡ true → ((i j : ℕ) → p (get_or xs i d) ≡ true → p (get_or xs j d) ≡ true → i ≡ j) → list_any p (take k xs) ≡ false
  none_earlier [] zero here once = refl
  none_earlier [] (suc k) here once = refl
  none_earlier (x ∷ xs) zero here once = refl
  none_earlier (x ∷ xs) (suc k) here once =
      let rest = none_earlier xs k here (λ i j a b. let e = once (suc i) (suc j) a b in omega (arith, e)) in by (p x) refl rest
    where
      by : (b : Bool) → p x ≡ b → list_any p (take k xs) ≡ false → (b || list_any p (take k xs)) ≡ false
      by true e rest = absurd (let h = once 0 (suc k) e here in omega (arith, h))
      by false e rest = rest

-- ---- a page is held

-- what a hold leaves as it was
pub record KeepsTable (t u : TableView) : Type 0 where
  pub counts : u.counts ≡ t.counts
  pub heads : u.heads ≡ t.heads
  pub maps : u.maps ≡ t.maps
  pub free_heads : u.free_heads ≡ t.free_heads
  pub promised : u.free_leaves.promised ≡ t.free_leaves.promised
  pub size : length u.held ≡ length t.held
  pub touched : u.touched ≡ t.touched

keeps_at : (t u : TableView) (x : ℕ) → KeepsTable t u → KeepsTable t (held_at u x)
keeps_at t u zero k = k
keeps_at t u (suc a) k = record { counts = k.counts; heads = k.heads; maps = k.maps; free_heads = k.free_heads; promised = k.promised; size = length-set u.held a true ∙ k.size; touched = k.touched }

keeps_both : (t u : TableView) (r : Record) → KeepsTable t u → KeepsTable t (both_held u r)
keeps_both t u Free k = k
keeps_both t u (Intention w v o i) k = keeps_at t (held_at u i.address) i.map (keeps_at t u i.address k)
keeps_both t u (Ready head n reads) k = k
keeps_both t u (Going head n reads) k = k
keeps_both t u (FlagRecord f) k = k

-- and which pages are held then
held_then : (u : TableView) (x : ℕ) → ((a : ℕ) → x ≡ suc a → a < length u.held) → (b : ℕ) → is_held (held_at u x) b ≡ (is_held u b || nat_eq x (suc b))
held_then u zero there b = let t : nat_eq 0 (suc b) ≡ false = grind (arith, nat_tests) in stays (is_held u b) (nat_eq 0 (suc b)) t
  where
    stays : (y e : Bool) → e ≡ false → y ≡ (y || e)
    stays y e h = grind (arith, h)
held_then u (suc a) there b = ⊎_elim
    (λ same. let t : nat_eq (suc a) (suc b) ≡ true = grind (arith, nat_tests, same) in
    ap (λ j. get_or (slice_set u.held a true) j false) same ∙ get_or-set_same u.held a true false (there a refl) ∙ ends (is_held u b) (nat_eq (suc a) (suc b)) t)
    (λ ne. let t : nat_eq (suc a) (suc b) ≡ false = grind (arith, nat_tests, ne) in get_or-set_other u.held a b true false ne ∙ stays (is_held u b) (nat_eq (suc a) (suc b)) t)
    (cases_eq b a)
  where
    ends : (y e : Bool) → e ≡ true → true ≡ (y || e)
    ends y e h = grind (arith, h)

    stays : (y e : Bool) → e ≡ false → y ≡ (y || e)
    stays y e h = grind (arith, h)

both_then : (u : TableView) (r : Record) → ((a : ℕ) → record_names a r ≡ true → a < length u.held) → (b : ℕ) → is_held (both_held u r) b ≡ (is_held u b || record_names b r)
both_then u Free there b = none (is_held u b)
  where
    none : (y : Bool) → y ≡ (y || false)
    none true = refl
    none false = refl
both_then u (Intention w v o i) there b =
    held_then (held_at u i.address) i.map (λ a e. let size = (keeps_at u u i.address (record { counts = refl; heads = refl; maps = refl; free_heads = refl; promised = refl; size = refl; touched = refl })).size in let lt = there a (right a e) in omega (arith, lt, size)) b
    ∙ ap (λ y. y || nat_eq i.map (suc b)) (held_then u i.address (λ a e. there a (left a e)) b) ∙ joined (is_held u b) (nat_eq i.address (suc b)) (nat_eq i.map (suc b))
  where
    is_it : (x a : ℕ) → x ≡ suc a → nat_eq x (suc a) ≡ true
    is_it x a e = grind (arith, nat_tests, e)

    or-left : (y z : Bool) → y ≡ true → (y || z) ≡ true
    or-left y z e = grind (arith, e)

    or-right : (y z : Bool) → z ≡ true → (y || z) ≡ true
    or-right y z e = grind (arith, e)

    left : (a : ℕ) → i.address ≡ suc a → names_address (suc a) i ≡ true
    left a e = or-left (nat_eq i.address (suc a)) (nat_eq i.map (suc a)) (is_it i.address a e)

    right : (a : ℕ) → i.map ≡ suc a → names_address (suc a) i ≡ true
    right a e = or-right (nat_eq i.address (suc a)) (nat_eq i.map (suc a)) (is_it i.map a e)

    joined : (x y z : Bool) → ((x || y) || z) ≡ (x || (y || z))
    joined true y z = refl
    joined false y z = refl
both_then u (Ready head n reads) there b = none (is_held u b)
  where
    none : (y : Bool) → y ≡ (y || false)
    none true = refl
    none false = refl
both_then u (Going head n reads) there b = none (is_held u b)
  where
    none : (y : Bool) → y ≡ (y || false)
    none true = refl
    none false = refl
both_then u (FlagRecord f) there b = none (is_held u b)
  where
    none : (y : Bool) → y ≡ (y || false)
    none true = refl
    none false = refl

module _ (t u : TableView) (pool : List Record) (k : ℕ) (lt : k < length pool) (may : MayHold t pool) (before : HoldsNamed t (take k pool) u) where
  kept : KeepsTable t u
  kept = record { counts = before.counts; heads = before.heads; maps = before.maps; free_heads = before.free_heads; promised = before.promised; size = before.size; touched = before.touched }

  -- a page that the next record names is loose
  loose : (a : ℕ) → record_names a (record_in pool k) ≡ true → is_held u a ≡ false
  loose a here = before.held a ∙ none_earlier (record_names a) Free pool k here (may.once a)

  there : (a : ℕ) → record_names a (record_in pool k) ≡ true → a < length u.held
  there a here = let fit = may.fit k a here in let size = may.size in let same = before.size in omega (arith, fit, size, same)

  pub may_hold_both : HoldsBoth u (record_in pool k)
  may_hold_both = by (record_in pool k) loose there (λ a here. subst (λ (c : Counts). a < c.leaves) (sym before.counts) (may.fit k a here)) (may.apart k)
    where
      none_promised : u.free_leaves.promised ≡ 0
      none_promised = before.promised ∙ may.unpromised

      first : (x : ℕ) → ((a : ℕ) → x ≡ suc a → (a < u.counts.leaves) × (is_held u a ≡ false)) → MayHoldAt u x
      first zero h = tt
      first (suc a) h = let p = h a refl in (p.0, p.1, none_promised)

      second : (x y : ℕ) → ((a : ℕ) → y ≡ suc a → (a < u.counts.leaves) × (is_held u a ≡ false)) → ((a : ℕ) → x ≡ suc a → y ≡ suc a → ⊥) → MayHoldAt (held_at u x) y
      second x zero h apart = tt
      second zero (suc b) h apart = let p = h b refl in (p.0, p.1, none_promised)
      second (suc a) (suc b) h apart = let p = h b refl in (p.0, get_or-set_other u.held a b true false (λ e. apart a refl (ap suc e)) ∙ p.1, none_promised)

      by : (r : Record) → ((a : ℕ) → record_names a r ≡ true → is_held u a ≡ false) → ((a : ℕ) → record_names a r ≡ true → a < length u.held) → ((a : ℕ) → record_names a r ≡ true → a < u.counts.leaves) → IsApart r → HoldsBoth u r
      by Free loose there fit apart = tt
      by (Intention w v o i) loose there fit apart =
          (first i.address (λ a e. (fit a (left a e), loose a (left a e))), second i.address i.map (λ a e. (fit a (right a e), loose a (right a e))) apart)
        where
          is_it : (x a : ℕ) → x ≡ suc a → nat_eq x (suc a) ≡ true
          is_it x a e = grind (arith, nat_tests, e)

          or-left : (y z : Bool) → y ≡ true → (y || z) ≡ true
          or-left y z e = grind (arith, e)

          or-right : (y z : Bool) → z ≡ true → (y || z) ≡ true
          or-right y z e = grind (arith, e)

          left : (a : ℕ) → i.address ≡ suc a → names_address (suc a) i ≡ true
          left a e = or-left (nat_eq i.address (suc a)) (nat_eq i.map (suc a)) (is_it i.address a e)

          right : (a : ℕ) → i.map ≡ suc a → names_address (suc a) i ≡ true
          right a e = or-right (nat_eq i.address (suc a)) (nat_eq i.map (suc a)) (is_it i.map a e)
      by (Ready head n reads) loose there fit apart = tt
      by (Going head n reads) loose there fit apart = tt
      by (FlagRecord f) loose there fit apart = tt

  pub hold_more : HoldsNamed t (take (k + 1) pool) (both_held u (record_in pool k))
  hold_more =
      let keeps = keeps_both t u (record_in pool k) kept in record {
        counts = keeps.counts;
        heads = keeps.heads;
        maps = keeps.maps;
        free_heads = keeps.free_heads;
        promised = keeps.promised;
        size = keeps.size;
        touched = keeps.touched;
        held = λ a. both_then u (record_in pool k) there a ∙ ap (λ b. b || record_names a (record_in pool k)) (before.held a) ∙ sym (any_more (record_names a) Free pool k lt);
      }

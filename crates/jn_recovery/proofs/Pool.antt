-- One record of the pool gives way to another.
use Rattle.jn_recovery.proofs.Common.{◌≡◌, ◌<◌, ◌+◌, ℕ, zero, suc, Bool, true, false, if◌then◌else◌, List, [], ◌∷◌, ◌++◌, length, Option, Some, None, get_or, refl, sym, ◌∙◌, ap, subst, true≢false, arith, fun_ext, nat_tests, find_at, find_past, passes_at_first, sum_by-set, slice_get_past, slice_get-get_or, ◌&&◌, nat_lt, position, slice_set, option_and_then, position_or_len, find, list_any, ServerNo, Tid, WorkId, works_name, stored_list, RecordPut, IsPutStep, IsIdlePut, any_same, none_passes, Flag, Record, Free, Intention, Ready, Going, FlagRecord, WorkState, record_page, Counts, IsRecord, record_in, slot_page, is_free, free_count, is_prepared, is_intention, is_flag, StoreView, StorePut, rubbish_of, rubbish_in, WorksMatch, FlagsMatch, work_by, flag_on, holds_intention, names_address}
use Rattle.jn_page_state.proofs.PoolLemmas.{intentions_kept, idle_kept, idle_list}

-- ---- the first that passes

module _ {X : Type 0} (p : X → Bool) (xs : List X) where
  pub position_at : (d : X) (i : ℕ) → position p xs ≡ Some i → (i < length xs) × (p (get_or xs i d) ≡ true) × (find p xs ≡ Some (get_or xs i d))
  position_at d i e = by (nat_lt (position_or_len p xs) (length xs)) refl e
    where
      by : (b : Bool) → nat_lt (position_or_len p xs) (length xs) ≡ b → (if b then Some (position_or_len p xs) else None) ≡ Some i → (i < length xs) × (p (get_or xs i d) ≡ true) × (find p xs ≡ Some (get_or xs i d))
      by true t e =
          let same : position_or_len p xs ≡ i = cc e in
          let below : position_or_len p xs < length xs = grind (arith, nat_tests, t) in (
            subst (λ k. k < length xs) same below,
            subst (λ k. p (get_or xs k d) ≡ true) same (passes_at_first p xs d below),
            find_at p xs ∙ slice_get-get_or xs (position_or_len p xs) d below ∙ ap (λ k. Some (get_or xs k d)) same,
          )
      by false t e = absurd (cc e)

  pub none_position : position p xs ≡ None → find p xs ≡ None
  none_position e = by (nat_lt (position_or_len p xs) (length xs)) refl e
    where
      by : (b : Bool) → nat_lt (position_or_len p xs) (length xs) ≡ b → (if b then Some (position_or_len p xs) else None) ≡ None → find p xs ≡ None
      by true t e = absurd (cc e)
      by false t e = find_at p xs ∙ slice_get_past xs (position_or_len p xs) (grind (arith, nat_tests, t))

-- ---- the put of a record

pub step_of : (server : ServerNo) (g : Counts) (v : StoreView) (slot : ℕ) (r : Record) (ok : Bool) (w : StoreView) → slot < g.pool → IsRecord r → StorePut v (slot_page slot) (record_page r) ok w → IsPutStep server g v (RecordPut slot r) ok w
step_of server g v slot r ok w below is put = record {
  page = (below, is);
  step = subst (λ k. StorePut v k (record_page r) ok w) (let e : slot + 1 ≡ 1 + slot = omega arith in e) put;
}

pub free_less : (pool : List Record) (slot : ℕ) → slot < length pool → is_free (record_in pool slot) ≡ false → free_count (slice_set pool slot Free) ≡ free_count pool + 1
free_less pool slot below used = let e = sum_by-set (λ r. if is_free r then 1 else 0) pool slot Free Free below in grind (arith, used)

pub free_more : (pool : List Record) (slot : ℕ) (new : Record) → slot < length pool → is_free (record_in pool slot) ≡ true → is_free new ≡ false → free_count (slice_set pool slot new) + 1 ≡ free_count pool
free_more pool slot new below free used = let e = sum_by-set (λ r. if is_free r then 1 else 0) pool slot new Free below in grind (arith, free, used)

pub free_same : (pool : List Record) (slot : ℕ) (new : Record) → slot < length pool → is_free (record_in pool slot) ≡ false → is_free new ≡ false → free_count (slice_set pool slot new) ≡ free_count pool
free_same pool slot new below before after = let e = sum_by-set (λ r. if is_free r then 1 else 0) pool slot new Free below in grind (arith, before, after)

-- ---- a record that is of no work

pub record IsOfNoWork (r : Record) : Type 0 where
  pub works : (w : WorkId) → is_prepared w r ≡ false
  pub lists : (w : WorkId) (order : ℕ) → is_intention w order r ≡ false
  pub names : (pool : List Record) (a : ℕ) → holds_intention (names_address a) pool r ≡ false
  pub rubbish : (pool : List Record) → rubbish_of pool r ≡ []

pub free_no_work : IsOfNoWork Free
free_no_work = record { works = λ w. refl; lists = λ w order. refl; names = λ pool a. refl; rubbish = λ pool. refl }

pub flag_no_work : (f : Flag) → IsOfNoWork (FlagRecord f)
flag_no_work f = record { works = λ w. refl; lists = λ w order. refl; names = λ pool a. refl; rubbish = λ pool. refl }

pub flag_is : (t : Tid) (r : Record) → is_flag t r ≡ true → (f : Flag) × (r ≡ FlagRecord f)
flag_is t Free h = absurd (true≢false (sym h))
flag_is t (Intention w u k i) h = absurd (true≢false (sym h))
flag_is t (Ready head n reads) h = absurd (true≢false (sym h))
flag_is t (Going head n reads) h = absurd (true≢false (sym h))
flag_is t (FlagRecord f) h = (f, refl)

pub free_is : (r : Record) → is_free r ≡ true → r ≡ Free
free_is Free h = refl
free_is (Intention w u k i) h = absurd (true≢false (sym h))
free_is (Ready head n reads) h = absurd (true≢false (sym h))
free_is (Going head n reads) h = absurd (true≢false (sym h))
free_is (FlagRecord f) h = absurd (true≢false (sym h))

-- ---- rubbish

-- the same works are prepared
pub rubbish_by : (one two : List Record) → ((w : WorkId) → list_any (is_prepared w) one ≡ list_any (is_prepared w) two) → (rs : List Record) → rubbish_in one rs ≡ rubbish_in two rs
rubbish_by one two same [] = refl
rubbish_by one two same (r ∷ rs) = ap (λ l. l ++ rubbish_in one rs) (by r) ∙ ap (λ l. rubbish_of two r ++ l) (rubbish_by one two same rs)
  where
    by : (r : Record) → rubbish_of one r ≡ rubbish_of two r
    by Free = refl
    by (Intention w u k i) = ap (λ b. if b then [] else w ∷ []) (same w)
    by (Ready head n reads) = refl
    by (Going head n reads) = refl
    by (FlagRecord f) = refl

pub rubbish_past : (pool rs : List Record) (slot : ℕ) (new : Record) → rubbish_of pool (record_in rs slot) ≡ rubbish_of pool new → rubbish_in pool (slice_set rs slot new) ≡ rubbish_in pool rs
rubbish_past pool [] slot new e = refl
rubbish_past pool (r ∷ rs) zero new e = ap (λ l. l ++ rubbish_in pool rs) (sym e)
rubbish_past pool (r ∷ rs) (suc slot) new e = ap (λ l. rubbish_of pool r ++ l) (rubbish_past pool rs slot new e)

-- ---- of each work both are its record, or neither

module _ (pool : List Record) (slot : ℕ) (new : Record) (same : (w : WorkId) → is_prepared w (record_in pool slot) ≡ is_prepared w new) where
  pub prepared_stay : (w : WorkId) → list_any (is_prepared w) (slice_set pool slot new) ≡ list_any (is_prepared w) pool
  prepared_stay w = any_same (is_prepared w) Free pool slot new (same w)

  pub rubbish_moves : rubbish_in (slice_set pool slot new) (slice_set pool slot new) ≡ rubbish_in pool (slice_set pool slot new)
  rubbish_moves = rubbish_by (slice_set pool slot new) pool prepared_stay (slice_set pool slot new)

  pub rubbish_kept : rubbish_of pool (record_in pool slot) ≡ rubbish_of pool new → rubbish_in (slice_set pool slot new) (slice_set pool slot new) ≡ rubbish_in pool pool
  rubbish_kept e = rubbish_moves ∙ rubbish_past pool pool slot new e

  pub names_kept : (a : ℕ) → holds_intention (names_address a) pool (record_in pool slot) ≡ false → holds_intention (names_address a) pool new ≡ false → works_name (slice_set pool slot new) a ≡ works_name pool a
  names_kept a before after = ap (λ p. list_any p (slice_set pool slot new)) (fun_ext by) ∙ any_same (holds_intention (names_address a) pool) Free pool slot new (before ∙ sym after)
    where
      by : (r : Record) → holds_intention (names_address a) (slice_set pool slot new) r ≡ holds_intention (names_address a) pool r
      by Free = refl
      by (Intention w u k i) = ap (λ b. names_address a i && b) (prepared_stay w)
      by (Ready head n reads) = refl
      by (Going head n reads) = refl
      by (FlagRecord f) = refl

-- neither is an intention of the work, or its record
pub work_stays : (pool : List Record) (slot : ℕ) (new : Record) (w : WorkId) → ((order : ℕ) → is_intention w order (record_in pool slot) ≡ false) → ((order : ℕ) → is_intention w order new ≡ false)
    → is_prepared w (record_in pool slot) ≡ false → is_prepared w new ≡ false
    → option_and_then (work_by (slice_set pool slot new) w) (find (is_prepared w) (slice_set pool slot new)) ≡ option_and_then (work_by pool w) (find (is_prepared w) pool)
work_stays pool slot new w lists_before lists_after before after =
    by (find (is_prepared w) (slice_set pool slot new)) ∙ ap (option_and_then (work_by pool w)) (find_past (is_prepared w) pool slot new Free before after)
  where
    list : (n : ℕ) → stored_list (slice_set pool slot new) w n ≡ stored_list pool w n
    list n = intentions_kept pool slot new w lists_before lists_after 0 n

    by : (o : Option Record) → option_and_then (work_by (slice_set pool slot new) w) o ≡ option_and_then (work_by pool w) o
    by None = refl
    by (Some Free) = refl
    by (Some (Intention v u k i)) = refl
    by (Some (Ready head n reads)) = ap (λ l. Some (record { head = head; list = l; reads = reads; going = false })) (list n)
    by (Some (Going head n reads)) = ap (λ l. Some (record { head = head; list = l; reads = reads; going = true })) (list n)
    by (Some (FlagRecord f)) = refl

-- neither is a flag
pub flags_stay : (pool : List Record) (slot : ℕ) (new : Record) (flags : List Flag) → ((t : Tid) → is_flag t (record_in pool slot) ≡ false) → ((t : Tid) → is_flag t new ≡ false) → FlagsMatch pool flags → FlagsMatch (slice_set pool slot new) flags
flags_stay pool slot new flags before after is = record { differ = is.differ; each = λ t. is.each t ∙ sym (ap (option_and_then flag_on) (find_past (is_flag t) pool slot new Free (before t) (after t))) }

-- ---- neither is of a work

module _ (pool : List Record) (slot : ℕ) (new : Record) (before : IsOfNoWork (record_in pool slot)) (after : IsOfNoWork new) where
  same_works : (w : WorkId) → is_prepared w (record_in pool slot) ≡ is_prepared w new
  same_works w = before.works w ∙ sym (after.works w)

  pub rubbish_stays : rubbish_in (slice_set pool slot new) (slice_set pool slot new) ≡ rubbish_in pool pool
  rubbish_stays = rubbish_kept pool slot new same_works (before.rubbish pool ∙ sym (after.rubbish pool))

  pub names_stay : (a : ℕ) → works_name (slice_set pool slot new) a ≡ works_name pool a
  names_stay a = names_kept pool slot new same_works a (before.names pool a) (after.names pool a)

  pub match_stays : (works : List WorkState) → WorksMatch pool works → WorksMatch (slice_set pool slot new) works
  match_stays works is = record { differ = is.differ; each = λ w. is.each w ∙ sym (work_stays pool slot new w (before.lists w) (after.lists w) (before.works w) (after.works w)) }

-- ---- a record that counts for nothing

module _ (pool : List Record) (slot : ℕ) (new : Record) (idle : IsIdlePut pool slot new) where
  pub idle_same : (w : WorkId) → is_prepared w (record_in pool slot) ≡ is_prepared w new
  idle_same w = idle_kept pool (record_in pool slot) w idle.old_idle ∙ sym (idle_kept pool new w idle.new_idle)

  pub idle_work : (w : WorkId) → option_and_then (work_by (slice_set pool slot new) w) (find (is_prepared w) (slice_set pool slot new)) ≡ option_and_then (work_by pool w) (find (is_prepared w) pool)
  idle_work w = by (list_any (is_prepared w) pool) refl
    where
      by : (b : Bool) → list_any (is_prepared w) pool ≡ b → option_and_then (work_by (slice_set pool slot new) w) (find (is_prepared w) (slice_set pool slot new)) ≡ option_and_then (work_by pool w) (find (is_prepared w) pool)
      by true e = work_stays pool slot new w (λ order. idle_list pool (record_in pool slot) w order idle.old_idle e) (λ order. idle_list pool new w order idle.new_idle e)
          (idle_kept pool (record_in pool slot) w idle.old_idle) (idle_kept pool new w idle.new_idle)
      by false e =
          let none = none_passes (is_prepared w) Free pool e in
          let after = none_passes (is_prepared w) Free (slice_set pool slot new) (any_same (is_prepared w) Free pool slot new (idle_same w) ∙ e) in
          ap (option_and_then (work_by (slice_set pool slot new) w)) after ∙ sym (ap (option_and_then (work_by pool w)) none)

  pub idle_works : (works : List WorkState) → WorksMatch pool works → WorksMatch (slice_set pool slot new) works
  idle_works works is = record { differ = is.differ; each = λ w. is.each w ∙ sym (idle_work w) }

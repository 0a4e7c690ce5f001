-- What one record's change does to the works and flags of a pool.
use Rattle.jn_page_state.proofs.Common.{◌≡◌, ◌≢◌, ◌⊎◌, inl, inr, ℕ, zero, suc, ◌<◌, Bool, true, false, not, ◌&&◌, ◌||◌, if◌then◌else◌, List, length, map, Option, None, Some, refl, sym, ◌∙◌, ap, subst, true≢false, arith, fun_ext, find_past, slice_set, nat_eq, option_and_then, find, list_any, Tid, WorkId, work_tells, tid_tells, Record, Free, Intention, Ready, Going, FlagRecord, Prepared, FlagState, at_work, at_tid, record_in, is_free, is_prepared, is_intention, is_flag, is_rubbish, stored_in, intention_of, with_first, intentions_from, full_list, intended, ready_work, prepared_by, works_in, flag_by, flags_in}
use Rattle.jn_page_state.proofs.Found.{found_written, none_passes}

-- a record at a slot gives way to another
module _ (pool : List Record) (slot : ℕ) (new : Record) where
  -- neither is an intention of the work
  pub intentions_kept : (work : WorkId) → ((order : ℕ) → is_intention work order (record_in pool slot) ≡ false) → ((order : ℕ) → is_intention work order new ≡ false)
      → (order n : ℕ) → intentions_from (slice_set pool slot new) work order n ≡ intentions_from pool work order n
  intentions_kept work before after order zero = refl
  intentions_kept work before after order (suc n) =
      ap (λ (o : Option Record). with_first (option_and_then stored_in o) (intentions_from (slice_set pool slot new) work (suc order) n)) (find_past (is_intention work order) pool slot new Free (before order) (after order))
      ∙ ap (with_first (intention_of pool work order)) (intentions_kept work before after (suc order) n)

  pub list_kept : (blocks : ℕ → List ℕ) (work : WorkId) → ((order : ℕ) → is_intention work order (record_in pool slot) ≡ false) → ((order : ℕ) → is_intention work order new ≡ false)
      → (n : ℕ) → full_list (slice_set pool slot new) blocks work n ≡ full_list pool blocks work n
  list_kept blocks work before after n = ap (map (intended blocks)) (intentions_kept work before after 0 n)

prepared_same : (one two : List Record) (blocks : ℕ → List ℕ) (work : WorkId) → ((n : ℕ) → full_list one blocks work n ≡ full_list two blocks work n) → (o : Option Record)
    → prepared_by one blocks work o ≡ prepared_by two blocks work o
prepared_same one two blocks work same None = refl
prepared_same one two blocks work same (Some Free) = refl
prepared_same one two blocks work same (Some (Intention w t k i)) = refl
prepared_same one two blocks work same (Some (FlagRecord f)) = refl
prepared_same one two blocks work same (Some (Ready head n reads)) = ap (λ list. Some (ready_work head list reads)) (same n)
prepared_same one two blocks work same (Some (Going head n reads)) = ap (λ list. Some (record (ready_work head list reads) { going = true })) (same n)

-- what is written of one work at one slot
module _ (pool : List Record) (blocks : ℕ → List ℕ) (slot : ℕ) (new : Record)
    (old_lists : (v : WorkId) (order : ℕ) → is_intention v order (record_in pool slot) ≡ false) (new_lists : (v : WorkId) (order : ℕ) → is_intention v order new ≡ false) where
  -- a work of which neither record is
  pub work_kept : (v : WorkId) → is_prepared v (record_in pool slot) ≡ false → is_prepared v new ≡ false → works_in (slice_set pool slot new) blocks v ≡ works_in pool blocks v
  work_kept v before after = prepared_same (slice_set pool slot new) pool blocks v (list_kept pool slot new blocks v (old_lists v) (new_lists v)) (find (is_prepared v) (slice_set pool slot new))
      ∙ ap (prepared_by pool blocks v) (find_past (is_prepared v) pool slot new Free before after)

  module _ (below : slot < length pool) (w : WorkId) (only : (j : ℕ) → is_prepared w (record_in pool j) ≡ true → j ≡ slot) where
    abbrev written : Option Prepared
    written = prepared_by pool blocks w (if is_prepared w new then Some new else None)

    here : works_in (slice_set pool slot new) blocks w ≡ prepared_by pool blocks w (if is_prepared w new then Some new else None)
    here = prepared_same (slice_set pool slot new) pool blocks w (list_kept pool slot new blocks w (old_lists w) (new_lists w)) (find (is_prepared w) (slice_set pool slot new))
        ∙ ap (prepared_by pool blocks w) (found_written (is_prepared w) Free pool slot new below refl only)

    pub works_written : ((v : WorkId) → w ≢ v → is_prepared v (record_in pool slot) ≡ false) → ((v : WorkId) → w ≢ v → is_prepared v new ≡ false)
        → works_in (slice_set pool slot new) blocks ≡ at_work (works_in pool blocks) w (prepared_by pool blocks w (if is_prepared w new then Some new else None))
    works_written before after = fun_ext (λ v. elim (work_tells w v) [
      | inl same ↦ subst (λ q. works_in (slice_set pool slot new) blocks q ≡ written) same.1 here ∙ sym (ap (λ b. if b then written else works_in pool blocks v) same.0)
      | inr other ↦ work_kept v (before v other.1) (after v other.1) ∙ sym (ap (λ b. if b then written else works_in pool blocks v) other.0)
    ])

-- ---- flags

module _ (pool : List Record) (slot : ℕ) (new : Record) where
  pub flags_kept : ((t : Tid) → is_flag t (record_in pool slot) ≡ false) → ((t : Tid) → is_flag t new ≡ false) → flags_in (slice_set pool slot new) ≡ flags_in pool
  flags_kept before after = fun_ext (λ t. ap flag_by (find_past (is_flag t) pool slot new Free (before t) (after t)))

  pub flags_written : slot < length pool → (t : Tid) → ((j : ℕ) → is_flag t (record_in pool j) ≡ true → j ≡ slot)
      → ((u : Tid) → t ≢ u → is_flag u (record_in pool slot) ≡ false) → ((u : Tid) → t ≢ u → is_flag u new ≡ false)
      → flags_in (slice_set pool slot new) ≡ at_tid (flags_in pool) t (flag_by (if is_flag t new then Some new else None))
  flags_written below t only before after = fun_ext (λ u. elim (tid_tells t u) [
    | inl same ↦ subst (λ q. flags_in (slice_set pool slot new) q ≡ written) same.1 (ap flag_by (found_written (is_flag t) Free pool slot new below refl only)) ∙ sym (ap (λ b. if b then written else flags_in pool u) same.0)
    | inr other ↦ ap flag_by (find_past (is_flag u) pool slot new Free (before u other.1) (after u other.1)) ∙ sym (ap (λ b. if b then written else flags_in pool u) other.0)
  ])
    where
      written : Option FlagState
      written = flag_by (if is_flag t new then Some new else None)

-- ---- records that count for nothing

-- free, or an intention of a work that isn't prepared
pub idle_kept : (pool : List Record) (r : Record) (v : WorkId) → (is_free r || is_rubbish pool r) ≡ true → is_prepared v r ≡ false
idle_kept pool Free v h = refl
idle_kept pool (Intention w t k i) v h = refl
idle_kept pool (Ready head n reads) v h = absurd (true≢false (sym h))
idle_kept pool (Going head n reads) v h = absurd (true≢false (sym h))
idle_kept pool (FlagRecord f) v h = absurd (true≢false (sym h))

pub idle_flag : (pool : List Record) (r : Record) (t : Tid) → (is_free r || is_rubbish pool r) ≡ true → is_flag t r ≡ false
idle_flag pool Free t h = refl
idle_flag pool (Intention w u k i) t h = refl
idle_flag pool (Ready head n reads) t h = absurd (true≢false (sym h))
idle_flag pool (Going head n reads) t h = absurd (true≢false (sym h))
idle_flag pool (FlagRecord f) t h = absurd (true≢false (sym h))

-- of a prepared work it is no intention
pub idle_list : (pool : List Record) (r : Record) (v : WorkId) (order : ℕ) → (is_free r || is_rubbish pool r) ≡ true → list_any (is_prepared v) pool ≡ true → is_intention v order r ≡ false
idle_list pool Free v order h p = refl
idle_list pool (Ready head n reads) v order h p = absurd (true≢false (sym h))
idle_list pool (Going head n reads) v order h p = absurd (true≢false (sym h))
idle_list pool (FlagRecord f) v order h p = absurd (true≢false (sym h))
idle_list pool (Intention w u k i) v order h p = elim (work_tells w v) [
  | inl same ↦ absurd (clash (list_any (is_prepared w) pool) h (subst (λ q. list_any (is_prepared q) pool ≡ true) (sym same.1) p))
  | inr other ↦ ap (λ b. b && nat_eq k order) other.0
]
  where
    clash : (b : Bool) → not b ≡ true → b ≡ true → ⊥
    clash b h t = grind arith

pub idle_works : (pool : List Record) (blocks : ℕ → List ℕ) (slot : ℕ) (new : Record) → (is_free (record_in pool slot) || is_rubbish pool (record_in pool slot)) ≡ true → (is_free new || is_rubbish pool new) ≡ true
    → works_in (slice_set pool slot new) blocks ≡ works_in pool blocks
idle_works pool blocks slot new before after = fun_ext (λ v. at v)
  where
    found : (v : WorkId) → find (is_prepared v) (slice_set pool slot new) ≡ find (is_prepared v) pool
    found v = find_past (is_prepared v) pool slot new Free (idle_kept pool (record_in pool slot) v before) (idle_kept pool new v after)

    by : (v : WorkId) → ((list_any (is_prepared v) pool ≡ true) ⊎ (list_any (is_prepared v) pool ≡ false)) → works_in (slice_set pool slot new) blocks v ≡ works_in pool blocks v
    by v (inl some) = prepared_same (slice_set pool slot new) pool blocks v (list_kept pool slot new blocks v (λ k. idle_list pool (record_in pool slot) v k before some) (λ k. idle_list pool new v k after some)) (find (is_prepared v) (slice_set pool slot new))
        ∙ ap (prepared_by pool blocks v) (found v)
    by v (inr none) = let e = none_passes (is_prepared v) Free pool none in
        ap (prepared_by (slice_set pool slot new) blocks v) (found v ∙ e) ∙ sym (ap (prepared_by pool blocks v) e)

    at : (v : WorkId) → works_in (slice_set pool slot new) blocks v ≡ works_in pool blocks v
    at v = by v (grind arith)

pub idle_flags : (pool : List Record) (slot : ℕ) (new : Record) → (is_free (record_in pool slot) || is_rubbish pool (record_in pool slot)) ≡ true → (is_free new || is_rubbish pool new) ≡ true
    → flags_in (slice_set pool slot new) ≡ flags_in pool
idle_flags pool slot new before after = flags_kept pool slot new (λ t. idle_flag pool (record_in pool slot) t before) (λ t. idle_flag pool new t after)

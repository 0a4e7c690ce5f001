-- Each put of a record leaves what a recovery asks.
use Rattle.jn_page_state.proofs.Common.{◌≡◌, ◌⊎◌, inl, inr, ℕ, suc, ◌<◌, Bool, true, false, ◌||◌, List, length, refl, sym, ◌∙◌, ap, subst, true≢false, arith, slice_set, list_any, LockUnit, Tid, WorkId, tid_eq, tid_tells, Flag, StoredIntention, Record, Free, Intention, Ready, Going, FlagRecord, WorkHead, Counts, record_in, is_prepared, is_intention, is_flag, Contents, layouts_in, heads_name, works_have, with_record, is_idle, IsIdlePut, IsReadySlot, IsPreparedSlot, IsFlagPut, IsFlagSlot, IsCompleteBy, IsSuppliedIn, IsConsistent, names_page}
use Rattle.jn_page_state.proofs.Slots.{any_fewer}
use Rattle.jn_page_state.proofs.Naming.{held_intends, intends_held}
use Rattle.jn_page_state.proofs.PoolLemmas.{idle_kept, idle_flag, idle_list}
use Rattle.jn_page_state.proofs.PoolLaws.{prepared_list, flag_list}
use Rattle.jn_page_state.proofs.PoolKept.{distinct_kept, complete_kept, supplied_kept, intends_before, addresses_kept}

-- a put that makes no work new
module _ (c : Contents) (slot : ℕ) (new : Record) (there : slot < length c.pool)
    (quiet : (w : WorkId) (k : ℕ) → list_any (is_prepared w) (slice_set c.pool slot new) ≡ true → (is_intention w k (record_in c.pool slot) ≡ false) × (is_intention w k new ≡ false))
    (mild : (w : WorkId) → is_prepared w new ≡ true → is_prepared w (record_in c.pool slot) ≡ true) where
  mild_consistent : (g : Counts) → ((t : Tid) → is_flag t new ≡ true → (is_flag t (record_in c.pool slot) ≡ true) ⊎ (list_any (is_flag t) c.pool ≡ false))
      → IsCompleteBy c.pool new → IsSuppliedIn c.heads c.pool new → IsConsistent g c → IsConsistent g (with_record c slot new)
  mild_consistent g flags whole full before = record {
    distinct = distinct_kept c slot new there (λ w t. inl (mild w t)) flags before.distinct;
    complete = complete_kept c slot new there quiet whole before.complete;
    supplied = supplied_kept c slot new there quiet full before.supplied;
    addresses = addresses_kept c slot new there quiet mild g.leaves before.addresses;
  }

  mild_named : (n : ℕ) (test : ℕ → StoredIntention → Bool) (d : ℕ) → names_page n test (layouts_in c) (slice_set c.pool slot new) d ≡ true → names_page n test (layouts_in c) c.pool d ≡ true
  mild_named n test d named = by (heads_name n (layouts_in c) (suc d)) (works_have (test (suc d)) (slice_set c.pool slot new)) named
      (λ t. let h = held_intends (test (suc d)) (slice_set c.pool slot new) t in intends_held (test (suc d)) c.pool h.0 h.1 (intends_before c slot new there quiet mild h.0 h.1 h.2) h.3)
    where
      by : (a b : Bool) → (a || b) ≡ true → (b ≡ true → works_have (test (suc d)) c.pool ≡ true) → (a || works_have (test (suc d)) c.pool) ≡ true
      by true b t later = refl
      by false b t later = later t

-- an element is passed where it isn't
none : (b : Bool) → b ≡ false → b ≡ true → ⊥
none b f t = true≢false (sym t ∙ f)

module _ (c : Contents) (slot : ℕ) where
  module _ (new : Record) (put : IsIdlePut c.pool slot new) where
    idle_quiet : (w : WorkId) (k : ℕ) → list_any (is_prepared w) (slice_set c.pool slot new) ≡ true → (is_intention w k (record_in c.pool slot) ≡ false) × (is_intention w k new ≡ false)
    idle_quiet w k t =
        let before = any_fewer Free c.pool slot new put.there (is_prepared w) refl (λ h. absurd (none (is_prepared w new) (idle_kept c.pool new w put.new_idle) h)) t in
        (idle_list c.pool (record_in c.pool slot) w k put.old_idle before, idle_list c.pool new w k put.new_idle before)

    idle_whole : (r : Record) → is_idle c.pool r ≡ true → IsCompleteBy c.pool r × IsSuppliedIn c.heads c.pool r
    idle_whole Free t = (tt, tt)
    idle_whole (Intention w u k s) t = (tt, tt)
    idle_whole (FlagRecord f) t = (tt, tt)
    idle_whole (Ready head n reads) t = absurd (true≢false (sym t))
    idle_whole (Going head n reads) t = absurd (true≢false (sym t))

    idle_mild : (w : WorkId) → is_prepared w new ≡ true → is_prepared w (record_in c.pool slot) ≡ true
    idle_mild w h = absurd (none (is_prepared w new) (idle_kept c.pool new w put.new_idle) h)

    idle_flags : (t : Tid) → is_flag t new ≡ true → (is_flag t (record_in c.pool slot) ≡ true) ⊎ (list_any (is_flag t) c.pool ≡ false)
    idle_flags t h = absurd (none (is_flag t new) (idle_flag c.pool new t put.new_idle) h)

    pub idle_consistent : (g : Counts) → IsConsistent g c → IsConsistent g (with_record c slot new)
    idle_consistent g = mild_consistent c slot new put.there idle_quiet idle_mild g idle_flags (idle_whole new put.new_idle).0 (idle_whole new put.new_idle).1

    pub idle_named : (n : ℕ) (test : ℕ → StoredIntention → Bool) (d : ℕ) → names_page n test (layouts_in c) (slice_set c.pool slot new) d ≡ true → names_page n test (layouts_in c) c.pool d ≡ true
    idle_named = mild_named c slot new put.there idle_quiet idle_mild

  -- a going record in place of the ready one
  module _ (head : WorkHead) (size : ℕ) (reads : List LockUnit) (at : IsReadySlot c.pool slot head size reads) where
    going_quiet : (w : WorkId) (k : ℕ) → list_any (is_prepared w) (slice_set c.pool slot (Going head size reads)) ≡ true → (is_intention w k (record_in c.pool slot) ≡ false) × (is_intention w k (Going head size reads) ≡ false)
    going_quiet w k t = (ap (is_intention w k) at.stands, refl)

    going_mild : (w : WorkId) → is_prepared w (Going head size reads) ≡ true → is_prepared w (record_in c.pool slot) ≡ true
    going_mild w h = ap (is_prepared w) at.stands ∙ h

    going_flags : (t : Tid) → is_flag t (Going head size reads) ≡ true → (is_flag t (record_in c.pool slot) ≡ true) ⊎ (list_any (is_flag t) c.pool ≡ false)
    going_flags t h = absurd (true≢false (sym h))

    pub going_consistent : (g : Counts) → IsConsistent g c → IsConsistent g (with_record c slot (Going head size reads))
    going_consistent g before = mild_consistent c slot (Going head size reads) at.there going_quiet going_mild g going_flags
        (subst (IsCompleteBy c.pool) at.stands (before.complete slot)) (subst (IsSuppliedIn c.heads c.pool) at.stands (before.supplied slot)) before

    pub going_named : (n : ℕ) (test : ℕ → StoredIntention → Bool) (d : ℕ) → names_page n test (layouts_in c) (slice_set c.pool slot (Going head size reads)) d ≡ true → names_page n test (layouts_in c) c.pool d ≡ true
    going_named = mild_named c slot (Going head size reads) at.there going_quiet going_mild

  -- a record of a work or a flag is freed
  module _ (there : slot < length c.pool) (lists : (w : WorkId) (k : ℕ) → is_intention w k (record_in c.pool slot) ≡ false) where
    freed_consistent : (g : Counts) → IsConsistent g c → IsConsistent g (with_record c slot Free)
    freed_consistent g = mild_consistent c slot Free there (λ w k t. (lists w k, refl)) (λ w h. absurd (true≢false (sym h))) g (λ t h. absurd (true≢false (sym h))) tt tt

    freed_named : (n : ℕ) (test : ℕ → StoredIntention → Bool) (d : ℕ) → names_page n test (layouts_in c) (slice_set c.pool slot Free) d ≡ true → names_page n test (layouts_in c) c.pool d ≡ true
    freed_named = mild_named c slot Free there (λ w k t. (lists w k, refl)) (λ w h. absurd (true≢false (sym h)))

  module _ (w : WorkId) (at : IsPreparedSlot c.pool slot w) where
    pub removed_consistent : (g : Counts) → IsConsistent g c → IsConsistent g (with_record c slot Free)
    removed_consistent = freed_consistent at.there (λ v k. prepared_list c slot w v k (record_in c.pool slot) at.stands)

    pub removed_named : (n : ℕ) (test : ℕ → StoredIntention → Bool) (d : ℕ) → names_page n test (layouts_in c) (slice_set c.pool slot Free) d ≡ true → names_page n test (layouts_in c) c.pool d ≡ true
    removed_named = freed_named at.there (λ v k. prepared_list c slot w v k (record_in c.pool slot) at.stands)

  module _ (t : Tid) (at : IsFlagSlot c.pool slot t) where
    pub dropped_consistent : (g : Counts) → IsConsistent g c → IsConsistent g (with_record c slot Free)
    dropped_consistent = freed_consistent at.there (λ v k. (flag_list c slot t v k (record_in c.pool slot) at.stands).0)

    pub dropped_named : (n : ℕ) (test : ℕ → StoredIntention → Bool) (d : ℕ) → names_page n test (layouts_in c) (slice_set c.pool slot Free) d ≡ true → names_page n test (layouts_in c) c.pool d ≡ true
    dropped_named = freed_named at.there (λ v k. (flag_list c slot t v k (record_in c.pool slot) at.stands).0)

  -- the first flag of a transaction
  module _ (flag : Flag) (put : IsFlagPut c.pool slot flag) where
    flag_quiet : (w : WorkId) (k : ℕ) → list_any (is_prepared w) (slice_set c.pool slot (FlagRecord flag)) ≡ true → (is_intention w k (record_in c.pool slot) ≡ false) × (is_intention w k (FlagRecord flag) ≡ false)
    flag_quiet w k t = (ap (is_intention w k) put.slot_free.free, refl)

    flag_new : (t : Tid) → is_flag t (FlagRecord flag) ≡ true → (is_flag t (record_in c.pool slot) ≡ true) ⊎ (list_any (is_flag t) c.pool ≡ false)
    flag_new t h = inr (subst (λ u. list_any (is_flag u) c.pool ≡ false) (same h) put.new)
      where
        same : tid_eq flag.tid t ≡ true → flag.tid ≡ t
        same h = grind (arith, tid_tells)

    pub flag_consistent : (g : Counts) → IsConsistent g c → IsConsistent g (with_record c slot (FlagRecord flag))
    flag_consistent g = mild_consistent c slot (FlagRecord flag) put.slot_free.there flag_quiet (λ w h. absurd (true≢false (sym h))) g flag_new tt tt

    pub flag_named : (n : ℕ) (test : ℕ → StoredIntention → Bool) (d : ℕ) → names_page n test (layouts_in c) (slice_set c.pool slot (FlagRecord flag)) d ≡ true → names_page n test (layouts_in c) c.pool d ≡ true
    flag_named = mild_named c slot (FlagRecord flag) put.slot_free.there flag_quiet (λ w h. absurd (true≢false (sym h)))

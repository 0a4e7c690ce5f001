-- What a recovery asks of a pool goes on over the put of a record.
use Rattle.jn_page_state.proofs.Common.{◌≡◌, ◌⊎◌, ⊎_elim, ℕ, ◌<◌, true, false, ◌&&◌, length, refl, sym, ◌∙◌, ap, subst, true≢false, arith, find_past, slice_set, nat_eq, option_and_then, is_some, list_any, Tid, WorkId, work_eq, work_tells, nat_tests, StoredIntention, Record, Free, Intention, Ready, Going, FlagRecord, record_in, is_prepared, is_intention, is_flag, Contents, stored_in, with_record, IsDistinct, HasIntentions, IsCompleteBy, IsSuppliedIn, Intends, AddressesDiffer, maps_in, IsSuppliedBy, intentions_from}
use Rattle.jn_page_state.proofs.Slots.{passes_any, at_set, once_set, any_fewer}
use Rattle.jn_page_state.proofs.PoolLemmas.{intentions_kept}

module _ (c : Contents) (slot : ℕ) (new : Record) (there : slot < length c.pool) where
  -- a work's or a transaction's record comes where it was, or where none was
  pub distinct_kept : ((w : WorkId) → is_prepared w new ≡ true → (is_prepared w (record_in c.pool slot) ≡ true) ⊎ (list_any (is_prepared w) c.pool ≡ false))
      → ((t : Tid) → is_flag t new ≡ true → (is_flag t (record_in c.pool slot) ≡ true) ⊎ (list_any (is_flag t) c.pool ≡ false))
      → IsDistinct c → IsDistinct (with_record c slot new)
  distinct_kept works flags before = record {
    works = λ w. once_set Free c.pool slot new there (is_prepared w) refl (before.works w) (works w);
    flags = λ t. once_set Free c.pool slot new there (is_flag t) refl (before.flags t) (flags t);
    files = before.files;
  }

  -- neither record is an intention of the work
  pub lists_kept : (w : WorkId) (n : ℕ) → ((k : ℕ) → is_intention w k (record_in c.pool slot) ≡ false) → ((k : ℕ) → is_intention w k new ≡ false)
      → HasIntentions c.pool w n → HasIntentions (slice_set c.pool slot new) w n
  lists_kept w n before after has = record {
    all = λ k lt. ap (λ o. is_some (option_and_then stored_in o)) (find_past (is_intention w k) c.pool slot new Free (before k) (after k)) ∙ has.all k lt;
    once = λ k. once_set Free c.pool slot new there (is_intention w k) refl (has.once k) (λ t. absurd (true≢false (sym t ∙ after k)));
    no_more = λ k i t. ⊎_elim
        (λ h. absurd (true≢false (sym t ∙ ap (is_intention w k) h.1 ∙ after k)))
        (λ h. has.no_more k i (ap (is_intention w k) (sym h.1) ∙ t))
        (at_set Free c.pool slot new there i);
  }

  module _ (quiet : (w : WorkId) (k : ℕ) → list_any (is_prepared w) (slice_set c.pool slot new) ≡ true → (is_intention w k (record_in c.pool slot) ≡ false) × (is_intention w k new ≡ false)) where
    by_record : (i : ℕ) (r : Record) → record_in (slice_set c.pool slot new) i ≡ r → IsCompleteBy c.pool r → IsCompleteBy (slice_set c.pool slot new) r
    by_record i Free e h = tt
    by_record i (Intention w t k s) e h = tt
    by_record i (FlagRecord f) e h = tt
    by_record i (Ready head n reads) e h =
        let here = passes_any (is_prepared head.work) Free (slice_set c.pool slot new) i refl (ap (is_prepared head.work) e ∙ grind (arith, work_tells)) in
        lists_kept head.work n (λ k. (quiet head.work k here).0) (λ k. (quiet head.work k here).1) h
    by_record i (Going head n reads) e h =
        let here = passes_any (is_prepared head.work) Free (slice_set c.pool slot new) i refl (ap (is_prepared head.work) e ∙ grind (arith, work_tells)) in
        lists_kept head.work n (λ k. (quiet head.work k here).0) (λ k. (quiet head.work k here).1) h

    pub complete_kept : IsCompleteBy c.pool new → ((i : ℕ) → IsCompleteBy c.pool (record_in c.pool i)) → (i : ℕ) → IsCompleteBy (slice_set c.pool slot new) (record_in (slice_set c.pool slot new) i)
    complete_kept whole before i = by_record i (record_in (slice_set c.pool slot new) i) refl (⊎_elim
        (λ h. subst (IsCompleteBy c.pool) (sym h.1) whole)
        (λ h. subst (IsCompleteBy c.pool) (sym h.1) (before i))
        (at_set Free c.pool slot new there i))

    -- the list of a prepared work is as it was
    list_supplied : (w : WorkId) (n i : ℕ) → is_prepared w (record_in (slice_set c.pool slot new) i) ≡ true → IsSuppliedBy (maps_in c.heads) (intentions_from c.pool w 0 n) → IsSuppliedBy (maps_in c.heads) (intentions_from (slice_set c.pool slot new) w 0 n)
    list_supplied w n i stands h =
        let here = passes_any (is_prepared w) Free (slice_set c.pool slot new) i refl stands in
        subst (IsSuppliedBy (maps_in c.heads)) (sym (intentions_kept c.pool slot new w (λ k. (quiet w k here).0) (λ k. (quiet w k here).1) 0 n)) h

    supplied_by : (i : ℕ) (r : Record) → record_in (slice_set c.pool slot new) i ≡ r → IsSuppliedIn c.heads c.pool r → IsSuppliedIn c.heads (slice_set c.pool slot new) r
    supplied_by i Free e h = tt
    supplied_by i (Intention w t k s) e h = tt
    supplied_by i (FlagRecord f) e h = tt
    supplied_by i (Ready head n reads) e h = list_supplied head.work n i (ap (is_prepared head.work) e ∙ grind (arith, work_tells)) h
    supplied_by i (Going head n reads) e h = list_supplied head.work n i (ap (is_prepared head.work) e ∙ grind (arith, work_tells)) h

    pub supplied_kept : IsSuppliedIn c.heads c.pool new → ((i : ℕ) → IsSuppliedIn c.heads c.pool (record_in c.pool i)) → (i : ℕ) → IsSuppliedIn c.heads (slice_set c.pool slot new) (record_in (slice_set c.pool slot new) i)
    supplied_kept full before i = supplied_by i (record_in (slice_set c.pool slot new) i) refl (⊎_elim
        (λ h. subst (IsSuppliedIn c.heads c.pool) (sym h.1) full)
        (λ h. subst (IsSuppliedIn c.heads c.pool) (sym h.1) (before i))
        (at_set Free c.pool slot new there i))

    -- an intention of a prepared work stood there before
    pub intends_stands : (i : ℕ) (s : StoredIntention) (h : Intends (slice_set c.pool slot new) i s) → record_in c.pool i ≡ Intention h.work h.tid h.order s
    intends_stands i s h = ⊎_elim
        (λ e. absurd (true≢false (sym (same h.work h.order) ∙ sym (ap (is_intention h.work h.order) (sym e.1 ∙ h.stands)) ∙ (quiet h.work h.order h.prepared).1)))
        (λ e. sym e.1 ∙ h.stands)
        (at_set Free c.pool slot new there i)
      where
        same : (w : WorkId) (k : ℕ) → (work_eq w w && nat_eq k k) ≡ true
        same w k = grind (arith, work_tells, nat_tests)

    module _ (mild : (w : WorkId) → is_prepared w new ≡ true → is_prepared w (record_in c.pool slot) ≡ true) where
      pub intends_before : (i : ℕ) (s : StoredIntention) → Intends (slice_set c.pool slot new) i s → Intends c.pool i s
      intends_before i s h = record {
        work = h.work;
        tid = h.tid;
        order = h.order;
        stands = intends_stands i s h;
        prepared = any_fewer Free c.pool slot new there (is_prepared h.work) refl (mild h.work) h.prepared;
      }

      -- where no work is new, no address is
      pub addresses_kept : (leaves : ℕ) → AddressesDiffer leaves c → AddressesDiffer leaves (with_record c slot new)
      addresses_kept leaves before = record {
        heads = before.heads;
        works = λ d i j p q s t x y. before.works d i j p q s t (intends_before i s x) (intends_before j t y);
        works_fit = λ d i p s x. before.works_fit d i p s (intends_before i s x);
        carried = λ d i j p q s x. before.carried d i j p q s (intends_before i s x);
      }

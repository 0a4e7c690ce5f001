-- The put of a ready record leaves what a recovery asks.
use Rattle.jn_page_state.proofs.Common.{◌≡◌, ◌⊎◌, inl, inr, ⊎_elim, ℕ, suc, ◌<◌, Bool, true, false, ◌||◌, List, length, refl, sym, ◌∙◌, ap, subst, true≢false, arith, slice_set, list_any, LockUnit, WorkId, work_eq, work_tells, FullIntention, StoredIntention, Record, Free, Intention, Ready, WorkHead, Counts, record_in, is_prepared, is_intention, names_address, most_cells, is_layout_of, layout_at, Contents, entry_of, layouts_in, heads_name, works_have, with_record, IsReadyPut, Intends, Addresses, Gives, AddressesDiffer, IsConsistent, names_page, is_named, HasAt, AreFresh, IsWholeWork, or_left, or_right}
use Rattle.jn_page_state.proofs.Slots.{any_fewer}
use Rattle.jn_page_state.proofs.Naming.{held_intends, intends_held, gives_address, cell_named, cell_within}
use Rattle.jn_page_state.proofs.PoolKept.{distinct_kept, complete_kept, supplied_kept, intends_stands}

module _ (c : Contents) (slot : ℕ) (head : WorkHead) (size : ℕ) (list : List FullIntention) (reads : List LockUnit) (put : IsReadyPut c.pool c.blocks slot head size list) where
  abbrev new : Record
  new = Ready head size reads

  abbrev there : slot < length c.pool
  there = put.slot_free.there

  quiet : (w : WorkId) (k : ℕ) → list_any (is_prepared w) (slice_set c.pool slot (Ready head size reads)) ≡ true → (is_intention w k (record_in c.pool slot) ≡ false) × (is_intention w k (Ready head size reads) ≡ false)
  quiet w k t = (ap (is_intention w k) put.slot_free.free, refl)

  first_one : (w : WorkId) → is_prepared w (Ready head size reads) ≡ true → (is_prepared w (record_in c.pool slot) ≡ true) ⊎ (list_any (is_prepared w) c.pool ≡ false)
  first_one w h = inr (subst (λ v. list_any (is_prepared v) c.pool ≡ false) (same h) put.new)
    where
      same : work_eq head.work w ≡ true → head.work ≡ w
      same h = grind (arith, work_tells)

  -- an intention of a prepared work was one before, or is the new work's
  split : (i : ℕ) (s : StoredIntention) → Intends (slice_set c.pool slot (Ready head size reads)) i s → Intends c.pool i s ⊎ HasAt c.pool head.work i s
  split i s h =
      let stands = intends_stands c slot (Ready head size reads) there quiet i s h in
      ⊎_elim
      (λ same. inr (record { tid = h.tid; order = h.order; stands = stands ∙ ap (λ w. Intention w h.tid h.order s) (sym same.1) }))
      (λ other. inl (record {
        work = h.work;
        tid = h.tid;
        order = h.order;
        stands = stands;
        prepared = any_fewer Free c.pool slot (Ready head size reads) there (is_prepared h.work) refl (λ t. absurd (true≢false (sym t ∙ other.0))) h.prepared;
      }))
      (work_tells head.work h.work)

  named_by_work : (d i q : ℕ) (s : StoredIntention) → Intends c.pool i s → Gives s d q → is_named c d ≡ true
  named_by_work d i q s h e = or_right (heads_name most_cells (layouts_in c) (suc d)) (works_have (names_address (suc d)) c.pool) (intends_held (names_address (suc d)) c.pool i s h (gives_address s d q e))

  named_by_head : (d j q : ℕ) → Addresses (layouts_in c) j q d → is_named c d ≡ true
  named_by_head d j q h = or_left (heads_name most_cells (layouts_in c) (suc d)) (works_have (names_address (suc d)) c.pool) (cell_named most_cells (layouts_in c) j q d (cell_within (entry_of c.blocks) c.heads j q d h) h)

  module _ (leaves : ℕ) (fresh : AreFresh leaves c head.work) (before : AddressesDiffer leaves c) where
    clash : (d i p : ℕ) (s : StoredIntention) → HasAt c.pool head.work i s → Gives s d p → is_named c d ≡ true → ⊥
    clash d i p s h e t = true≢false (sym t ∙ fresh.unnamed d i p s h e)

    works_differ : (d i j p q : ℕ) (s t : StoredIntention) → (Intends c.pool i s ⊎ HasAt c.pool head.work i s) → (Intends c.pool j t ⊎ HasAt c.pool head.work j t) → Gives s d p → Gives t d q → (i ≡ j) × (p ≡ q)
    works_differ d i j p q s t (inl x) (inl y) a b = before.works d i j p q s t x y a b
    works_differ d i j p q s t (inl x) (inr y) a b = absurd (clash d j q t y b (named_by_work d i p s x a))
    works_differ d i j p q s t (inr x) (inl y) a b = absurd (clash d i p s x a (named_by_work d j q t y b))
    works_differ d i j p q s t (inr x) (inr y) a b = fresh.differ d i j p q s t x y a b

    works_fit : (d i p : ℕ) (s : StoredIntention) → (Intends c.pool i s ⊎ HasAt c.pool head.work i s) → Gives s d p → d < leaves
    works_fit d i p s (inl x) a = before.works_fit d i p s x a
    works_fit d i p s (inr x) a = fresh.fit d i p s x a

    carried : (d i j p q : ℕ) (s : StoredIntention) → (Intends c.pool i s ⊎ HasAt c.pool head.work i s) → Gives s d p → Addresses (layouts_in c) j q d → (is_layout_of s.file (layout_at (layouts_in c) j) ≡ true) × (q ≡ p)
    carried d i j p q s (inl x) a y = before.carried d i j p q s x a y
    carried d i j p q s (inr x) a y = absurd (clash d i p s x a (named_by_head d j q y))

    addresses_after : AddressesDiffer leaves (with_record c slot (Ready head size reads))
    addresses_after = record {
      heads = before.heads;
      works = λ d i j p q s t x y. works_differ d i j p q s t (split i s x) (split j t y);
      works_fit = λ d i p s x. works_fit d i p s (split i s x);
      carried = λ d i j p q s x. carried d i j p q s (split i s x);
    }

  pub ready_consistent : (g : Counts) → IsWholeWork g.leaves c head.work size → IsConsistent g c → IsConsistent g (with_record c slot (Ready head size reads))
  ready_consistent g whole before = record {
    distinct = distinct_kept c slot (Ready head size reads) there first_one (λ t h. absurd (true≢false (sym h))) before.distinct;
    complete = complete_kept c slot (Ready head size reads) there quiet whole.intentions before.complete;
    supplied = supplied_kept c slot (Ready head size reads) there quiet whole.supplied before.supplied;
    addresses = addresses_after g.leaves whole.fresh before.addresses;
  }

  -- the new work comes to name its own data pages alone
  pub ready_named : (n : ℕ) (test : ℕ → StoredIntention → Bool) (d : ℕ) → names_page n test (layouts_in c) (slice_set c.pool slot (Ready head size reads)) d ≡ true
      → (names_page n test (layouts_in c) c.pool d ≡ true) ⊎ ((i : ℕ) × (s : StoredIntention) × HasAt c.pool head.work i s × (test (suc d) s ≡ true))
  ready_named n test d named = by (heads_name n (layouts_in c) (suc d)) refl named
    where
      here : works_have (test (suc d)) c.pool ≡ true → names_page n test (layouts_in c) c.pool d ≡ true
      here t = or_right (heads_name n (layouts_in c) (suc d)) (works_have (test (suc d)) c.pool) t

      later : works_have (test (suc d)) (slice_set c.pool slot (Ready head size reads)) ≡ true → (names_page n test (layouts_in c) c.pool d ≡ true) ⊎ ((i : ℕ) × (s : StoredIntention) × HasAt c.pool head.work i s × (test (suc d) s ≡ true))
      later t = let h = held_intends (test (suc d)) (slice_set c.pool slot (Ready head size reads)) t in
          ⊎_elim (λ x. inl (here (intends_held (test (suc d)) c.pool h.0 h.1 x h.3))) (λ x. inr (h.0, h.1, x, h.3)) (split h.0 h.1 h.2)

      by : (b : Bool) → heads_name n (layouts_in c) (suc d) ≡ b → (b || works_have (test (suc d)) (slice_set c.pool slot (Ready head size reads))) ≡ true
          → (names_page n test (layouts_in c) c.pool d ≡ true) ⊎ ((i : ℕ) × (s : StoredIntention) × HasAt c.pool head.work i s × (test (suc d) s ≡ true))
      by true e t = inl (or_left (heads_name n (layouts_in c) (suc d)) (works_have (test (suc d)) c.pool) e)
      by false e t = later t

-- The put of a layout leaves what a recovery asks.
use Rattle.jn_page_state.proofs.Common.{◌≡◌, ◌⊎◌, inl, inr, ⊎_elim, ℕ, suc, ◌<◌, ◌-◌, ◌/◌, Bool, true, false, ◌&&◌, if◌then◌else◌, List, length, refl, sym, ◌∙◌, ap, subst, true≢false, arith, nat_tests, cases_lt, slice_set, nat_eq, nat_le, FileNo, ServerNo, file_tells, head_blocks, most_maps, most_blocks, most_cells, StoredIntention, What, Fresh, Gone, Cut, Put, Record, record_in, is_prepared, is_flag, is_in_range, keeps_map, names_address, Layout, Unused, Of, map_cell, at_cell, layout_at, is_layout_of, has_page, Counts, IsLoadable, Contents, head_in, entry_of, layouts_in, state_in, stored_in, heads_name, works_have, names_for_block, address_after, map_after, is_head_after, IsHeadPut, IsPartPut, LaysOut, PassesOnce, IsDistinct, Intends, Addresses, Gives, AddressesDiffer, IsCompleteBy, IsSuppliedIn, IsConsistent, names_page, is_named, names_block, or_left, or_right, same_Some, inside-was}
use Rattle.jn_page_state.proofs.Images.{heads_once, layouts_once}
use Rattle.jn_page_state.proofs.Slots.{once_set}
use Rattle.jn_page_state.proofs.Naming.{either, intends_held, gives_address, cell_named, named_cell, cell_within}
use Rattle.jn_page_state.proofs.MapsKept.{one_file, serves_one, at_later, used_there, head_maps, part_maps}
use Rattle.jn_page_state.proofs.Supply.{heads_supplied, more_supplied}

-- where an address stands after an intention: it was there, or is the intention's own
came_from : (what : What) (n p a d old : ℕ) → address_after what n a p old ≡ suc d → (old ≡ suc d) ⊎ ((a ≡ suc d) × (p ≡ n))
came_from Fresh n p a d old e = absurd (omega (arith, e))
came_from Gone n p a d old e = absurd (omega (arith, e))
came_from Cut n p a d old e = by (nat_le n p) e
  where
    by : (b : Bool) → (if b then 0 else old) ≡ suc d → (old ≡ suc d) ⊎ ((a ≡ suc d) × (p ≡ n))
    by true e = absurd (omega (arith, e))
    by false e = inl e
came_from Put n p a d old e = by (nat_eq n p) refl e
  where
    by : (b : Bool) → nat_eq n p ≡ b → (if b then a else old) ≡ suc d → (old ≡ suc d) ⊎ ((a ≡ suc d) × (p ≡ n))
    by true h e = inr (e, grind (arith, nat_tests, h))
    by false h e = inl e

-- and so it is with the map pages
map_from : (what : What) (n j m d old : ℕ) → map_after what n m j old ≡ suc d → (old ≡ suc d) ⊎ ((m ≡ suc d) × (is_in_range j n ≡ true))
map_from Fresh n j m d old e = absurd (omega (arith, e))
map_from Gone n j m d old e = absurd (omega (arith, e))
map_from Cut n j m d old e = by (keeps_map n j) e
  where
    by : (b : Bool) → (if b then old else 0) ≡ suc d → (old ≡ suc d) ⊎ ((m ≡ suc d) × (is_in_range j n ≡ true))
    by true e = inl e
    by false e = absurd (omega (arith, e))
map_from Put n j m d old e = by (is_in_range j n) refl (nat_eq old 0) e
  where
    by : (b : Bool) → is_in_range j n ≡ b → (z : Bool) → (if b && z then m else old) ≡ suc d → (old ≡ suc d) ⊎ ((m ≡ suc d) × (is_in_range j n ≡ true))
    by true h true e = inr (e, h)
    by true h false e = inl e
    by false h z e = inl e

after_its : (what : What) (f : FileNo) (h : Layout) (q d : ℕ) → is_head_after what f h ≡ true → at_cell h q ≡ suc d → is_layout_of f h ≡ true
after_its what f Unused q d s e = absurd (omega (arith, e))
after_its Fresh f (Of g cells) q d s e = s
after_its Gone f (Of g cells) q d s e = absurd (true≢false (sym s))
after_its Cut f (Of g cells) q d s e = s
after_its Put f (Of g cells) q d s e = s

after_one : (what : What) (f g : FileNo) (h : Layout) → is_head_after what f h ≡ true → is_layout_of g h ≡ true → f ≡ g
after_one what f g Unused s t = absurd (true≢false (sym t))
after_one Gone f g (Of k cells) s t = absurd (true≢false (sym s))
after_one Fresh f g (Of k cells) s t = one_file f g (Of k cells) s t
after_one Cut f g (Of k cells) s t = one_file f g (Of k cells) s t
after_one Put f g (Of k cells) s t = one_file f g (Of k cells) s t

-- a cell is that of a block or that of a map page
cell_kind : (q : ℕ) → q < most_cells → (q < most_blocks) ⊎ ((j : ℕ) × (j < most_maps) × (q ≡ map_cell j))
cell_kind q below = elim (cases_lt q most_blocks) [
  | inl lt ↦ inl lt
  | inr le ↦ inr (q - most_blocks, omega (arith, le, below), omega (arith, le))
]

not_block : (q j : ℕ) → q ≡ map_cell j → q < most_blocks → ⊥
not_block q j e lt = omega (arith, e, lt)

module _ (c later : Contents) (place : ℕ) (new : Layout) (there : place < length (layouts_in c)) (lays : LaysOut c place new later) where
  -- the pool is as it was, and so are works and flags
  distinct_later : ((f : FileNo) → PassesOnce (λ j. is_layout_of f (layout_at (layouts_in later) j))) → IsDistinct c → IsDistinct later
  distinct_later files before = record {
    works = λ w. subst (λ (pool : List Record). PassesOnce (λ j. is_prepared w (record_in pool j))) (sym lays.pool) (before.works w);
    flags = λ t. subst (λ (pool : List Record). PassesOnce (λ j. is_flag t (record_in pool j))) (sym lays.pool) (before.flags t);
    files = heads_once (entry_of later.blocks) later.heads files;
  }

  pool_intends : (k : ℕ) (s : StoredIntention) → Intends later.pool k s → Intends c.pool k s
  pool_intends k s h = subst (λ (pool : List Record). Intends pool k s) lays.pool h

  complete_later : ((k : ℕ) → IsCompleteBy c.pool (record_in c.pool k)) → (k : ℕ) → IsCompleteBy later.pool (record_in later.pool k)
  complete_later before k = subst (λ (pool : List Record). IsCompleteBy pool (record_in pool k)) (sym lays.pool) (before k)

  supplied_later : ((k : ℕ) → IsSuppliedIn later.heads c.pool (record_in c.pool k)) → (k : ℕ) → IsSuppliedIn later.heads later.pool (record_in later.pool k)
  supplied_later before k = subst (λ (pool : List Record). IsSuppliedIn later.heads pool (record_in pool k)) (sym lays.pool) (before k)

  works_later : (test : StoredIntention → Bool) → works_have test later.pool ≡ true → works_have test c.pool ≡ true
  works_later test h = ap (works_have test) (sym lays.pool) ∙ h

-- ---- an intention is carried out

module _ (c later : Contents) (i : StoredIntention) (place : ℕ) (new : Layout) (put : IsHeadPut (layouts_in c) i place new) (lays : LaysOut c place new later) where
  abbrev old : Layout
  old = layout_at (layouts_in c) place

  files_once : ((f : FileNo) → PassesOnce (λ j. is_layout_of f (layout_at (layouts_in c) j))) → (f : FileNo) → PassesOnce (λ j. is_layout_of f (layout_at (layouts_in later) j))
  files_once before f = subst (λ (ls : List Layout). PassesOnce (λ j. is_layout_of f (layout_at ls j))) (sym lays.layouts) (⊎_elim
      (λ same. λ j k a b. at_its f same.1 j a ∙ sym (at_its f same.1 k b))
      (λ other. once_set Unused (layouts_in c) place new put.there (is_layout_of f) refl (before f) (λ t. absurd (other.1 (after_one i.what i.file f new put.file_after t))))
      (file_tells i.file f))
    where
      at_its : (f : FileNo) → i.file ≡ f → (j : ℕ) → is_layout_of f (layout_at (slice_set (layouts_in c) place new) j) ≡ true → j ≡ place
      at_its f e j t = ⊎_elim
          (λ h. h.0)
          (λ h. put.only j (subst (λ g. is_layout_of g (layout_at (layouts_in c) j) ≡ true) (sym e) (ap (is_layout_of f) (sym h.1) ∙ ap (λ ls. is_layout_of f (layout_at ls j)) lays.layouts ∙ t)))
          (at_later c later place new put.there lays j)

  -- an address of a cell at this place stood there, or is the intention's
  at_new : (q d : ℕ) → q < most_cells → at_cell new q ≡ suc d → (at_cell (layout_at (layouts_in c) place) q ≡ suc d) ⊎ Gives i d q
  at_new q d below e = by (cell_kind q below)
    where
      its_range : (n j : ℕ) → is_in_range j n ≡ true → j ≡ n / head_blocks - 1
      its_range n j h = grind (arith, nat_tests, h)

      by_block : q < most_blocks → ((at_cell (layout_at (layouts_in c) place) q ≡ suc d) ⊎ ((i.address ≡ suc d) × (q ≡ i.block.0))) → (at_cell (layout_at (layouts_in c) place) q ≡ suc d) ⊎ Gives i d q
      by_block lt (inl h) = inl h
      by_block lt (inr h) = inr (inl h)

      by_map : (j : ℕ) → q ≡ map_cell j → ((at_cell (layout_at (layouts_in c) place) (map_cell j) ≡ suc d) ⊎ ((i.map ≡ suc d) × (is_in_range j i.block.0 ≡ true))) → (at_cell (layout_at (layouts_in c) place) q ≡ suc d) ⊎ Gives i d q
      by_map j is (inl h) = inl (ap (at_cell (layout_at (layouts_in c) place)) is ∙ h)
      by_map j is (inr h) = inr (inr (h.0, is ∙ ap map_cell (its_range i.block.0 j h.1)))

      by : ((q < most_blocks) ⊎ ((j : ℕ) × (j < most_maps) × (q ≡ map_cell j))) → (at_cell (layout_at (layouts_in c) place) q ≡ suc d) ⊎ Gives i d q
      by (inl lt) = by_block lt (came_from i.what i.block.0 q i.address d (at_cell (layout_at (layouts_in c) place) q) (sym (put.addresses q lt) ∙ e))
      by (inr h) = by_map h.0 h.2 (map_from i.what i.block.0 h.0 i.map d (at_cell (layout_at (layouts_in c) place) (map_cell h.0)) (sym (put.maps h.0 h.1) ∙ ap (at_cell new) (sym h.2) ∙ e))

  split : (j q d : ℕ) → Addresses (layouts_in later) j q d → Addresses (layouts_in c) j q d ⊎ ((j ≡ place) × Gives i d q)
  split j q d h = ⊎_elim
      (λ e. ⊎_elim
      (λ was. inl (ap (λ k. at_cell (layout_at (layouts_in c) k) q) e.0 ∙ was))
      (λ own. inr (e.0, own))
      (at_new q d (cell_within (entry_of later.blocks) later.heads j q d h) (ap (λ l. at_cell l q) (sym e.1) ∙ h)))
      (λ e. inl (ap (λ l. at_cell l q) (sym e.1) ∙ h))
      (at_later c later place new put.there lays j)

  -- a layout that has an address then is of the file that it was of
  file_later : (f : FileNo) (j q d : ℕ) → is_layout_of f (layout_at (layouts_in c) j) ≡ true → Addresses (layouts_in later) j q d → is_layout_of f (layout_at (layouts_in later) j) ≡ true
  file_later f j q d file h = ⊎_elim
      (λ e.
      let same : i.file ≡ f = serves_one i.what i.file f (layout_at (layouts_in c) place) put.serves (ap (λ k. is_layout_of f (layout_at (layouts_in c) k)) (sym e.0) ∙ file) in
      ap (is_layout_of f) e.1 ∙ ap (λ g. is_layout_of g new) (sym same) ∙ after_its i.what i.file new q d put.file_after (ap (λ l. at_cell l q) (sym e.1) ∙ h))
      (λ e. ap (is_layout_of f) e.1 ∙ file)
      (at_later c later place new put.there lays j)

  own_later : (j q d : ℕ) → j ≡ place → Addresses (layouts_in later) j q d → is_layout_of i.file (layout_at (layouts_in later) j) ≡ true
  own_later j q d is h = ⊎_elim
      (λ e. ap (is_layout_of i.file) e.1 ∙ after_its i.what i.file new q d put.file_after (ap (λ l. at_cell l q) (sym e.1) ∙ h))
      (λ e. absurd (e.0 is))
      (at_later c later place new put.there lays j)

  module _ (slot : ℕ) (stands : Intends c.pool slot i) where
    -- at one slot stands one intention
    same_one : (k : ℕ) (s : StoredIntention) → Intends c.pool k s → k ≡ slot → s ≡ i
    same_one k s h e = same_Some s i (sym (ap stored_in h.stands) ∙ ap (λ q. stored_in (record_in c.pool q)) e ∙ ap stored_in stands.stands)

    module _ (leaves : ℕ) (before : AddressesDiffer leaves c) where
      heads_differ : (d j k p q : ℕ) → (Addresses (layouts_in c) j p d ⊎ ((j ≡ place) × Gives i d p)) → (Addresses (layouts_in c) k q d ⊎ ((k ≡ place) × Gives i d q)) → (j ≡ k) × (p ≡ q)
      heads_differ d j k p q (inl x) (inl y) = before.heads d j p k q x y
      heads_differ d j k p q (inl x) (inr y) = let h = before.carried d slot j q p i stands y.1 x in (put.only j h.0 ∙ sym y.0, h.1)
      heads_differ d j k p q (inr x) (inl y) = let h = before.carried d slot k p q i stands x.1 y in (x.0 ∙ sym (put.only k h.0), sym h.1)
      heads_differ d j k p q (inr x) (inr y) = (x.0 ∙ sym y.0, (before.works d slot slot p q i i stands stands x.1 y.1).1)

      carried : (d k j p q : ℕ) (s : StoredIntention) → Intends c.pool k s → Gives s d p → Addresses (layouts_in later) j q d → (Addresses (layouts_in c) j q d ⊎ ((j ≡ place) × Gives i d q))
          → (is_layout_of s.file (layout_at (layouts_in later) j) ≡ true) × (q ≡ p)
      carried d k j p q s x a h (inl y) = let b = before.carried d k j p q s x a y in (file_later s.file j q d b.0 h, b.1)
      carried d k j p q s x a h (inr y) =
          let one = before.works d k slot p q s i x stands a y.1 in
          (ap (λ z. is_layout_of z.file (layout_at (layouts_in later) j)) (same_one k s x one.0) ∙ own_later j q d y.0 h, sym one.1)

      addresses_put : AddressesDiffer leaves later
      addresses_put = record {
        heads = λ d j p k q x y. heads_differ d j k p q (split j p d x) (split k q d y);
        works = λ d j k p q s t x y. before.works d j k p q s t (pool_intends c later place new put.there lays j s x) (pool_intends c later place new put.there lays k t y);
        works_fit = λ d k p s x. before.works_fit d k p s (pool_intends c later place new put.there lays k s x);
        carried = λ d k j p q s x a h. carried d k j p q s (pool_intends c later place new put.there lays k s x) a h (split j q d h);
      }

    pub head_consistent : (server : ServerNo) (g : Counts) → ((k : ℕ) → has_page (head_in c.heads k) ≡ true) → IsLoadable server g.heads (state_in c) → IsConsistent g c → IsConsistent g later
    head_consistent server g pages loadable before = record {
      distinct = distinct_later c later place new put.there lays (files_once (layouts_once (entry_of c.blocks) c.heads before.distinct.files)) before.distinct;
      complete = complete_later c later place new put.there lays before.complete;
      supplied = supplied_later c later place new put.there lays (heads_supplied c before.distinct before.complete server loadable.orderly slot i stands c.heads later.heads (head_maps c later i place new put lays pages) before.supplied);
      addresses = addresses_put g.leaves before.addresses;
    }

    -- a layout comes to name only what the intention named
    named_before : (n : ℕ) (test : ℕ → StoredIntention → Bool) → ((q d : ℕ) → q < n → Gives i d q → test (suc d) i ≡ true)
        → (d : ℕ) → names_page n test (layouts_in later) later.pool d ≡ true → names_page n test (layouts_in c) c.pool d ≡ true
    named_before n test gives d named = ⊎_elim
        (λ t. let h = named_cell n (layouts_in later) d t in ⊎_elim
        (λ x. first (cell_named n (layouts_in c) h.0 h.1 d h.2 x))
        (λ x. second (intends_held (test (suc d)) c.pool slot i stands (gives h.1 d h.2 x.1)))
        (split h.0 h.1 d h.3))
        (λ t. second (works_later c later place new put.there lays (test (suc d)) t))
        (either (heads_name n (layouts_in later) (suc d)) (works_have (test (suc d)) later.pool) named)
      where
        first : heads_name n (layouts_in c) (suc d) ≡ true → names_page n test (layouts_in c) c.pool d ≡ true
        first t = or_left (heads_name n (layouts_in c) (suc d)) (works_have (test (suc d)) c.pool) t

        second : works_have (test (suc d)) c.pool ≡ true → names_page n test (layouts_in c) c.pool d ≡ true
        second t = or_right (heads_name n (layouts_in c) (suc d)) (works_have (test (suc d)) c.pool) t

    pub head_named : (d : ℕ) → is_named later d ≡ true → is_named c d ≡ true
    head_named = named_before most_cells names_address (λ q d below h. gives_address i d q h)

    pub head_block_named : (d : ℕ) → names_block later d ≡ true → names_block c d ≡ true
    head_block_named = named_before most_blocks names_for_block (λ q d below h. for_block q d below h)
      where
        for_block : (q d : ℕ) → q < most_blocks → Gives i d q → names_for_block (suc d) i ≡ true
        for_block q d below (inl h) = let e = h.0 in grind (arith, nat_tests, e)
        for_block q d below (inr h) = absurd (not_block q (i.block.0 / head_blocks - 1) h.1 below)

-- ---- a cut is done in part

module _ (c later : Contents) (i : StoredIntention) (m place : ℕ) (new : Layout) (put : IsPartPut (layouts_in c) i m place new) (lays : LaysOut c place new later) where
  below_last : place < length (layouts_in c)
  below_last = used_there (layouts_in c) i.file place put.part.serves

  part_split : (j q d : ℕ) → Addresses (layouts_in later) j q d → Addresses (layouts_in c) j q d
  part_split j q d h = ⊎_elim
      (λ e. ap (λ k. at_cell (layout_at (layouts_in c) k) q) e.0 ∙ by (ap (λ l. at_cell l q) (sym e.1) ∙ h) (cell_kind q (cell_within (entry_of later.blocks) later.heads j q d h)))
      (λ e. ap (λ l. at_cell l q) (sym e.1) ∙ h)
      (at_later c later place new below_last lays j)
    where
      by : at_cell new q ≡ suc d → ((q < most_blocks) ⊎ ((k : ℕ) × (k < most_maps) × (q ≡ map_cell k))) → at_cell (layout_at (layouts_in c) place) q ≡ suc d
      by e (inl lt) = inside-was (at_cell (layout_at (layouts_in c) place)) i.block.0 m d q (sym (put.part.cells q lt) ∙ e)
      by e (inr k) = ap (at_cell (layout_at (layouts_in c) place)) k.2 ∙ sym (put.maps k.0 k.1) ∙ ap (at_cell new) (sym k.2) ∙ e

  part_file : (f : FileNo) (j : ℕ) → is_layout_of f (layout_at (layouts_in c) j) ≡ true → is_layout_of f (layout_at (layouts_in later) j) ≡ true
  part_file f j file = ⊎_elim
      (λ e. ap (is_layout_of f) e.1 ∙ ap (λ g. is_layout_of g new) (sym (one_file i.file f (layout_at (layouts_in c) place) put.part.serves (ap (λ k. is_layout_of f (layout_at (layouts_in c) k)) (sym e.0) ∙ file))) ∙ put.part.file_after)
      (λ e. ap (is_layout_of f) e.1 ∙ file)
      (at_later c later place new below_last lays j)

  part_once : ((f : FileNo) → PassesOnce (λ j. is_layout_of f (layout_at (layouts_in c) j))) → (f : FileNo) → PassesOnce (λ j. is_layout_of f (layout_at (layouts_in later) j))
  part_once before f = subst (λ (ls : List Layout). PassesOnce (λ j. is_layout_of f (layout_at ls j))) (sym lays.layouts)
      (once_set Unused (layouts_in c) place new below_last (is_layout_of f) refl (before f)
      (λ t. inl (ap (λ g. is_layout_of g (layout_at (layouts_in c) place)) (sym (one_file i.file f new put.part.file_after t)) ∙ put.part.serves)))

  part_addresses : (leaves : ℕ) → AddressesDiffer leaves c → AddressesDiffer leaves later
  part_addresses leaves before = record {
    heads = λ d j p k q x y. before.heads d j p k q (part_split j p d x) (part_split k q d y);
    works = λ d j k p q s t x y. before.works d j k p q s t (pool_intends c later place new below_last lays j s x) (pool_intends c later place new below_last lays k t y);
    works_fit = λ d k p s x. before.works_fit d k p s (pool_intends c later place new below_last lays k s x);
    carried = λ d k j p q s x a h. let b = before.carried d k j p q s (pool_intends c later place new below_last lays k s x) a (part_split j q d h) in (part_file s.file j b.0, b.1);
  }

  pub part_consistent : (g : Counts) → ((k : ℕ) → has_page (head_in c.heads k) ≡ true) → IsConsistent g c → IsConsistent g later
  part_consistent g pages before = record {
    distinct = distinct_later c later place new below_last lays (part_once (layouts_once (entry_of c.blocks) c.heads before.distinct.files)) before.distinct;
    complete = complete_later c later place new below_last lays before.complete;
    supplied = supplied_later c later place new below_last lays (λ k. more_supplied c.pool c.heads later.heads (part_maps c later i m place new put lays pages) (record_in c.pool k) (before.supplied k));
    addresses = part_addresses g.leaves before.addresses;
  }

  -- no page comes to be named
  fewer_named : (n : ℕ) (test : ℕ → StoredIntention → Bool) (d : ℕ) → names_page n test (layouts_in later) later.pool d ≡ true → names_page n test (layouts_in c) c.pool d ≡ true
  fewer_named n test d named = ⊎_elim
      (λ t. let h = named_cell n (layouts_in later) d t in or_left (heads_name n (layouts_in c) (suc d)) (works_have (test (suc d)) c.pool) (cell_named n (layouts_in c) h.0 h.1 d h.2 (part_split h.0 h.1 d h.3)))
      (λ t. or_right (heads_name n (layouts_in c) (suc d)) (works_have (test (suc d)) c.pool) (works_later c later place new below_last lays (test (suc d)) t))
      (either (heads_name n (layouts_in later) (suc d)) (works_have (test (suc d)) later.pool) named)

  pub part_named : (d : ℕ) → is_named later d ≡ true → is_named c d ≡ true
  part_named = fewer_named most_cells names_address

  pub part_block_named : (d : ℕ) → names_block later d ≡ true → names_block c d ≡ true
  part_block_named = fewer_named most_blocks names_for_block

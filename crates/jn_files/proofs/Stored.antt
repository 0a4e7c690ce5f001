-- Where the pages of heads and map pages stand over each put.
use Rattle.jn_files.proofs.Common.{◌≡◌, ◌≢◌, inl, inr, ⊎_elim, ◌<◌, ◌≤◌, ◌%◌, ℕ, suc, Bool, true, false, List, [], length, drop, refl, sym, ap, subst, ◌∙◌, arith, true≢false, slice_index, slice_set, cases_eq, get_or-set_same, get_or-set_other, length-set, head_blocks, most_maps, most_blocks, FileNo, BlockNo, Change, cut_from, Head, Free, Used, head_page, map_page, Layout, Unused, Of, at_cell, map_cell, kept_entry, layout_by, layout_at, is_layout_of, head_map, with_row, is_in_range, among, Counts, head_place, data_place, map-cell-is, StoreView, IsOnly, StorePut, TableView, IsTable, IsUnnamed, head_in, is_of, row_at, layouts_of, layouts_in, layout_in, with_leaf, with_map, one_entry, cut_addresses, range_of, IsLeaf, HoldsHeads, HoldsTable, HasPagesOfTable, FillsMap, IsChanged, PutsHead, PutsMap, MayBecome, block_written, IsChange, MayPutHead, MaySet, MaySetMap}
use Rattle.jn_files.proofs.Changing.{with_cell}
use Rattle.jn_files.proofs.Between.{Nothing, One, Two, layout_off}
use Rattle.jn_files.proofs.Filing.{layout_own, change_written, change_brought, change_part}
use Rattle.jn_files.proofs.Laying.{kept_was}
use Rattle.jn_files.proofs.Lookup.{layout_is}
use Rattle.jn_files.proofs.Places.{range_below}
use Rattle.jn_files.proofs.Putting.{PagesStand, puts_layout}
use Rattle.jn_files.proofs.Said.{map_below, same_leaf}
use Rattle.jn_files.proofs.Standing.{head_at_slot, head_off_slot}
use Rattle.jn_files.proofs.Setting.{HeadGoes}
use Rattle.jn_files.proofs.Turning.{Turns, there, turns_sound, turns_one, turns_here, turns_head, turns_leaf, turns_entry, turns_cut_row, turns_map, at_map, held_below, leaf_put_cells, entry_cells, cut_row_cells, brought_cells, none_names, same_layouts, no_map, a_there}

-- ---- a head

module _ (g : Counts) (rows : List (List ℕ)) (heads : List Head) (slot : ℕ) (h : Head) (v : StoreView) (many : length heads ≡ g.heads) (below : slot < length heads) (holds : HoldsHeads g rows heads v)
    (maps_of : (j d : ℕ) → j < most_maps → head_map h j ≡ suc d → IsOnly v (data_place g d) (map_page (row_at rows d)))
    (leaves_of : (p a : ℕ) → p < most_blocks → at_cell (layout_by (kept_entry rows) h) p ≡ suc a → IsLeaf v (data_place g a)) where
  here : (k : ℕ) → k ≡ slot → head_in (slice_set heads slot h) k ≡ h
  here k e = head_at_slot heads slot h k below e

  off : (k : ℕ) → k ≢ slot → head_in (slice_set heads slot h) k ≡ head_in heads k
  off k ne = head_off_slot heads slot h k ne

  layout_after : (k : ℕ) → layout_at (layouts_of rows (slice_set heads slot h)) k ≡ layout_by (kept_entry rows) (head_in (slice_set heads slot h) k)
  layout_after k = layout_is (kept_entry rows) (slice_set heads slot h) k

  pub head_stands : PagesStand g rows (slice_set heads slot h) v (head_place g slot) (head_page h)
  head_stands = record {
    of_heads = λ k lt. elim (cases_eq k slot) [
      | inl e ↦ inl (ap (head_place g) e, ap head_page (here k e))
      | inr ne ↦ inr (λ e. ne (omega (arith, e)), subst (λ (x : Head). IsOnly v (head_place g k) (head_page x)) (sym (off k ne)) (holds.stored k (let n = length-set heads slot h in omega (arith, n, lt))))
    ];
    of_maps = λ k j d low e. inr (
      λ same. omega (arith, same, many, below),
      elim (cases_eq k slot) [
        | inl at ↦ maps_of j d low (ap (λ (x : Head). head_map x j) (sym (here k at)) ∙ e)
        | inr ne ↦ holds.maps k j d low (ap (λ (x : Head). head_map x j) (sym (off k ne)) ∙ e)
      ],
    );
    of_leaves = λ k p a low e. (
      λ same. omega (arith, same, many, below),
      elim (cases_eq k slot) [
        | inl at ↦ leaves_of p a low (ap (λ (l : Layout). at_cell l p) (ap (layout_by (kept_entry rows)) (sym (here k at)) ∙ sym (layout_after k)) ∙ e)
        | inr ne ↦ holds.leaves k p a low (ap (λ (l : Layout). at_cell l p) (layout_is (kept_entry rows) heads k ∙ ap (layout_by (kept_entry rows)) (sym (off k ne)) ∙ sym (layout_after k)) ∙ e)
      ],
    );
  }

-- ---- a map page

module _ (g : Counts) (rows : List (List ℕ)) (heads : List Head) (d : ℕ) (row : List ℕ) (v : StoreView) (many : length heads ≡ g.heads) (below : d < length rows) (holds : HoldsHeads g rows heads v)
    (leaves_of : (k p a : ℕ) → p < most_blocks → at_cell (layout_at (layouts_of (slice_set rows d row) heads) k) p ≡ suc a → (a ≢ d) × IsLeaf v (data_place g a)) where
  pub row_stands : PagesStand g (slice_set rows d row) heads v (data_place g d) (map_page row)
  row_stands = record {
    of_heads = λ k lt. inr (λ same. omega (arith, same, many, lt), holds.stored k lt);
    of_maps = λ k j e low at. elim (cases_eq e d) [
      | inl same ↦ inl (ap (data_place g) same, ap map_page (ap (row_at (slice_set rows d row)) same ∙ get_or-set_same rows d row [] below))
      | inr ne ↦ inr (λ same. ne (omega (arith, same)), subst (λ (l : List ℕ). IsOnly v (data_place g e) (map_page l)) (sym (get_or-set_other rows d e row [] ne)) (holds.maps k j e low at))
    ];
    of_leaves = λ k p a low e. let leaf = leaves_of k p a low e in (λ same. leaf.0 (omega (arith, same)), leaf.1);
  }

-- ---- the put of a head that names no more

head_fits : (t : TableView) (v : StoreView) (slot : ℕ) → HasPagesOfTable t v → slot < t.counts.heads → head_place t.counts slot < v.count
head_fits t v slot fits lt = omega (arith, fits, lt)

data_fits : (t : TableView) (v : StoreView) (d : ℕ) → HasPagesOfTable t v → d < t.counts.leaves → data_place t.counts d < v.count
data_fits t v d fits lt = omega (arith, fits, lt)

module _ (t : TableView) (v : StoreView) (slot : ℕ) (h : Head) (n : ℕ) (is : IsTable t) (may : MayPutHead t slot h n) (fits : HasPagesOfTable t v) where
  was : (q a : ℕ) → at_cell (layout_by (kept_entry t.maps) h) q ≡ suc a → at_cell (layout_in t slot) q ≡ suc a
  was q a e = kept_was n (at_cell (layout_in t slot)) q a (sym (may.cells q) ∙ e)

  turning : Turns t slot (slice_set t.heads slot h) t.maps (layout_by (kept_entry t.maps) h) Nothing (HeadGoes t.maps n (head_in t.heads slot))
  turning = turns_head t is slot h n may

  stand : HoldsTable t v → PagesStand t.counts t.maps (slice_set t.heads slot h) v (head_place t.counts slot) (head_page h)
  stand holds = head_stands t.counts t.maps t.heads slot h v is.slots turning.below holds
      (λ j d low e. holds.maps slot j d low (sym (map-cell-is (kept_entry t.maps) (head_in t.heads slot) j low) ∙ ap (λ (l : Layout). at_cell l (map_cell j)) (sym (layout_is (kept_entry t.maps) t.heads slot))
      ∙ was (map_cell j) d (map-cell-is (kept_entry t.maps) h j low ∙ e)))
      (λ p a low e. holds.leaves slot p a low (was p a e))

  pub puts_head : (c : (ℕ → List ℕ) → Change) (ok : Bool) (u : TableView) (w : StoreView) (at : ℕ) (page : List ℕ) → at ≡ head_place t.counts slot → page ≡ head_page h → StorePut v at page ok w
      → IsChange t (slice_set t.heads slot h) t.maps c → (ok ≡ true → IsChanged t (slice_set t.heads slot h) t.maps u) → (ok ≡ false → u ≡ t) → PutsHead t v slot h t.maps c ok u w
  puts_head c ok u w at page at_is page_is put changes done stopped = puts_layout t v slot (slice_set t.heads slot h) t.maps (head_place t.counts slot) (head_page h) c ok u w is fits (head_fits t v slot fits may.below) turning.slots
      (turns_sound t slot (slice_set t.heads slot h) t.maps (layout_by (kept_entry t.maps) h) Nothing (HeadGoes t.maps n (head_in t.heads slot)) turning is)
      (turns_one t slot (slice_set t.heads slot h) t.maps (layout_by (kept_entry t.maps) h) Nothing (HeadGoes t.maps n (head_in t.heads slot)) turning is)
      stand changes (subst (λ (k : ℕ). StorePut v k (head_page h) ok w) at_is (subst (λ (x : List ℕ). StorePut v at x ok w) page_is put)) done stopped

-- ---- a head with a data page for one of its blocks

leaf_own : (m : ℕ → ℕ → ℕ) (p a : ℕ) (f : FileNo) (h : Head) → is_of f h ≡ true → is_layout_of f (layout_by m (with_leaf p a h)) ≡ true
leaf_own m p a f Free e = absurd (true≢false (sym e))
leaf_own m p a f (Used g xs maps) e = e

module _ (t : TableView) (v : StoreView) (slot : ℕ) (p : BlockNo) (a : ℕ) (is : IsTable t) (block : p.0 < head_blocks) (may : MaySet t slot p.0 a) (fits : HasPagesOfTable t v) (f : FileNo) (own : is_of f (head_in t.heads slot) ≡ true) (become : MayBecome t v f p.0 a) where
  abbrev head_put : Head
  head_put = with_leaf p.0 a (head_in t.heads slot)

  abbrev leaf_new : Layout
  leaf_new = layout_by (kept_entry t.maps) head_put

  abbrev Stood : ℕ → Type 0
  Stood b = at_cell (layout_in t slot) p.0 ≡ suc b

  leaf_turning : Turns t slot (slice_set t.heads slot head_put) t.maps leaf_new (One p.0 a) Stood
  leaf_turning = turns_leaf t is slot p.0 a block may

  leaf_stand : HoldsTable t v → PagesStand t.counts t.maps (slice_set t.heads slot head_put) v (head_place t.counts slot) (head_page head_put)
  leaf_stand holds = head_stands t.counts t.maps t.heads slot head_put v is.slots leaf_turning.below holds
      (λ j d low e. ⊎_elim (λ (c : One p.0 a (map_cell j) d). absurd (let same = c.0 in omega (arith, same, block)))
      (λ (old : at_cell (layout_in t slot) (map_cell j) ≡ suc d). holds.maps slot j d low (sym (map-cell-is (kept_entry t.maps) (head_in t.heads slot) j low) ∙ ap (λ (l : Layout). at_cell l (map_cell j)) (sym (layout_is (kept_entry t.maps) t.heads slot)) ∙ old))
      (leaf_turning.moves.origin (map_cell j) d (map-cell-is (kept_entry t.maps) head_put j low ∙ e)))
      (λ q b low e. ⊎_elim (λ (c : One p.0 a q b). subst (λ (k : ℕ). IsLeaf v (data_place t.counts k)) (sym c.1) become.leaf) (λ old. holds.leaves slot q b low old) (leaf_turning.moves.origin q b e))

  leaf_cells_are : (q : ℕ) → at_cell leaf_new q ≡ with_cell p.0 (suc a) (at_cell (layout_in t slot)) q
  leaf_cells_are q = leaf_put_cells t is slot p.0 a block may q

  leaf_changes : IsChange t (slice_set t.heads slot head_put) t.maps (block_written f p a)
  leaf_changes = change_written t slot (slice_set t.heads slot head_put) t.maps leaf_new (One p.0 a) Stood leaf_turning is f own (leaf_own (kept_entry t.maps) p.0 a f (head_in t.heads slot) own) p a (omega arith) leaf_cells_are

  pub puts_leaf : (ok : Bool) (u : TableView) (w : StoreView) (h : Head) → h ≡ with_leaf p.0 a (head_in t.heads slot) → (at : ℕ) (page : List ℕ) → at ≡ head_place t.counts slot → page ≡ head_page h → StorePut v at page ok w
      → (ok ≡ true → IsChanged t (slice_set t.heads slot h) t.maps u) → (ok ≡ false → u ≡ t) → PutsHead t v slot (with_leaf p.0 a (head_in t.heads slot)) t.maps (block_written f p a) ok u w
  puts_leaf ok u w h h_is at page at_is page_is put done stopped = puts_layout t v slot (slice_set t.heads slot head_put) t.maps (head_place t.counts slot) (head_page head_put) (block_written f p a) ok u w is fits (head_fits t v slot fits may.below) leaf_turning.slots
      (turns_sound t slot (slice_set t.heads slot head_put) t.maps leaf_new (One p.0 a) Stood leaf_turning is)
      (turns_one t slot (slice_set t.heads slot head_put) t.maps leaf_new (One p.0 a) Stood leaf_turning is)
      leaf_stand leaf_changes (subst (λ (k : ℕ). StorePut v k (head_page head_put) ok w) at_is (subst (λ (x : List ℕ). StorePut v at x ok w) (page_is ∙ ap head_page h_is) put))
      (λ e. subst (λ (x : Head). IsChanged t (slice_set t.heads slot x) t.maps u) h_is (done e)) stopped

-- ---- a map page with a data page for a block

row_own : (m : ℕ → ℕ → ℕ) (j : ℕ) (entries : ℕ → ℕ) (f : FileNo) (l : Layout) → is_layout_of f l ≡ true → is_layout_of f (with_row j entries l) ≡ true
row_own m j entries f Unused e = absurd (true≢false (sym e))
row_own m j entries f (Of g cells) e = e

module _ (t : TableView) (v : StoreView) (slot d : ℕ) (p : BlockNo) (a : ℕ) (is : IsTable t) (high : head_blocks ≤ p.0) (low : p.0 < most_blocks) (named : head_map (head_in t.heads slot) (range_of p.0) ≡ suc d) (may : MaySet t slot p.0 a)
    (fits : HasPagesOfTable t v) (f : FileNo) (own : is_of f (head_in t.heads slot) ≡ true) (become : MayBecome t v f p.0 a) where
  abbrev row_put : List ℕ
  row_put = slice_set (row_at t.maps d) (p.0 % head_blocks) (suc a)

  abbrev entry_new : Layout
  entry_new = with_row (range_of p.0) (λ k. slice_index row_put k) (layout_in t slot)

  abbrev Before : ℕ → Type 0
  Before b = at_cell (layout_in t slot) p.0 ≡ suc b

  entry_turning : Turns t slot t.heads (slice_set t.maps d row_put) entry_new (One p.0 a) Before
  entry_turning = turns_entry t is slot p.0 a d high low named may

  d_below : d < t.counts.leaves
  d_below = map_below t.counts t.maps t.heads is.heads slot (range_of p.0) d named

  -- the map page is none of the blocks' data pages
  entry_leaf : HoldsTable t v → (k q b : ℕ) → q < most_blocks → at_cell (layout_at (layouts_of (slice_set t.maps d row_put) t.heads) k) q ≡ suc b → (b ≢ d) × IsLeaf v (data_place t.counts b)
  entry_leaf holds k q b under e = elim (cases_eq k slot) [
    | inl same ↦
        ⊎_elim (λ (c : One p.0 a q b). (
          λ x. let at = may.elsewhere slot (map_cell (range_of p.0)) (at_map t slot (range_of p.0) d (range_below p.0 high low) named ∙ ap suc (sym x ∙ c.1)) in let cell = at.1 in omega (arith, cell, low),
          subst (λ (i : ℕ). IsLeaf v (data_place t.counts i)) (sym c.1) become.leaf,
        ))
        (λ old. old_leaf slot q b under old)
        (entry_turning.moves.origin q b (ap (λ (l : Layout). at_cell l q) (sym (turns_here t slot t.heads (slice_set t.maps d row_put) entry_new (One p.0 a) Before entry_turning is) ∙ ap (λ (i : ℕ). layout_at (layouts_of (slice_set t.maps d row_put) t.heads) i) (sym same)) ∙ e))
    | inr ne ↦ old_leaf k q b under (ap (λ (l : Layout). at_cell l q) (sym (ap (λ (l : List Layout). layout_at l k) entry_turning.layouts ∙ layout_off (layouts_in t) slot entry_new (there t slot t.heads (slice_set t.maps d row_put) entry_new (One p.0 a) Before entry_turning is) k ne)) ∙ e)
  ]
    where
      old_leaf : (k q b : ℕ) → q < most_blocks → at_cell (layout_in t k) q ≡ suc b → (b ≢ d) × IsLeaf v (data_place t.counts b)
      old_leaf k q b under at = (
        λ x. let both = is.heads.addresses b k q slot (map_cell (range_of p.0)) at (at_map t slot (range_of p.0) d (range_below p.0 high low) named ∙ ap suc (sym x)) in let cell = both.1 in omega (arith, cell, under),
        holds.leaves k q b under at,
      )

  entry_stand : HoldsTable t v → PagesStand t.counts (slice_set t.maps d row_put) t.heads v (data_place t.counts d) (map_page row_put)
  entry_stand holds = row_stands t.counts t.maps t.heads d row_put v is.slots (let n = is.heads.map_rows.count in omega (arith, n, d_below)) holds (entry_leaf holds)

  entry_changes : IsChange t t.heads (slice_set t.maps d row_put) (block_written f p a)
  entry_changes = change_written t slot t.heads (slice_set t.maps d row_put) entry_new (One p.0 a) Before entry_turning is f own (row_own (kept_entry t.maps) (range_of p.0) (λ k. slice_index row_put k) f (layout_in t slot) (layout_own t f slot ∙ own)) p a low
      (entry_cells t is slot p.0 a d high low named may)

  pub puts_entry : (ok : Bool) (u : TableView) (w : StoreView) (row : List ℕ) → row ≡ slice_set (row_at t.maps d) (p.0 % head_blocks) (suc a) → (at : ℕ) (page : List ℕ) → at ≡ data_place t.counts d → page ≡ map_page row → StorePut v at page ok w
      → (ok ≡ true → IsChanged t t.heads (slice_set t.maps d row) u) → (ok ≡ false → u ≡ t) → PutsMap t v slot d (slice_set (row_at t.maps d) (p.0 % head_blocks) (suc a)) (block_written f p a) ok u w
  puts_entry ok u w row row_is at page at_is page_is put done stopped = puts_layout t v slot t.heads (slice_set t.maps d row_put) (data_place t.counts d) (map_page row_put) (block_written f p a) ok u w is fits (data_fits t v d fits d_below) refl
      (turns_sound t slot t.heads (slice_set t.maps d row_put) entry_new (One p.0 a) Before entry_turning is)
      (turns_one t slot t.heads (slice_set t.maps d row_put) entry_new (One p.0 a) Before entry_turning is)
      entry_stand entry_changes (subst (λ (k : ℕ). StorePut v k (map_page row_put) ok w) at_is (subst (λ (x : List ℕ). StorePut v at x ok w) (page_is ∙ ap map_page row_is) put))
      (λ e. subst (λ (x : List ℕ). IsChanged t t.heads (slice_set t.maps d x) u) row_is (done e)) stopped

-- ---- a map page without its blocks from n on

module _ (t : TableView) (v : StoreView) (slot d : ℕ) (n : BlockNo) (is : IsTable t) (under : slot < t.counts.heads) (high : head_blocks ≤ n.0) (low : n.0 < most_blocks) (named : head_map (head_in t.heads slot) (range_of n.0) ≡ suc d)
    (fits : HasPagesOfTable t v) (f : FileNo) (own : is_of f (head_in t.heads slot) ≡ true) where
  abbrev row_cut : List ℕ
  row_cut = cut_addresses (n.0 % head_blocks) (row_at t.maps d)

  abbrev cut_new : Layout
  cut_new = with_row (range_of n.0) (λ k. slice_index row_cut k) (layout_in t slot)

  abbrev Left : ℕ → Type 0
  Left b = (k : ℕ) × (slice_index (drop (n.0 % head_blocks) (row_at t.maps d)) k ≡ suc b)

  cut_turning : Turns t slot t.heads (slice_set t.maps d row_cut) cut_new Nothing Left
  cut_turning = turns_cut_row t is slot n.0 d under high low named

  below_d : d < t.counts.leaves
  below_d = map_below t.counts t.maps t.heads is.heads slot (range_of n.0) d named

  -- what is named then was named before
  named_before : (k q b : ℕ) → at_cell (layout_at (layouts_of (slice_set t.maps d row_cut) t.heads) k) q ≡ suc b → at_cell (layout_in t k) q ≡ suc b
  named_before k q b e = elim (cases_eq k slot) [
    | inl same ↦ ap (λ (i : ℕ). at_cell (layout_in t i) q) same ∙ ⊎_elim (λ c. absurd c) (λ old. old)
        (cut_turning.moves.origin q b (ap (λ (l : Layout). at_cell l q) (sym (turns_here t slot t.heads (slice_set t.maps d row_cut) cut_new Nothing Left cut_turning is) ∙ ap (λ (i : ℕ). layout_at (layouts_of (slice_set t.maps d row_cut) t.heads) i) (sym same)) ∙ e))
    | inr ne ↦ ap (λ (l : Layout). at_cell l q) (sym (ap (λ (l : List Layout). layout_at l k) cut_turning.layouts ∙ layout_off (layouts_in t) slot cut_new (there t slot t.heads (slice_set t.maps d row_cut) cut_new Nothing Left cut_turning is) k ne)) ∙ e
  ]

  cut_leaf : HoldsTable t v → (k q b : ℕ) → q < most_blocks → at_cell (layout_at (layouts_of (slice_set t.maps d row_cut) t.heads) k) q ≡ suc b → (b ≢ d) × IsLeaf v (data_place t.counts b)
  cut_leaf holds k q b less e =
      let at = named_before k q b e in (
        λ x. let both = is.heads.addresses b k q slot (map_cell (range_of n.0)) at (at_map t slot (range_of n.0) d (range_below n.0 high low) named ∙ ap suc (sym x)) in let cell = both.1 in omega (arith, cell, less),
        holds.leaves k q b less at,
      )

  cut_stand : HoldsTable t v → PagesStand t.counts (slice_set t.maps d row_cut) t.heads v (data_place t.counts d) (map_page row_cut)
  cut_stand holds = row_stands t.counts t.maps t.heads d row_cut v is.slots (let m = is.heads.map_rows.count in omega (arith, m, below_d)) holds (cut_leaf holds)

  cut_changes : IsChange t t.heads (slice_set t.maps d row_cut) (λ leaves. among (λ (p : BlockNo). is_in_range (range_of n.0) p.0) (cut_from f n))
  cut_changes = change_part t slot t.heads (slice_set t.maps d row_cut) cut_new Nothing Left cut_turning is f own (row_own (kept_entry t.maps) (range_of n.0) (λ k. slice_index row_cut k) f (layout_in t slot) (layout_own t f slot ∙ own)) n (range_of n.0)
      (cut_row_cells t is slot n.0 d under high low named)

  pub puts_cut_row : (ok : Bool) (u : TableView) (w : StoreView) (row : List ℕ) → row ≡ cut_addresses (n.0 % head_blocks) (row_at t.maps d) → (at : ℕ) (page : List ℕ) → at ≡ data_place t.counts d → page ≡ map_page row → StorePut v at page ok w
      → (ok ≡ true → IsChanged t t.heads (slice_set t.maps d row) u) → (ok ≡ false → u ≡ t)
      → PutsMap t v slot d (cut_addresses (n.0 % head_blocks) (row_at t.maps d)) (λ leaves. among (λ (p : BlockNo). is_in_range (range_of n.0) p.0) (cut_from f n)) ok u w
  puts_cut_row ok u w row row_is at page at_is page_is put done stopped = puts_layout t v slot t.heads (slice_set t.maps d row_cut) (data_place t.counts d) (map_page row_cut) (λ leaves. among (λ (p : BlockNo). is_in_range (range_of n.0) p.0) (cut_from f n)) ok u w
      is fits (data_fits t v d fits below_d) refl
      (turns_sound t slot t.heads (slice_set t.maps d row_cut) cut_new Nothing Left cut_turning is)
      (turns_one t slot t.heads (slice_set t.maps d row_cut) cut_new Nothing Left cut_turning is)
      cut_stand cut_changes (subst (λ (k : ℕ). StorePut v k (map_page row_cut) ok w) at_is (subst (λ (x : List ℕ). StorePut v at x ok w) (page_is ∙ ap map_page row_is) put))
      (λ e. subst (λ (x : List ℕ). IsChanged t t.heads (slice_set t.maps d x) u) row_is (done e)) stopped

-- ---- a fresh map page, and the head that names it

map_own : (m : ℕ → ℕ → ℕ) (j d : ℕ) (f : FileNo) (h : Head) → is_of f h ≡ true → is_layout_of f (layout_by m (with_map j d h)) ≡ true
map_own m j d f Free e = absurd (true≢false (sym e))
map_own m j d f (Used g xs maps) e = e

module _ (t : TableView) (v : StoreView) (slot : ℕ) (p : BlockNo) (a d : ℕ) (is : IsTable t) (may : MaySetMap t slot p.0 a d) (fits : HasPagesOfTable t v) where
  abbrev rows_then : List (List ℕ)
  rows_then = slice_set t.maps d (one_entry (p.0 % head_blocks) a)

  abbrev head_then : Head
  head_then = with_map (range_of p.0) d (head_in t.heads slot)

  abbrev map_new : Layout
  map_new = layout_by (kept_entry rows_then) head_then

  pub new_below : d < t.counts.leaves
  new_below = held_below t is d may.map.held

  -- the fresh page is none of those that are named
  pub new_unnamed : IsUnnamed (layouts_in t) d
  new_unnamed k q at =
      let there = may.map.elsewhere k q at in
      let none = no_map t is slot p.0 a d may in
      let here : at_cell (layout_in t slot) (map_cell (range_of p.0)) ≡ suc d = ap (at_cell (layout_in t slot)) (sym there.1) ∙ ap (λ (i : ℕ). at_cell (layout_in t i) q) (sym there.0) ∙ at in
      omega (arith, none, here)

  -- the block's data page is another
  pub leaf_then : (ok : Bool) (row : List ℕ) (w : StoreView) → FillsMap t v d row ok w → IsLeaf v (data_place t.counts a) → IsLeaf w (data_place t.counts a)
  leaf_then ok row w fills leaf = same_leaf v w (data_place t.counts a) (fills.put.others (data_place t.counts a) (let lt = a_there t is slot p.0 a d may in omega (arith, lt, fits)) (λ e. may.differs (omega (arith, e)))) leaf

  -- the rows in memory may have its entries already
  held_then : HoldsTable t v → HoldsHeads t.counts rows_then t.heads v
  held_then holds = record {
    stored = holds.stored;
    maps = λ k j e low at. elim (cases_eq e d) [
      | inl same ↦ absurd (none_names t is slot p.0 a d may k j low (at ∙ ap suc same))
      | inr ne ↦ subst (λ (l : List ℕ). IsOnly v (data_place t.counts e) (map_page l)) (sym (get_or-set_other t.maps d e (one_entry (p.0 % head_blocks) a) [] ne)) (holds.maps k j e low at)
    ];
    leaves = λ k q b low at. holds.leaves k q b low (ap (λ (l : List Layout). at_cell (layout_at l k) q) (sym (same_layouts t is slot p.0 a d may)) ∙ at);
  }

  map_turning : Turns t slot (slice_set t.heads slot head_then) rows_then map_new (Two p.0 a (map_cell (range_of p.0)) d) (λ b. ⊥)
  map_turning = turns_map t is slot p.0 a d may

  -- where the store has its page and the block's
  module _ (stands : IsOnly v (data_place t.counts d) (map_page (one_entry (p.0 % head_blocks) a))) (leaf : IsLeaf v (data_place t.counts a)) where
    map_stand : HoldsTable t v → PagesStand t.counts rows_then (slice_set t.heads slot head_then) v (head_place t.counts slot) (head_page head_then)
    map_stand holds = head_stands t.counts rows_then t.heads slot head_then v is.slots map_turning.below (held_then holds)
        (λ j b low e. ⊎_elim
        (⊎_elim (λ (c : One p.0 a (map_cell j) b). absurd (let same = c.0 in let lt = may.range in omega (arith, same, lt)))
        (λ (c : One (map_cell (range_of p.0)) d (map_cell j) b). subst (λ (k : ℕ). IsOnly v (data_place t.counts k) (map_page (row_at rows_then k))) (sym c.1)
        (subst (λ (l : List ℕ). IsOnly v (data_place t.counts d) (map_page l)) (sym (get_or-set_same t.maps d (one_entry (p.0 % head_blocks) a) [] (let n = is.heads.map_rows.count in let lt = new_below in omega (arith, n, lt)))) stands)))
        (λ (old : at_cell (layout_in t slot) (map_cell j) ≡ suc b).
        (held_then holds).maps slot j b low (sym (map-cell-is (kept_entry t.maps) (head_in t.heads slot) j low) ∙ ap (λ (l : Layout). at_cell l (map_cell j)) (sym (layout_is (kept_entry t.maps) t.heads slot)) ∙ old))
        (map_turning.moves.origin (map_cell j) b (map-cell-is (kept_entry rows_then) head_then j low ∙ e)))
        (λ q b low e. ⊎_elim
        (⊎_elim (λ (c : One p.0 a q b). subst (λ (k : ℕ). IsLeaf v (data_place t.counts k)) (sym c.1) leaf) (λ (c : One (map_cell (range_of p.0)) d q b). absurd (let same = c.0 in omega (arith, same, low))))
        (λ (old : at_cell (layout_in t slot) q ≡ suc b). holds.leaves slot q b low old)
        (map_turning.moves.origin q b e))

    module _ (f : FileNo) (own : is_of f (head_in t.heads slot) ≡ true) where
      map_changes : IsChange t (slice_set t.heads slot head_then) rows_then (block_written f p a)
      map_changes = change_brought t slot (slice_set t.heads slot head_then) rows_then map_new (Two p.0 a (map_cell (range_of p.0)) d) (λ b. ⊥) map_turning is f own (map_own (kept_entry rows_then) (range_of p.0) d f (head_in t.heads slot) own) p a (map_cell (range_of p.0)) (suc d)
          may.range (omega arith) (brought_cells t is slot p.0 a d may)

      pub puts_map_head : (ok : Bool) (u : TableView) (w : StoreView) (h : Head) → h ≡ with_map (range_of p.0) d (head_in t.heads slot) → (row : List ℕ) → row ≡ one_entry (p.0 % head_blocks) a
          → (at : ℕ) (page : List ℕ) → at ≡ head_place t.counts slot → page ≡ head_page h → StorePut v at page ok w
          → (ok ≡ true → IsChanged t (slice_set t.heads slot h) (slice_set t.maps d row) u) → (ok ≡ false → u ≡ t)
          → PutsHead t v slot (with_map (range_of p.0) d (head_in t.heads slot)) (slice_set t.maps d (one_entry (p.0 % head_blocks) a)) (block_written f p a) ok u w
      puts_map_head ok u w h h_is row row_is at page at_is page_is put done stopped =
          puts_layout t v slot (slice_set t.heads slot head_then) rows_then (head_place t.counts slot) (head_page head_then) (block_written f p a) ok u w is fits (head_fits t v slot fits may.leaf.below) map_turning.slots
          (turns_sound t slot (slice_set t.heads slot head_then) rows_then map_new (Two p.0 a (map_cell (range_of p.0)) d) (λ b. ⊥) map_turning is)
          (turns_one t slot (slice_set t.heads slot head_then) rows_then map_new (Two p.0 a (map_cell (range_of p.0)) d) (λ b. ⊥) map_turning is)
          map_stand map_changes (subst (λ (k : ℕ). StorePut v k (head_page head_then) ok w) at_is (subst (λ (x : List ℕ). StorePut v at x ok w) (page_is ∙ ap head_page h_is) put))
          (λ e. subst (λ (x : Head). IsChanged t (slice_set t.heads slot x) rows_then u) h_is (subst (λ (x : List ℕ). IsChanged t (slice_set t.heads slot h) (slice_set t.maps d x) u) row_is (done e))) stopped

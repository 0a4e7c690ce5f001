-- Each put of a page makes one slot's layout another.
use Rattle.jn_files.proofs.Common.{◌≡◌, ◌≢◌, inl, inr, ◌<◌, ◌≤◌, ◌%◌, ℕ, suc, Bool, true, false, List, [], length, drop, refl, sym, ap, subst, ◌∙◌, arith, true≢false, slice_index, slice_set, nat_eq, ◌&&◌, cases_eq, get_or-set_same, get_or-set_other, length-set, length-map, head_blocks, most_maps, most_blocks, FileNo, Head, Free, Used, all_within, Layout, at_cell, map_cell, through, kept_entry, layout_by, layout_at, head_map, with_entries, with_row, cut_inside, IsMapIn, IsNoMap, IsRowChanged, is_in_range, set-map, map-put, block-put, map-cell-is, TableView, IsTable, AreHeads, AreRows, IsMapRow, IsHeadOf, HaveOneHead, head_in, is_of, is_free, is_held, row_at, layouts_of, layouts_in, layout_in, cut_addresses, with_leaf, with_map, one_entry, range_of, AreNamed, MayPutHead, MaySet, MaySetMap}
use Rattle.jn_files.proofs.Changing.{with_cell}
use Rattle.std.specs.Prelude.{replicate}
use Rattle.jn_files.proofs.Between.{Moves, Marks, Nothing, One, Two, named_once, moves_once, moves_named, layout_here, set_below}
use Rattle.jn_files.proofs.Cutting.{cut_length, cut_within, set_within, zeros_within, whole_length, maps_length, within_parts, map_page_below}
use Rattle.jn_files.proofs.Freeing.{Clears}
use Rattle.jn_files.proofs.Laying.{in_map, leaf_cells, map_cells, set_entries, cut_entries}
use Rattle.jn_files.proofs.Lookup.{layout_is, map_at_cell}
use Rattle.jn_files.proofs.Places.{range_below, range_is, in_its_range}
use Rattle.jn_files.proofs.Standing.{head_at_slot, head_off_slot}
use Rattle.jn_files.proofs.Setting.{HeadGoes, moves_head, moves_set, moves_two, moves_cut_row}

-- By these heads and map pages the slot's layout is another, and no other slot's is.
pub record Turns (t : TableView) (slot : ℕ) (heads : List Head) (rows : List (List ℕ)) (new : Layout) (comes : ℕ → ℕ → Type 0) (goes : ℕ → Type 0) : Type 0 where
  pub below : slot < length t.heads
  pub slots : length heads ≡ length t.heads
  pub layouts : layouts_of rows heads ≡ slice_set (layouts_in t) slot new
  pub moves : Moves (layouts_in t) slot new comes goes
  pub each : (k : ℕ) → IsHeadOf t.counts.leaves (head_in heads k)
  pub files : HaveOneHead heads
  pub map_rows : AreRows t.counts.leaves rows

module _ (t : TableView) (slot : ℕ) (heads : List Head) (rows : List (List ℕ)) (new : Layout) (comes : ℕ → ℕ → Type 0) (goes : ℕ → Type 0) (turns : Turns t slot heads rows new comes goes) (is : IsTable t) where
  pub there : slot < length (layouts_in t)
  there = subst (λ (n : ℕ). slot < n) (sym (length-map t.heads (layout_by (kept_entry t.maps)))) turns.below

  pub turns_sound : AreHeads t.counts.leaves rows heads
  turns_sound = record {
    each = turns.each;
    files = turns.files;
    map_rows = turns.map_rows;
    addresses = rw turns.layouts (named_once (layouts_in t) slot new there is.heads.addresses (moves_once (layouts_in t) slot new comes goes turns.moves is.heads.addresses));
  }

  pub turns_here : layout_at (layouts_of rows heads) slot ≡ new
  turns_here = ap (λ (l : List Layout). layout_at l slot) turns.layouts ∙ layout_here (layouts_in t) slot new there slot refl

  pub turns_one : layouts_of rows heads ≡ slice_set (layouts_in t) slot (layout_at (layouts_of rows heads) slot)
  turns_one = turns.layouts ∙ ap (slice_set (layouts_in t) slot) (sym turns_here)

  pub turns_named : (flags less now : List Bool) → Clears goes flags less → Marks comes less now → AreNamed (layouts_in t) flags → AreNamed (layouts_of rows heads) now
  turns_named flags less now clears marks named = rw turns.layouts (moves_named (layouts_in t) slot new comes goes turns.moves is.heads.addresses there flags less now clears marks named)

-- ---- heads

module _ (t : TableView) (is : IsTable t) (slot : ℕ) (below : slot < t.counts.heads) where
  slot_there : slot < length t.heads
  slot_there = let n = is.slots in omega arith

  module _ (h : Head) where
    here : (k : ℕ) → k ≡ slot → head_in (slice_set t.heads slot h) k ≡ h
    here k e = head_at_slot t.heads slot h k slot_there e

    off : (k : ℕ) → k ≢ slot → head_in (slice_set t.heads slot h) k ≡ head_in t.heads k
    off k ne = head_off_slot t.heads slot h k ne

    set_each : IsHeadOf t.counts.leaves h → (k : ℕ) → IsHeadOf t.counts.leaves (head_in (slice_set t.heads slot h) k)
    set_each head k = elim (cases_eq k slot) [
      | inl e ↦ subst (IsHeadOf t.counts.leaves) (sym (here k e)) head
      | inr ne ↦ subst (IsHeadOf t.counts.leaves) (sym (off k ne)) (is.heads.each k)
    ]

    set_files : ((f : FileNo) (j : ℕ) → is_of f h ≡ true → is_of f (head_in t.heads j) ≡ true → j ≡ slot) → HaveOneHead (slice_set t.heads slot h)
    set_files file f i j at_i at_j = elim (cases_eq i slot) [
      | inl e ↦ elim (cases_eq j slot) [
        | inl d ↦ e ∙ sym d
        | inr nd ↦ e ∙ sym (file f j (ap (is_of f) (sym (here i e)) ∙ at_i) (ap (is_of f) (sym (off j nd)) ∙ at_j))
      ]
      | inr ne ↦ elim (cases_eq j slot) [
        | inl d ↦ file f i (ap (is_of f) (sym (here j d)) ∙ at_j) (ap (is_of f) (sym (off i ne)) ∙ at_i) ∙ sym d
        | inr nd ↦ is.heads.files f i j (ap (is_of f) (sym (off i ne)) ∙ at_i) (ap (is_of f) (sym (off j nd)) ∙ at_j)
      ]
    ]

  -- a head that keeps its file
  pub same_file : (h : Head) → ((f : FileNo) → is_of f h ≡ true → is_of f (head_in t.heads slot) ≡ true) → (f : FileNo) (j : ℕ) → is_of f h ≡ true → is_of f (head_in t.heads j) ≡ true → j ≡ slot
  same_file h same f j e d = is.heads.files f j slot d (same f e)

pub turns_head : (t : TableView) → IsTable t → (slot : ℕ) (h : Head) (n : ℕ) → MayPutHead t slot h n → Turns t slot (slice_set t.heads slot h) t.maps (layout_by (kept_entry t.maps) h) Nothing (HeadGoes t.maps n (head_in t.heads slot))
turns_head t is slot h n may = record {
  below = slot_there t is slot may.below;
  slots = length-set t.heads slot h;
  layouts = set-map (layout_by (kept_entry t.maps)) t.heads slot h;
  moves = moves_head t.counts.leaves t.maps n is.heads.map_rows (layouts_in t) slot (layout_by (kept_entry t.maps) h) (head_in t.heads slot) (is.heads.each slot) (layout_is (kept_entry t.maps) t.heads slot) may.cells;
  each = set_each t is slot may.below h may.head;
  files = set_files t is slot may.below h may.file;
  map_rows = is.heads.map_rows;
}

-- a data page that is held is one that there is
pub held_below : (t : TableView) → IsTable t → (a : ℕ) → is_held t a ≡ true → a < t.counts.leaves
held_below t is a e = let lt = set_below t.held a e in let n = is.leaves in omega arith

-- ---- a data page for one of the head's blocks

leaf_of : (p a : ℕ) (f : FileNo) (h : Head) → is_of f (with_leaf p a h) ≡ true → is_of f h ≡ true
leaf_of p a f Free e = e
leaf_of p a f (Used g xs maps) e = e

leaf_head : (leaves p a : ℕ) (h : Head) → a < leaves → IsHeadOf leaves h → IsHeadOf leaves (with_leaf p a h)
leaf_head leaves p a Free lt is = is
leaf_head leaves p a (Used f xs maps) lt is =
    let parts = within_parts leaves f xs maps is.is_head.within_leaves in
    record {
      is_head = record {
        whole = ap (λ (k : ℕ). nat_eq k head_blocks && nat_eq (length maps) most_maps) (length-set xs p (suc a)) ∙ is.is_head.whole;
        within_leaves = ap (λ (b : Bool). b && all_within leaves maps) (set_within p a leaves xs lt parts.0) ∙ parts.1;
      };
      fits = is.fits;
    }

leaf_laid : (leaves : ℕ) (m : ℕ → ℕ → ℕ) (p a : ℕ) (h : Head) → p < head_blocks → is_free h ≡ false → IsHeadOf leaves h → (q : ℕ) → at_cell (layout_by m (with_leaf p a h)) q ≡ with_cell p (suc a) (at_cell (layout_by m h)) q
leaf_laid leaves m p a Free block used is q = absurd (true≢false used)
leaf_laid leaves m p a (Used f xs maps) block used is q = leaf_cells m xs maps p a block (whole_length f xs maps is.is_head.whole) q

pub turns_leaf : (t : TableView) → IsTable t → (slot p a : ℕ) → p < head_blocks → MaySet t slot p a
    → Turns t slot (slice_set t.heads slot (with_leaf p a (head_in t.heads slot))) t.maps (layout_by (kept_entry t.maps) (with_leaf p a (head_in t.heads slot))) (One p a) (λ b. at_cell (layout_in t slot) p ≡ suc b)
turns_leaf t is slot p a block may = record {
  below = slot_there t is slot may.below;
  slots = length-set t.heads slot (with_leaf p a (head_in t.heads slot));
  layouts = set-map (layout_by (kept_entry t.maps)) t.heads slot (with_leaf p a (head_in t.heads slot));
  moves = moves_set (layouts_in t) slot (layout_by (kept_entry t.maps) (with_leaf p a (head_in t.heads slot))) p a
      (λ q. leaf_laid t.counts.leaves (kept_entry t.maps) p a (head_in t.heads slot) block may.used (is.heads.each slot) q ∙ ap (λ (l : Layout). with_cell p (suc a) (at_cell l) q) (sym (layout_is (kept_entry t.maps) t.heads slot)))
      may.elsewhere;
  each = set_each t is slot may.below (with_leaf p a (head_in t.heads slot)) (leaf_head t.counts.leaves p a (head_in t.heads slot) (held_below t is a may.held) (is.heads.each slot));
  files = set_files t is slot may.below (with_leaf p a (head_in t.heads slot)) (same_file t is slot may.below (with_leaf p a (head_in t.heads slot)) (λ f e. leaf_of p a f (head_in t.heads slot) e));
  map_rows = is.heads.map_rows;
}

pub leaf_put_cells : (t : TableView) → IsTable t → (slot p a : ℕ) → p < head_blocks → MaySet t slot p a → (q : ℕ) → at_cell (layout_by (kept_entry t.maps) (with_leaf p a (head_in t.heads slot))) q ≡ with_cell p (suc a) (at_cell (layout_in t slot)) q
leaf_put_cells t is slot p a block may q = leaf_laid t.counts.leaves (kept_entry t.maps) p a (head_in t.heads slot) block may.used (is.heads.each slot) q ∙ ap (λ (l : Layout). with_cell p (suc a) (at_cell l) q) (sym (layout_is (kept_entry t.maps) t.heads slot))

-- ---- other entries in a map page

-- where the entries of a map page stand
row_stands : (rows : List (List ℕ)) (h : Head) (j d : ℕ) → head_map h j ≡ suc d → (q : ℕ) → q < most_blocks → is_in_range j q ≡ true → at_cell (layout_by (kept_entry rows) h) q ≡ slice_index (row_at rows d) (q % head_blocks)
row_stands rows Free j d e q low its = absurd (omega (arith, e))
row_stands rows (Used f xs maps) j d e q low its =
    let at = range_is j q its in
    in_map (kept_entry rows) xs maps q at.0 low ∙ ap (λ (i : ℕ). through (kept_entry rows) (slice_index maps i) (q % head_blocks)) at.1 ∙ ap (λ (z : ℕ). through (kept_entry rows) z (q % head_blocks)) e

row_cells : (m : ℕ → ℕ → ℕ) (h : Head) (j d : ℕ) (entries : ℕ → ℕ) → head_map h j ≡ suc d → (q : ℕ) → at_cell (with_row j entries (layout_by m h)) q ≡ with_entries j entries (at_cell (layout_by m h)) q
row_cells m Free j d entries e q = absurd (omega (arith, e))
row_cells m (Used f xs maps) j d entries e q = refl

set_rows : (leaves : ℕ) (rows : List (List ℕ)) (d : ℕ) (row : List ℕ) → AreRows leaves rows → d < leaves → IsMapRow leaves row → AreRows leaves (slice_set rows d row)
set_rows leaves rows d row are lt is = record {
  count = length-set rows d row ∙ are.count;
  each = λ e below. elim (cases_eq e d) [
    | inl same ↦ subst (IsMapRow leaves) (sym (ap (row_at (slice_set rows d row)) same ∙ get_or-set_same rows d row [] (let n = are.count in omega arith))) is
    | inr ne ↦ subst (IsMapRow leaves) (sym (get_or-set_other rows d e row [] ne)) (are.each e below)
  ];
}

row_changed : (leaves : ℕ) (rows : List (List ℕ)) (d : ℕ) (row : List ℕ) → AreRows leaves rows → d < leaves → IsRowChanged d (λ k. slice_index row k) (kept_entry rows) (kept_entry (slice_set rows d row))
row_changed leaves rows d row are lt = record {
  here = λ k. ap (λ (l : List ℕ). slice_index l k) (get_or-set_same rows d row [] (let n = are.count in omega arith));
  others = λ e k ne. ap (λ (l : List ℕ). slice_index l k) (get_or-set_other rows d e row [] ne);
}

-- what a head names as a map page stands at its cell
pub at_map : (t : TableView) (k j d : ℕ) → j < most_maps → head_map (head_in t.heads k) j ≡ suc d → at_cell (layout_in t k) (map_cell j) ≡ suc d
at_map t k j d low e = map_at_cell (kept_entry t.maps) t.heads k j low ∙ e

-- one data page of a slot is a map page
module _ (t : TableView) (is : IsTable t) (slot : ℕ) (below : slot < t.counts.heads) (p d : ℕ) (high : head_blocks ≤ p) (low : p < most_blocks) (named : head_map (head_in t.heads slot) (range_of p) ≡ suc d) (row : List ℕ) (is_row : IsMapRow t.counts.leaves row) where
  its_map : IsMapIn t.heads d slot (range_of p)
  its_map = record {
    below = range_below p high low;
    here = named;
    alone = λ i k lt e.
        let both = is.heads.addresses d i (map_cell k) slot (map_cell (range_of p)) (at_map t i k d lt e) (at_map t slot (range_of p) d (range_below p high low) named) in
        (both.0, let same = both.1 in omega (arith, same));
  }

  pub map_there : d < t.counts.leaves
  map_there = map_page_below t.counts.leaves (head_in t.heads slot) (is.heads.each slot) (range_of p) d named

  abbrev new : Layout
  new = with_row (range_of p) (λ k. slice_index row k) (layout_in t slot)

  new_cells : (q : ℕ) → at_cell new q ≡ with_entries (range_of p) (λ k. slice_index row k) (at_cell (layout_in t slot)) q
  new_cells q = ap (λ (l : Layout). at_cell (with_row (range_of p) (λ k. slice_index row k) l) q) (layout_is (kept_entry t.maps) t.heads slot)
      ∙ row_cells (kept_entry t.maps) (head_in t.heads slot) (range_of p) d (λ k. slice_index row k) named q
      ∙ ap (λ (l : Layout). with_entries (range_of p) (λ k. slice_index row k) (at_cell l) q) (sym (layout_is (kept_entry t.maps) t.heads slot))

  pub old_stands : (q : ℕ) → q < most_blocks → is_in_range (range_of p) q ≡ true → at_cell (layout_in t slot) q ≡ slice_index (row_at t.maps d) (q % head_blocks)
  old_stands q lt its = ap (λ (l : Layout). at_cell l q) (layout_is (kept_entry t.maps) t.heads slot) ∙ row_stands t.maps (head_in t.heads slot) (range_of p) d named q lt its

  turns_row : (comes : ℕ → ℕ → Type 0) (goes : ℕ → Type 0) → Moves (layouts_in t) slot new comes goes → Turns t slot t.heads (slice_set t.maps d row) new comes goes
  turns_row comes goes moves = record {
    below = slot_there t is slot below;
    slots = refl;
    layouts = map-put (kept_entry t.maps) (kept_entry (slice_set t.maps d row)) t.heads d slot (range_of p) (λ k. slice_index row k) (row_changed t.counts.leaves t.maps d row is.heads.map_rows map_there) its_map;
    moves = moves;
    each = is.heads.each;
    files = is.heads.files;
    map_rows = set_rows t.counts.leaves t.maps d row is.heads.map_rows map_there is_row;
  }

pub entry_row : (t : TableView) → IsTable t → (d k a : ℕ) → d < t.counts.leaves → a < t.counts.leaves → IsMapRow t.counts.leaves (slice_set (row_at t.maps d) k (suc a))
entry_row t is d k a lt below = let row = is.heads.map_rows.each d lt in record { count = length-set (row_at t.maps d) k (suc a) ∙ row.count; within_leaves = set_within k a t.counts.leaves (row_at t.maps d) below row.within_leaves }

pub cut_row_is : (t : TableView) → IsTable t → (d n : ℕ) → d < t.counts.leaves → IsMapRow t.counts.leaves (cut_addresses n (row_at t.maps d))
cut_row_is t is d n lt = let row = is.heads.map_rows.each d lt in record { count = cut_length n (row_at t.maps d) ∙ row.count; within_leaves = cut_within n t.counts.leaves (row_at t.maps d) row.within_leaves }

-- a data page for one of its blocks
module _ (t : TableView) (is : IsTable t) (slot p a d : ℕ) (high : head_blocks ≤ p) (low : p < most_blocks) (named : head_map (head_in t.heads slot) (range_of p) ≡ suc d) (may : MaySet t slot p a) where
  abbrev pub entry_put : List ℕ
  entry_put = slice_set (row_at t.maps d) (p % head_blocks) (suc a)

  d_below : d < t.counts.leaves
  d_below = map_page_below t.counts.leaves (head_in t.heads slot) (is.heads.each slot) (range_of p) d named

  entry_is : IsMapRow t.counts.leaves entry_put
  entry_is = entry_row t is d (p % head_blocks) a d_below (held_below t is a may.held)

  pub entry_cells : (q : ℕ) → at_cell (with_row (range_of p) (λ k. slice_index entry_put k) (layout_in t slot)) q ≡ with_cell p (suc a) (at_cell (layout_in t slot)) q
  entry_cells q = new_cells t is slot may.below p d high low named entry_put entry_is q
      ∙ set_entries (at_cell (layout_in t slot)) (row_at t.maps d) p high low (is.heads.map_rows.each d d_below).count (old_stands t is slot may.below p d high low named entry_put entry_is) a q

  pub turns_entry : Turns t slot t.heads (slice_set t.maps d entry_put) (with_row (range_of p) (λ k. slice_index entry_put k) (layout_in t slot)) (One p a) (λ b. at_cell (layout_in t slot) p ≡ suc b)
  turns_entry = turns_row t is slot may.below p d high low named entry_put entry_is (One p a) (λ b. at_cell (layout_in t slot) p ≡ suc b)
      (moves_set (layouts_in t) slot (with_row (range_of p) (λ k. slice_index entry_put k) (layout_in t slot)) p a entry_cells may.elsewhere)

-- what stood there
pub old_entry : (t : TableView) → IsTable t → (slot p a d : ℕ) → head_blocks ≤ p → p < most_blocks → head_map (head_in t.heads slot) (range_of p) ≡ suc d → MaySet t slot p a → at_cell (layout_in t slot) p ≡ slice_index (row_at t.maps d) (p % head_blocks)
old_entry t is slot p a d high low named may = ap (λ (l : Layout). at_cell l p) (layout_is (kept_entry t.maps) t.heads slot) ∙ row_stands t.maps (head_in t.heads slot) (range_of p) d named p low (in_its_range p high)

-- no blocks from n on
module _ (t : TableView) (is : IsTable t) (slot n d : ℕ) (below : slot < t.counts.heads) (high : head_blocks ≤ n) (low : n < most_blocks) (named : head_map (head_in t.heads slot) (range_of n) ≡ suc d) where
  abbrev pub cut_put : List ℕ
  cut_put = cut_addresses (n % head_blocks) (row_at t.maps d)

  below_d : d < t.counts.leaves
  below_d = map_page_below t.counts.leaves (head_in t.heads slot) (is.heads.each slot) (range_of n) d named

  cut_is_row : IsMapRow t.counts.leaves cut_put
  cut_is_row = cut_row_is t is d (n % head_blocks) below_d

  pub cut_row_cells : (q : ℕ) → at_cell (with_row (range_of n) (λ k. slice_index cut_put k) (layout_in t slot)) q ≡ cut_inside n (range_of n) (at_cell (layout_in t slot)) q
  cut_row_cells q = new_cells t is slot below n d high low named cut_put cut_is_row q
      ∙ cut_entries (at_cell (layout_in t slot)) (row_at t.maps d) n high low (is.heads.map_rows.each d below_d).count (old_stands t is slot below n d high low named cut_put cut_is_row) q

  pub turns_cut_row : Turns t slot t.heads (slice_set t.maps d cut_put) (with_row (range_of n) (λ k. slice_index cut_put k) (layout_in t slot)) Nothing (λ b. (k : ℕ) × (slice_index (drop (n % head_blocks) (row_at t.maps d)) k ≡ suc b))
  turns_cut_row = turns_row t is slot below n d high low named cut_put cut_is_row Nothing (λ b. (k : ℕ) × (slice_index (drop (n % head_blocks) (row_at t.maps d)) k ≡ suc b))
      (moves_cut_row (layouts_in t) slot (with_row (range_of n) (λ k. slice_index cut_put k) (layout_in t slot)) n (row_at t.maps d) cut_row_cells high low (is.heads.map_rows.each d below_d).count
      (old_stands t is slot below n d high low named cut_put cut_is_row))

-- ---- a map page that comes with a block

map_of : (j d : ℕ) (f : FileNo) (h : Head) → is_of f (with_map j d h) ≡ true → is_of f h ≡ true
map_of j d f Free e = e
map_of j d f (Used g xs maps) e = e

map_head : (leaves j d : ℕ) (h : Head) → d < leaves → IsHeadOf leaves h → IsHeadOf leaves (with_map j d h)
map_head leaves j d Free lt is = is
map_head leaves j d (Used f xs maps) lt is =
    let parts = within_parts leaves f xs maps is.is_head.within_leaves in
    record {
      is_head = record {
        whole = ap (λ (k : ℕ). nat_eq (length xs) head_blocks && nat_eq k most_maps) (length-set maps j (suc d)) ∙ is.is_head.whole;
        within_leaves = ap (λ (b : Bool). b && all_within leaves (slice_set maps j (suc d))) parts.0 ∙ set_within j d leaves maps lt parts.1;
      };
      fits = is.fits;
    }

map_laid : (leaves : ℕ) (m : ℕ → ℕ → ℕ) (p a d : ℕ) (h : Head) → head_blocks ≤ p → p < most_blocks → is_free h ≡ false → IsHeadOf leaves h → head_map h (range_of p) ≡ 0 → ((i : ℕ) → m d i ≡ slice_index (one_entry (p % head_blocks) a) i)
    → (q : ℕ) → at_cell (layout_by m (with_map (range_of p) d h)) q ≡ with_cell p (suc a) (with_cell (map_cell (range_of p)) (suc d) (at_cell (layout_by m h))) q
map_laid leaves m p a d Free high low used is absent entries q = absurd (true≢false used)
map_laid leaves m p a d (Used f xs maps) high low used is absent entries q = map_cells m xs maps p a d high low (maps_length f xs maps is.is_head.whole) absent entries q

none_there : (m : ℕ → ℕ → ℕ) (p : ℕ) (h : Head) → head_blocks ≤ p → p < most_blocks → head_map h (range_of p) ≡ 0 → at_cell (layout_by m h) p ≡ 0
none_there m p Free high low absent = refl
none_there m p (Used f xs maps) high low absent = in_map m xs maps p high low ∙ ap (λ (z : ℕ). through m z (p % head_blocks)) absent

pub one_row : (leaves k a : ℕ) → a < leaves → IsMapRow leaves (one_entry k a)
one_row leaves k a lt = record { count = length-set (replicate head_blocks 0) k (suc a); within_leaves = set_within k a leaves (replicate head_blocks 0) lt (zeros_within head_blocks leaves) }

module _ (t : TableView) (is : IsTable t) (slot p a d : ℕ) (may : MaySetMap t slot p a d) where
  abbrev pub brought : List (List ℕ)
  brought = slice_set t.maps d (one_entry (p % head_blocks) a)

  abbrev pub bringing : Head
  bringing = with_map (range_of p) d (head_in t.heads slot)

  pub a_there : a < t.counts.leaves
  a_there = held_below t is a may.leaf.held

  pub d_there : d < t.counts.leaves
  d_there = held_below t is d may.map.held

  range_low : range_of p < most_maps
  range_low = range_below p may.block may.range

  -- no head names the new map page yet
  pub none_names : IsNoMap t.heads d
  none_names i k lt e =
      let at = may.map.elsewhere i (map_cell k) (at_map t i k d lt e) in
      let same : k ≡ range_of p = let cell = at.1 in omega (arith, cell) in
      let none : head_map (head_in t.heads i) k ≡ 0 = ap (λ (x : ℕ). head_map (head_in t.heads x) k) at.0 ∙ ap (head_map (head_in t.heads slot)) same ∙ may.absent in
      omega (arith, none, e)

  changed : IsRowChanged d (λ k. slice_index (one_entry (p % head_blocks) a) k) (kept_entry t.maps) (kept_entry brought)
  changed = row_changed t.counts.leaves t.maps d (one_entry (p % head_blocks) a) is.heads.map_rows d_there

  -- so its entries change no layout
  pub same_layouts : layouts_of brought t.heads ≡ layouts_in t
  same_layouts = block-put (kept_entry t.maps) (kept_entry brought) t.heads d (λ k. slice_index (one_entry (p % head_blocks) a) k) changed none_names

  same_layout : layout_by (kept_entry brought) (head_in t.heads slot) ≡ layout_in t slot
  same_layout = sym (layout_is (kept_entry brought) t.heads slot) ∙ ap (λ (l : List Layout). layout_at l slot) same_layouts

  pub rows_brought : AreRows t.counts.leaves brought
  rows_brought = set_rows t.counts.leaves t.maps d (one_entry (p % head_blocks) a) is.heads.map_rows d_there (one_row t.counts.leaves (p % head_blocks) a a_there)

  pub brought_cells : (q : ℕ) → at_cell (layout_by (kept_entry brought) bringing) q ≡ with_cell p (suc a) (with_cell (map_cell (range_of p)) (suc d) (at_cell (layout_in t slot))) q
  brought_cells q = map_laid t.counts.leaves (kept_entry brought) p a d (head_in t.heads slot) may.block may.range may.leaf.used (is.heads.each slot) may.absent changed.here q
      ∙ ap (λ (l : Layout). with_cell p (suc a) (with_cell (map_cell (range_of p)) (suc d) (at_cell l)) q) same_layout

  apart : p ≢ map_cell (range_of p)
  apart e = let lt = may.range in omega (arith, e, lt)

  none_p : at_cell (layout_in t slot) p ≡ 0
  none_p = ap (λ (l : Layout). at_cell l p) (layout_is (kept_entry t.maps) t.heads slot) ∙ none_there (kept_entry t.maps) p (head_in t.heads slot) may.block may.range may.absent

  pub no_map : at_cell (layout_in t slot) (map_cell (range_of p)) ≡ 0
  no_map = ap (λ (l : Layout). at_cell l (map_cell (range_of p))) (layout_is (kept_entry t.maps) t.heads slot) ∙ map-cell-is (kept_entry t.maps) (head_in t.heads slot) (range_of p) range_low ∙ may.absent

  pub turns_map : Turns t slot (slice_set t.heads slot bringing) brought (layout_by (kept_entry brought) bringing) (Two p a (map_cell (range_of p)) d) (λ b. ⊥)
  turns_map = record {
    below = slot_there t is slot may.leaf.below;
    slots = length-set t.heads slot bringing;
    layouts = set-map (layout_by (kept_entry brought)) t.heads slot bringing ∙ ap (λ (l : List Layout). slice_set l slot (layout_by (kept_entry brought) bringing)) same_layouts;
    moves = moves_two (layouts_in t) slot (layout_by (kept_entry brought) bringing) p a (map_cell (range_of p)) d brought_cells may.leaf.elsewhere may.map.elsewhere apart may.differs none_p no_map;
    each = set_each t is slot may.leaf.below bringing (map_head t.counts.leaves (range_of p) d (head_in t.heads slot) d_there (is.heads.each slot));
    files = set_files t is slot may.leaf.below bringing (same_file t is slot may.leaf.below bringing (λ f e. map_of (range_of p) d f (head_in t.heads slot) e));
    map_rows = rows_brought;
  }

-- What the calls that put heads may put, and what that makes of the files.
use Rattle.jn_files.proofs.Common.{◌≡◌, ◌≢◌, ◌⊎◌, inl, inr, ⊎_elim, ◌<◌, ◌≤◌, ◌+◌, ◌*◌, ◌-◌, ◌/◌, ◌%◌, ◌^◌, ℕ, suc, Bool, true, false, List, length, replicate, take, drop, refl, sym, ap, subst, ◌∙◌, arith, true≢false, slice_index, slice_set, nat_eq, nat_lt, nat_le, ◌&&◌, ◌||◌, if◌then◌else◌, div-add-mod, mod-lt, cases_eq, cases_lt, nat_tests, get_or_past, free_count, IsLeastFree, head_blocks, most_maps, most_blocks, file_eq, FileNo, BlockNo, cut_from, created, removed, Head, Free, Used, all_within, Layout, Unused, at_cell, through, kept_entry, layout_by, layout_at, is_layout_of, head_map, map_cell, with_row, cut_inside, is_in_range, maps_in, StoreView, TableView, IsTable, IsHeadOf, head_in, is_of, is_free, is_held, row_at, exists, layouts_of, layouts_in, layout_in, files_of, fresh_head, cut_head, cut_map, cut_addresses, kept_maps, range_of, IsPlaceOf, IsChanged, MayBecome, MayBring, IsChange, IsCutInside, MayPutHead, MaySet, MaySetMap, cells_kept}
use Rattle.jn_files.proofs.Between.{Nothing, set_below}
use Rattle.jn_files.proofs.Changing.{layout_tells, becomes_fresh, becomes_gone}
use Rattle.jn_files.proofs.Cutting.{cut_length, cut_within, zeros_within, within_parts}
use Rattle.jn_files.proofs.Filing.{layout_own, change_cut, cut_whole, fresh_cells, kept_none}
use Rattle.jn_files.proofs.Laying.{in_map, cut_cells_are}
use Rattle.jn_files.proofs.Lookup.{layout_is, not_free, absent_none, maps_there}
use Rattle.jn_files.proofs.Places.{in_its_range}
use Rattle.jn_files.proofs.Setting.{HeadGoes}
use Rattle.jn_files.proofs.Turning.{Turns, there, same_file, turns_here, turns_head, turns_cut_row, cut_row_cells}

-- ---- a cut

cut_of : (n : ℕ) (f : FileNo) (h : Head) → is_of f (cut_head n h) ≡ true → is_of f h ≡ true
cut_of n f Free e = e
cut_of n f (Used g xs maps) e = e

cut_is_head : (leaves n : ℕ) (h : Head) → IsHeadOf leaves h → IsHeadOf leaves (cut_head n h)
cut_is_head leaves n Free is = is
cut_is_head leaves n (Used f xs maps) is =
    let parts = within_parts leaves f xs maps is.is_head.within_leaves in
    record {
      is_head = record {
        whole = ap (λ (k : ℕ). nat_eq k head_blocks && nat_eq (length (cut_addresses (kept_maps n) maps)) most_maps) (cut_length n xs) ∙ ap (λ (k : ℕ). nat_eq (length xs) head_blocks && nat_eq k most_maps) (cut_length (kept_maps n) maps) ∙ is.is_head.whole;
        within_leaves = ap (λ (b : Bool). b && all_within leaves (cut_addresses (kept_maps n) maps)) (cut_within n leaves xs parts.0) ∙ cut_within (kept_maps n) leaves maps parts.1;
      };
      fits = is.fits;
    }

cut_laid : (m : ℕ → ℕ → ℕ) (n : ℕ) (h : Head) → is_free h ≡ false → (q : ℕ) → at_cell (layout_by m (cut_head n h)) q ≡ cells_kept n (at_cell (layout_by m h)) q
cut_laid m n Free used q = absurd (true≢false used)
cut_laid m n (Used f xs maps) used q = cut_cells_are m xs maps n q

pub may_cut : (t : TableView) → IsTable t → (slot n : ℕ) → slot < t.counts.heads → is_free (head_in t.heads slot) ≡ false → n < most_blocks → MayPutHead t slot (cut_head n (head_in t.heads slot)) n
may_cut t is slot n below used low = record {
  below = below;
  limit = low;
  head = cut_is_head t.counts.leaves n (head_in t.heads slot) (is.heads.each slot);
  file = same_file t is slot below (cut_head n (head_in t.heads slot)) (λ f e. cut_of n f (head_in t.heads slot) e);
  room = λ free now. absurd (true≢false (sym free ∙ used));
  cells = λ q. cut_laid (kept_entry t.maps) n (head_in t.heads slot) used q ∙ ap (λ (l : Layout). cells_kept n (at_cell l) q) (sym (layout_is (kept_entry t.maps) t.heads slot));
}

cut_own : (m : ℕ → ℕ → ℕ) (n : ℕ) (f : FileNo) (h : Head) → is_of f h ≡ true → is_layout_of f (layout_by m (cut_head n h)) ≡ true
cut_own m n f Free e = absurd (true≢false (sym e))
cut_own m n f (Used g xs maps) e = e

pub cut_changes : (t : TableView) → IsTable t → (slot : ℕ) (n : BlockNo) → slot < t.counts.heads → n.0 < most_blocks → (f : FileNo) → is_of f (head_in t.heads slot) ≡ true → IsCutInside (layout_in t slot) n.0
    → IsChange t (slice_set t.heads slot (cut_head n.0 (head_in t.heads slot))) t.maps (λ leaves. cut_from f n)
cut_changes t is slot n below low f own inside =
    let may = may_cut t is slot n.0 below (not_free f (head_in t.heads slot) own) low in
    change_cut t slot (slice_set t.heads slot (cut_head n.0 (head_in t.heads slot))) t.maps (layout_by (kept_entry t.maps) (cut_head n.0 (head_in t.heads slot))) Nothing (HeadGoes t.maps n.0 (head_in t.heads slot))
    (turns_head t is slot (cut_head n.0 (head_in t.heads slot)) n.0 may) is f own (cut_own (kept_entry t.maps) n.0 f (head_in t.heads slot) own) n
    (λ q lt. may.cells q ∙ cut_whole (layout_in t slot) n.0 inside q lt)

-- ---- a cut that is one put

-- the head's put is whole where no block behind stands in a map page that stays
module _ (n q : ℕ) (late : n ≤ q) (high : head_blocks ≤ q) where
  whole_n : head_blocks * (n / head_blocks) + n % head_blocks ≡ n
  whole_n = div-add-mod n head_blocks

  whole_q : head_blocks * (q / head_blocks) + q % head_blocks ≡ q
  whole_q = div-add-mod q head_blocks

  whole_less : head_blocks * ((n - 1) / head_blocks) + (n - 1) % head_blocks ≡ n - 1
  whole_less = div-add-mod (n - 1) head_blocks

  small_n : n % head_blocks < head_blocks
  small_n = mod-lt n {m = head_blocks} (omega arith)

  small_q : q % head_blocks < head_blocks
  small_q = mod-lt q {m = head_blocks} (omega arith)

  small_less : (n - 1) % head_blocks < head_blocks
  small_less = mod-lt (n - 1) {m = head_blocks} (omega arith)

  before_maps : n < head_blocks → kept_maps n ≤ range_of q
  before_maps lt = let a = whole_less in let b = small_less in omega arith

  at_first : n % head_blocks ≡ 0 → kept_maps n ≤ range_of q
  at_first e = let a = whole_n in let b = whole_q in let c = whole_less in let d = small_q in let f = small_less in omega arith

  other_range : range_of q ≢ range_of n → head_blocks ≤ n → kept_maps n ≤ range_of q
  other_range ne ge = let a = whole_n in let b = whole_q in let c = whole_less in let d = small_q in let f = small_less in let g = small_n in omega arith

no_block : (m : ℕ → ℕ → ℕ) (h : Head) (q : ℕ) → head_blocks ≤ q → q < most_blocks → head_map h (range_of q) ≡ 0 → at_cell (layout_by m h) q ≡ 0
no_block m Free q ge lt e = refl
no_block m (Used f xs maps) q ge lt e = in_map m xs maps q ge lt ∙ ap (λ (z : ℕ). through m z (q % head_blocks)) e

pub cut_at_once : (t : TableView) (slot n : ℕ) → cut_map n (head_in t.heads slot) ≡ 0 → IsCutInside (layout_in t slot) n
cut_at_once t slot n none q low late there = by (cases_lt q head_blocks)
  where
    tested : head_blocks ≤ q → (x : Bool) → nat_lt n head_blocks ≡ x → (y : Bool) → nat_eq (n % head_blocks) 0 ≡ y → (if x || y then 0 else head_map (head_in t.heads slot) (range_of n)) ≡ 0 → kept_maps n ≤ range_of q
    tested ge true e y d h = before_maps n q late ge (grind (arith, nat_tests, e))
    tested ge false e true d h = at_first n q late ge (grind (arith, nat_tests, d))
    tested ge false e false d h = elim (cases_eq (range_of q) (range_of n)) [
      | inl same ↦ absurd (there (ap (λ (l : Layout). at_cell l q) (layout_is (kept_entry t.maps) t.heads slot) ∙ no_block (kept_entry t.maps) (head_in t.heads slot) q ge low (ap (head_map (head_in t.heads slot)) same ∙ h)))
      | inr ne ↦ other_range n q late ge ne (grind (arith, nat_tests, e))
    ]

    by : (q < head_blocks) ⊎ (head_blocks ≤ q) → (q < head_blocks) ⊎ (kept_maps n ≤ range_of q)
    by (inl lt) = inl lt
    by (inr ge) = inr (tested ge (nat_lt n head_blocks) refl (nat_eq (n % head_blocks) 0) refl none)

-- so it is behind the put of the map page that it falls inside of
pub cut_behind : (h : Layout) (n : ℕ) (old : ℕ → ℕ) → head_blocks ≤ n → ((q : ℕ) → at_cell h q ≡ cut_inside n (range_of n) old q) → IsCutInside h n
cut_behind h n old high is q low late there = by (cases_lt q head_blocks)
  where
    gone : is_in_range (range_of n) q ≡ true → at_cell h q ≡ 0
    gone its = let x : nat_lt q most_blocks ≡ true = grind (arith, nat_tests, low) in let z : nat_le n q ≡ true = grind (arith, nat_tests, late) in
        is q ∙ ap (λ (b : Bool). if b && (is_in_range (range_of n) q && nat_le n q) then 0 else old q) x ∙ ap (λ (b : Bool). if b && nat_le n q then 0 else old q) its ∙ ap (λ (b : Bool). if b then 0 else old q) z

    its_range : head_blocks ≤ q → range_of q ≡ range_of n → is_in_range (range_of n) q ≡ true
    its_range ge e = subst (λ (j : ℕ). is_in_range j q ≡ true) e (in_its_range q ge)

    by : (q < head_blocks) ⊎ (head_blocks ≤ q) → (q < head_blocks) ⊎ (kept_maps n ≤ range_of q)
    by (inl lt) = inl lt
    by (inr ge) = inr (elim (cases_eq (range_of q) (range_of n)) [
      | inl same ↦ absurd (there (gone (its_range ge same)))
      | inr ne ↦ other_range n q late ge ne high
    ])

-- ---- a head without blocks

module _ (t : TableView) (is : IsTable t) (f : FileNo) (slot : ℕ) (place : IsPlaceOf t f slot) where
  free_here : IsLeastFree t.free_heads slot → is_free (head_in t.heads slot) ≡ true
  free_here least =
      let lt : slot < length t.free_heads.flags = set_below t.free_heads.flags slot least.is_free_itself in
      sym (is.free_heads slot (let counted = is.head_count in omega (arith, lt, counted))) ∙ least.is_free_itself

  own_below : is_of f (head_in t.heads slot) ≡ true → slot < t.counts.heads
  own_below own = elim (cases_lt slot (length t.heads)) [
    | inl lt ↦ let s = is.slots in omega (arith, s, lt)
    | inr past ↦ absurd (true≢false (sym own ∙ ap (is_of f) (get_or_past t.heads slot Free past)))
  ]

  pub place_below : slot < t.counts.heads
  place_below = ⊎_elim (λ own. own_below own) (λ other. let lt = set_below t.free_heads.flags slot other.1.is_free_itself in let counted = is.head_count in let goal : slot < t.counts.heads = omega (arith, lt, counted) in goal) place

  only : (j : ℕ) → is_of f (head_in t.heads j) ≡ true → j ≡ slot
  only j e = ⊎_elim (λ own. is.heads.files f j slot e own) (λ other. absurd (true≢false (sym e ∙ absent_none f t.heads other.0 j))) place

  no_file : (g : FileNo) (h : Head) → is_free h ≡ true → is_of g h ≡ false
  no_file g Free e = refl
  no_file g (Used k xs maps) e = absurd (true≢false (sym e))

  old_of : (g : FileNo) → file_eq f g ≡ false → is_layout_of g (layout_in t slot) ≡ false
  old_of g ne = ⊎_elim (λ own. layout_tells f g (layout_in t slot) (layout_own t f slot ∙ own) ne) (λ other. layout_own t g slot ∙ no_file g (head_in t.heads slot) (free_here other.1)) place

  module _ (h : Head) (empty : (q : ℕ) → at_cell (layout_by (kept_entry t.maps) h) q ≡ 0) (of : (g : FileNo) → is_of g h ≡ true → g ≡ f) (head : IsHeadOf t.counts.leaves h)
      (room : is_free (head_in t.heads slot) ≡ true → is_free h ≡ false → t.free_heads.promised < free_count t.free_heads) where
    pub may_empty : MayPutHead t slot h 0
    may_empty = record {
      below = place_below;
      limit = omega arith;
      head = head;
      file = λ g j e d. only j (subst (λ (x : FileNo). is_of x (head_in t.heads j) ≡ true) (of g e) d);
      room = room;
      cells = λ q. empty q ∙ sym (kept_none (at_cell (layout_in t slot)) q);
    }

  same_number : (g : FileNo) → file_eq f g ≡ true → g ≡ f
  same_number g e = grind (arith, nat_tests, e)

  pub may_fresh : f.0 < 2 ^ 32 → (exists t.heads f ≡ false → t.free_heads.promised < free_count t.free_heads) → MayPutHead t slot (fresh_head f) 0
  may_fresh small room = may_empty (fresh_head f) (λ q. fresh_cells (kept_entry t.maps) f q) (λ g e. same_number g e)
      (record { is_head = record { whole = refl; within_leaves = ap (λ (b : Bool). b && all_within t.counts.leaves (replicate most_maps 0)) (zeros_within head_blocks t.counts.leaves) ∙ zeros_within most_maps t.counts.leaves }; fits = small })
      (λ free now. ⊎_elim (λ own. absurd (true≢false (sym free ∙ not_free f (head_in t.heads slot) own))) (λ other. room other.0) place)

  pub may_gone : MayPutHead t slot Free 0
  may_gone = may_empty Free (λ q. refl) (λ g e. absurd (true≢false (sym e))) (record { is_head = record { whole = refl; within_leaves = refl }; fits = tt }) (λ free now. absurd (true≢false now))

  -- what becomes of the files
  module _ (h : Head) (may : MayPutHead t slot h 0) where
    turning : Turns t slot (slice_set t.heads slot h) t.maps (layout_by (kept_entry t.maps) h) Nothing (HeadGoes t.maps 0 (head_in t.heads slot))
    turning = turns_head t is slot h 0 may

    under : slot < length (layouts_in t)
    under = there t slot (slice_set t.heads slot h) t.maps (layout_by (kept_entry t.maps) h) Nothing (HeadGoes t.maps 0 (head_in t.heads slot)) turning is

    only_layout : (j : ℕ) → is_layout_of f (layout_in t j) ≡ true → j ≡ slot
    only_layout j e = only j (sym (layout_own t f j) ∙ e)

  pub fresh_changes : MayPutHead t slot (fresh_head f) 0 → IsChange t (slice_set t.heads slot (fresh_head f)) t.maps (λ leaves. created f)
  fresh_changes may leaves = ap (λ (l : List Layout). files_of l leaves) (turning (fresh_head f) may).layouts
      ∙ becomes_fresh (layouts_in t) slot (layout_by (kept_entry t.maps) (fresh_head f)) f (under (fresh_head f) may) (only_layout (fresh_head f) may) old_of (λ g ne. ne) (λ a. take 448 (leaves a)) (let same : file_eq f f ≡ true = grind (arith, nat_tests) in same) (λ q. fresh_cells (kept_entry t.maps) f q)

  pub gone_changes : MayPutHead t slot Free 0 → IsChange t (slice_set t.heads slot Free) t.maps (λ leaves. removed f)
  gone_changes may leaves = ap (λ (l : List Layout). files_of l leaves) (turning Free may).layouts
      ∙ becomes_gone (layouts_in t) slot Unused f (under Free may) (only_layout Free may) old_of (λ g ne. refl) (λ a. take 448 (leaves a)) refl

-- ---- a cut after the put of the map page that it falls inside of

pub cut_then : (t : TableView) → IsTable t → (slot n d : ℕ) → slot < t.counts.heads → head_blocks ≤ n → n < most_blocks → head_map (head_in t.heads slot) (range_of n) ≡ suc d
    → (u : TableView) → IsChanged t t.heads (slice_set t.maps d (cut_addresses (n % head_blocks) (row_at t.maps d))) u → IsCutInside (layout_in u slot) n
cut_then t is slot n d below high low named u changed =
    let its : layout_in u slot ≡ with_row (range_of n) (λ k. slice_index (cut_addresses (n % head_blocks) (row_at t.maps d)) k) (layout_in t slot) =
    ap (λ (l : List (List ℕ)). layout_at (layouts_of l u.heads) slot) changed.maps ∙ ap (λ (l : List Head). layout_at (layouts_of (slice_set t.maps d (cut_addresses (n % head_blocks) (row_at t.maps d))) l) slot) changed.heads
    ∙ turns_here t slot t.heads (slice_set t.maps d (cut_addresses (n % head_blocks) (row_at t.maps d))) (with_row (range_of n) (λ k. slice_index (cut_addresses (n % head_blocks) (row_at t.maps d)) k) (layout_in t slot)) Nothing
    (λ b. (k : ℕ) × (slice_index (drop (n % head_blocks) (row_at t.maps d)) k ≡ suc b)) (turns_cut_row t is slot n d below high low named) is in
    cut_behind (layout_in u slot) n (at_cell (layout_in t slot)) high (λ q. ap (λ (l : Layout). at_cell l q) its ∙ cut_row_cells t is slot n d below high low named q)

-- ---- a data page that becomes a block, and one that becomes its map page

pub may_set : (t : TableView) → IsTable t → (f : FileNo) (slot q a : ℕ) → slot < t.counts.heads → is_of f (head_in t.heads slot) ≡ true → is_held t a ≡ true
    → ((j r : ℕ) → at_cell (layout_in t j) r ≡ suc a → (is_of f (head_in t.heads j) ≡ true) × (r ≡ q)) → MaySet t slot q a
may_set t is f slot q a below own held elsewhere = record {
  below = below;
  used = not_free f (head_in t.heads slot) own;
  held = held;
  elsewhere = λ j r at. let there = elsewhere j r at in (is.heads.files f j slot there.0 own, there.1);
}

-- no map page is there where the head has no address for it
pub no_map_there : (t : TableView) → IsTable t → (f : FileNo) (slot j : ℕ) → is_of f (head_in t.heads slot) ≡ true → head_map (head_in t.heads slot) j ≡ 0 → maps_in t.heads f j ≡ false
no_map_there t is f slot j own none = maps_there f t.heads slot j own (λ k e. is.heads.files f k slot e own) ∙ ap (λ (a : ℕ). nat_lt 0 a) none

pub may_set_map : (t : TableView) → IsTable t → (v : StoreView) (f : FileNo) (slot p a m : ℕ) → slot < t.counts.heads → is_of f (head_in t.heads slot) ≡ true → head_blocks ≤ p → p < most_blocks → head_map (head_in t.heads slot) (range_of p) ≡ 0
    → MayBecome t v f p a → MayBring t f p a m → MaySetMap t slot p a (m - 1)
may_set_map t is v f slot p a m below own high low absent become bring =
    let page_is : bring.page ≡ m - 1 = let e = bring.is in omega (arith, e) in
    subst (λ (d : ℕ). MaySetMap t slot p a d) page_is (record {
      block = high;
      range = low;
      absent = absent;
      leaf = may_set t is f slot p a below own become.held become.elsewhere;
      map = may_set t is f slot (map_cell (range_of p)) bring.page below own bring.held bring.elsewhere;
      differs = bring.differs;
    })

-- What pages say, and a store that holds them: the files of pages are those of the layouts that they say.
use Rattle.jn_files.proofs.Common.{◌≡◌, inl, inr, ◌<◌, ◌≤◌, ◌+◌, ◌-◌, ◌^◌, ℕ, zero, suc, Bool, true, false, List, [], ◌∷◌, length, drop, take, Option, Some, None, refl, sym, ap, subst, ◌∙◌, arith, slice_index, option_map, option_and_then, if◌then◌else◌, nat_lt, find, fun_ext, mod-lt, cases_lt, and_parts, nat_tests, FileNo, BlockNo, LockUnit, File, Block, head_blocks, most_maps, most_blocks, most_cells, there, Head, Free, Used, FileFits, IsHead, has_page, within, Layout, Of, at_cell, through, laid, kept_entry, layout_by, layout_at, head_map, behind, is_layout_of, block_at, Counts, Pages, head_place, data_place, page_count, is_head_of, entry_in, head_from, head_of, block_behind, address_by, files_of_pages, same-map, StoreView, IsOnly, IsSamePage, IsChoice, choice_only, some_choice, head_in, is_of, row_at, layouts_of, files_of, IsHeadOf, AreRows, AreHeads, address_for, or_unused, Says, leaves_in, IsLeaf, HoldsHeads, files_in, layouts_on}
use Rattle.std.specs.Prelude.{◌/◌, ◌%◌}
unfoldable use Rattle.jn_records.specs.Heads.{head_page, map_page}
use Rattle.jn_records.specs.StablePages.{block_in}
use Rattle.jn_records.proofs.HeadPages.{free_unused, used_kind, used_file, used_address, used_map, map_entry}
use Rattle.jn_files.proofs.Cells.{cell_below}
use Rattle.jn_files.proofs.Cutting.{list_within, past_list, maps_length, map_page_below}
use Rattle.jn_files.proofs.Lookup.{when_true, when_false, layout_is, find_layout, found_by, named_by}

-- ---- where heads and rows lead

-- no map page past the last
pub map_past : (h : Head) (j : ℕ) → has_page h ≡ true → most_maps ≤ j → head_map h j ≡ 0
map_past Free j e past = refl
map_past (Used f xs maps) j e past = past_list maps j (let long = maps_length f xs maps e in omega (arith, long, past))

pub named_below : (g : Counts) (rows : List (List ℕ)) (heads : List Head) → AreHeads g.leaves rows heads → (slot q a : ℕ) → at_cell (layout_at (layouts_of rows heads) slot) q ≡ suc a → a < g.leaves
named_below g rows heads are slot q a e =
    (cell_below g.leaves rows (head_in heads slot) (are.each slot) are.map_rows q a (ap (λ (h : Layout). at_cell h q) (sym (layout_is (kept_entry rows) heads slot)) ∙ e)).1

pub map_below : (g : Counts) (rows : List (List ℕ)) (heads : List Head) → AreHeads g.leaves rows heads → (slot j d : ℕ) → head_map (head_in heads slot) j ≡ suc d → d < g.leaves
map_below g rows heads are slot j d e = map_page_below g.leaves (head_in heads slot) (are.each slot) j d e

-- ---- what pages say

-- the rows are the entries on these pages, where heads name them as map pages
module _ (g : Counts) (pages : Pages) (rows : List (List ℕ)) (small : g.leaves < 2 ^ 16) (are_rows : AreRows g.leaves rows) where
  abbrev pub AreSaid : Head → Type 0
  AreSaid h = (j d : ℕ) → j < most_maps → head_map h j ≡ suc d → pages (data_place g d) ≡ map_page (row_at rows d)

  entry_said : (d k : ℕ) → d < g.leaves → k < head_blocks → pages (data_place g d) ≡ map_page (row_at rows d) → entry_in (pages (data_place g d)) k ≡ kept_entry rows d k
  entry_said d k below low e = let row = are_rows.each d below in map_entry g.leaves (pages (data_place g d)) small (row_at rows d) row.count row.within_leaves e k low

  through_said : (address k : ℕ) → address ≤ g.leaves → k < head_blocks → ((d : ℕ) → address ≡ suc d → pages (data_place g d) ≡ map_page (row_at rows d))
      → through (λ d. entry_in (pages (data_place g d))) address k ≡ through (kept_entry rows) address k
  through_said zero k le low said = refl
  through_said (suc d) k le low said = entry_said d k (omega (arith, le)) low (said d refl)

  range_below : (q : ℕ) → nat_lt q most_blocks ≡ true → nat_lt q head_blocks ≡ false → q / 120 - 1 < 20
  range_below q h k = grind (arith, nat_tests, h, k)

  laid_said : (f : FileNo) (xs maps : List ℕ) → within g.leaves (Used f xs maps) ≡ true → AreSaid (Used f xs maps) → (q : ℕ)
      → laid (λ d. entry_in (pages (data_place g d))) (λ p. slice_index xs p) (λ j. slice_index maps j) q ≡ laid (kept_entry rows) (λ p. slice_index xs p) (λ j. slice_index maps j) q
  laid_said f xs maps e said q = by (nat_lt q head_blocks) refl (nat_lt q most_blocks) refl
    where
      by : (x : Bool) → nat_lt q head_blocks ≡ x → (y : Bool) → nat_lt q most_blocks ≡ y
          → (if x then slice_index xs q else if y then through (λ d. entry_in (pages (data_place g d))) (slice_index maps (q / head_blocks - 1)) (q % head_blocks) else (if nat_lt q most_cells then slice_index maps (q - most_blocks) else 0))
          ≡ (if x then slice_index xs q else if y then through (kept_entry rows) (slice_index maps (q / head_blocks - 1)) (q % head_blocks) else (if nat_lt q most_cells then slice_index maps (q - most_blocks) else 0))
      by true h y k = refl
      by false h true k = through_said (slice_index maps (q / 120 - 1)) (q % 120) (list_within g.leaves maps (q / 120 - 1) (and_parts _ _ e).1) (mod-lt q (omega arith)) (λ d. said (q / 120 - 1) d (range_below q k h))
      by false h false k = refl

  layout_said : (h : Head) → within g.leaves h ≡ true → AreSaid h → layout_by (λ d. entry_in (pages (data_place g d))) h ≡ layout_by (kept_entry rows) h
  layout_said Free e said = refl
  layout_said (Used f xs maps) e said = ap (λ cells. Of f cells) (fun_ext (laid_said f xs maps e said))

  pub layouts_said : (heads : List Head) → ((slot : ℕ) → IsHeadOf g.leaves (head_in heads slot)) → ((slot : ℕ) → AreSaid (head_in heads slot)) → layouts_on g heads pages ≡ layouts_of rows heads
  layouts_said heads are said = same-map (layout_by (kept_entry rows)) (layout_by (λ d. entry_in (pages (data_place g d)))) heads Free
      (λ slot. layout_said (head_in heads slot) (are slot).is_head.within_leaves (said slot))

  -- the block of a head's page
  block_said : (p : BlockNo) (f : FileNo) (xs maps : List ℕ) → IsHead g.leaves (Used f xs maps) → FileFits (Used f xs maps) → AreSaid (Used f xs maps)
      → block_in g pages p (head_page (Used f xs maps)) ≡ block_at (λ a. take 448 (leaves_in g pages a)) p (layout_by (kept_entry rows) (Used f xs maps))
  block_said p f xs maps is fits said = by (nat_lt p.0 most_blocks) refl
    where
      address : nat_lt p.0 most_blocks ≡ true → address_by g pages (head_page (Used f xs maps)) p.0 ≡ laid (kept_entry rows) (λ q. slice_index xs q) (λ j. slice_index maps j) p.0
      address below = at (nat_lt p.0 head_blocks) refl ∙ laid_said f xs maps is.within_leaves said p.0
        where
          at : (x : Bool) → nat_lt p.0 head_blocks ≡ x → address_by g pages (head_page (Used f xs maps)) p.0 ≡ laid (λ d. entry_in (pages (data_place g d))) (λ q. slice_index xs q) (λ j. slice_index maps j) p.0
          at true h = rw h (used_address g.leaves (head_page (Used f xs maps)) small f xs maps is fits refl p.0 (grind (arith, nat_tests, h)))
          at false h = rw (h, below) (ap (λ a. through (λ d. entry_in (pages (data_place g d))) a (p.0 % head_blocks)) (used_map g.leaves (head_page (Used f xs maps)) small f xs maps is fits refl (p.0 / head_blocks - 1) (range_below p.0 below h)))

      same : (a : ℕ) → block_behind g pages a ≡ behind (λ d. take 448 (leaves_in g pages d)) a
      same zero = refl
      same (suc a) = refl

      by : (x : Bool) → nat_lt p.0 most_blocks ≡ x → (if x then block_behind g pages (address_by g pages (head_page (Used f xs maps)) p.0) else None) ≡ (if x then behind (λ d. take 448 (leaves_in g pages d)) (laid (kept_entry rows) (λ q. slice_index xs q) (λ j. slice_index maps j) p.0) else None)
      by true h = ap (λ a. block_behind g pages a) (address h) ∙ same (laid (kept_entry rows) (λ q. slice_index xs q) (λ j. slice_index maps j) p.0)
      by false h = refl

-- ---- the files of pages

pub page_is_of : (leaves : ℕ) → leaves < 2 ^ 16 → (f : FileNo) (h : Head) → IsHeadOf leaves h → is_head_of f (head_page h) ≡ is_of f h
page_is_of leaves small f Free is = rw (free_unused leaves (head_page Free) small refl) refl
page_is_of leaves small f (Used g xs maps) is =
    rw (used_kind leaves (head_page (Used g xs maps)) small g xs maps is.is_head is.fits refl, used_file leaves (head_page (Used g xs maps)) small g xs maps is.is_head is.fits refl) refl

module _ (g : Counts) (pages : Pages) (small : g.leaves < 2 ^ 16) (f : FileNo) where
  head_search : (heads : List Head) (i : ℕ) → ((j : ℕ) → j < length heads → pages (head_place g (i + j)) ≡ head_page (head_in heads j)) → ((j : ℕ) → IsHeadOf g.leaves (head_in heads j))
      → head_from g pages f i (length heads) ≡ option_map head_page (find (is_of f) heads)
  head_search [] i says are = refl
  head_search (h ∷ heads) i says are =
      by (head_search heads (i + 1) (λ j lt. ap (λ (k : ℕ). pages (head_place g k)) (let e : i + 1 + j ≡ i + suc j = omega arith in e) ∙ says (suc j) (omega (arith, lt))) (λ j. are (suc j))) (is_of f h) refl
    where
      here : pages (head_place g i) ≡ head_page h
      here = ap (λ (k : ℕ). pages (head_place g k)) (let e : i ≡ i + 0 = omega arith in e) ∙ says 0 (omega arith)

      test : is_head_of f (pages (head_place g i)) ≡ is_of f h
      test = ap (is_head_of f) here ∙ page_is_of g.leaves small f h (are 0)

      by : head_from g pages f (i + 1) (length heads) ≡ option_map head_page (find (is_of f) heads) → (b : Bool) → is_of f h ≡ b → head_from g pages f i (suc (length heads)) ≡ option_map head_page (find (is_of f) (h ∷ heads))
      by later true e =
          when_true (is_head_of f (pages (head_place g i))) (Some (pages (head_place g i))) (head_from g pages f (i + 1) (length heads)) (test ∙ e)
          ∙ ap (λ (x : List ℕ). Some x) here
          ∙ sym (ap (option_map head_page) (when_true (is_of f h) (Some h) (find (is_of f) heads) e))
      by later false e =
          when_false (is_head_of f (pages (head_place g i))) (Some (pages (head_place g i))) (head_from g pages f (i + 1) (length heads)) (test ∙ e)
          ∙ later ∙ sym (ap (option_map head_page) (when_false (is_of f h) (Some h) (find (is_of f) heads) e))

module _ (g : Counts) (rows : List (List ℕ)) (heads : List Head) (pages : Pages) (slots : length heads ≡ g.heads) (small : g.leaves < 2 ^ 16) (are : AreHeads g.leaves rows heads) (says : Says g pages rows heads) where
  its_head : (f : FileNo) → head_of g pages f ≡ option_map head_page (find (is_of f) heads)
  its_head f = ap (λ (n : ℕ). head_from g pages f 0 n) (sym slots)
      ∙ head_search g pages small f heads 0 (λ j lt. ap (λ (k : ℕ). pages (head_place g k)) (let e : 0 + j ≡ j = omega arith in e) ∙ says.of_heads j lt) are.each

  abbrev blocks : ℕ → List ℕ
  blocks a = take 448 (leaves_in g pages a)

  block_found : (f : FileNo) (p : BlockNo) (o : Option Head) → find (is_of f) heads ≡ o → option_and_then (block_in g pages p) (option_map head_page o) ≡ option_and_then (block_at blocks p) (option_map (layout_by (kept_entry rows)) o)
  block_found f p None e = refl
  block_found f p (Some Free) e = absurd (let none : is_of f Free ≡ true = (found_by f heads Free e).3 in cc none)
  block_found f p (Some (Used k xs maps)) e =
      let at = found_by f heads (Used k xs maps) e in
      let is : IsHeadOf g.leaves (Used k xs maps) = subst (IsHeadOf g.leaves) at.2 (are.each at.0) in
      block_said g pages rows small are.map_rows p k xs maps is.is_head is.fits (λ j d lt n. says.of_maps at.0 j d lt (ap (λ (h : Head). head_map h j) at.2 ∙ n))

  file_found : (o : Option Head) → option_map (λ (head : List ℕ). there) (option_map head_page o) ≡ option_map (λ (h : Layout). there) (option_map (layout_by (kept_entry rows)) o)
  file_found None = refl
  file_found (Some h) = refl

  unit_found : (u : LockUnit) → files_of_pages g pages u ≡ files_of (layouts_of rows heads) (leaves_in g pages) u
  unit_found (File f) = ap (option_map (λ (head : List ℕ). there)) (its_head f) ∙ file_found (find (is_of f) heads) ∙ sym (ap (option_map (λ (h : Layout). there)) (find_layout (kept_entry rows) f heads))
  unit_found (Block f p) = ap (option_and_then (block_in g pages p)) (its_head f) ∙ block_found f p (find (is_of f) heads) refl ∙ sym (ap (option_and_then (block_at blocks p)) (find_layout (kept_entry rows) f heads))

  pub files_said : files_of_pages g pages ≡ files_of (layouts_of rows heads) (leaves_in g pages)
  files_said = fun_ext unit_found

-- what stands behind a block that is below the limit
pub block_behind_is : (rows : List (List ℕ)) (heads : List Head) (leaves : ℕ → List ℕ) (f : FileNo) (p : BlockNo) → p.0 < most_blocks
    → files_of (layouts_of rows heads) leaves (Block f p) ≡ behind (λ a. take 448 (leaves a)) (address_for (layouts_of rows heads) f p.0)
block_behind_is rows heads leaves f p below = by (find (is_layout_of f) (layouts_of rows heads))
  where
    low : nat_lt p.0 most_blocks ≡ true
    low = grind (arith, nat_tests, below)

    by : (o : Option Layout) → option_and_then (block_at (λ a. take 448 (leaves a)) p) o ≡ behind (λ a. take 448 (leaves a)) (at_cell (or_unused o) p.0)
    by None = refl
    by (Some h) = rw low refl

-- files read the data pages of blocks alone
pub same_leaves : (rows : List (List ℕ)) (heads : List Head) (a b : ℕ → List ℕ) → ((slot p k : ℕ) → p < most_blocks → at_cell (layout_at (layouts_of rows heads) slot) p ≡ suc k → a k ≡ b k)
    → files_of (layouts_of rows heads) a ≡ files_of (layouts_of rows heads) b
same_leaves rows heads a b same = fun_ext at
  where
    block : (f : FileNo) (p : ℕ) → p < most_blocks → (x : ℕ) → address_for (layouts_of rows heads) f p ≡ x → behind (λ k. take 448 (a k)) x ≡ behind (λ k. take 448 (b k)) x
    block f p below zero e = refl
    block f p below (suc k) e = let named = named_by f (kept_entry rows) heads p k e in ap (λ (l : List ℕ). Some (take 448 l)) (same named.0 p k below named.1)

    past : (f : FileNo) (p : BlockNo) → most_blocks ≤ p.0 → (leaves : ℕ → List ℕ) → files_of (layouts_of rows heads) leaves (Block f p) ≡ None
    past f p le leaves = by (find (is_layout_of f) (layouts_of rows heads))
      where
        high : nat_lt p.0 most_blocks ≡ false
        high = grind (arith, nat_tests, le)

        by : (o : Option Layout) → option_and_then (block_at (λ k. take 448 (leaves k)) p) o ≡ None
        by None = refl
        by (Some h) = rw high refl

    at : (u : LockUnit) → files_of (layouts_of rows heads) a u ≡ files_of (layouts_of rows heads) b u
    at (File f) = refl
    at (Block f p) = elim (cases_lt p.0 most_blocks) [
      | inl lt ↦ block_behind_is rows heads a f p lt ∙ block f p.0 lt (address_for (layouts_of rows heads) f p.0) refl ∙ sym (block_behind_is rows heads b f p lt)
      | inr le ↦ past f p le a ∙ sym (past f p le b)
    ]

-- ---- a store that holds them

module _ (g : Counts) (rows : List (List ℕ)) (heads : List Head) (v : StoreView) (slots : length heads ≡ g.heads) (small : g.leaves < 2 ^ 16) (are : AreHeads g.leaves rows heads) (fits : v.count ≡ page_count g) (holds : HoldsHeads g rows heads v) where
  pub says_choice : (c : Pages) → IsChoice v c → Says g c rows heads
  says_choice c choice = record {
    of_heads = λ slot lt. choice_only v c (head_place g slot) (head_page (head_in heads slot)) choice (omega (arith, lt, slots, fits)) (holds.stored slot lt);
    of_maps = λ slot j d lt e. choice_only v c (data_place g d) (map_page (row_at rows d)) choice (let below = map_below g rows heads are slot j d e in omega (arith, below, fits)) (holds.maps slot j d lt e);
  }

  pub leaf_choice : (c : Pages) (a : ℕ) → IsChoice v c → a < g.leaves → IsLeaf v (data_place g a) → c (data_place g a) ≡ v.first (data_place g a)
  leaf_choice c a choice lt leaf = choice_only v c (data_place g a) (v.first (data_place g a)) choice (omega (arith, lt, fits)) (record { first = refl; second = sym leaf.clean })

  pub files_first : files_in g v ≡ files_of (layouts_of rows heads) (leaves_in g v.first)
  files_first = files_said g rows heads v.first slots small are (says_choice v.first (some_choice v))

pub same_leaf : (v w : StoreView) (i : ℕ) → IsSamePage v w i → IsLeaf v i → IsLeaf w i
same_leaf v w i same leaf = record { clean = same.first ∙ leaf.clean ∙ sym same.second; tail = ap (drop 448) same.first ∙ leaf.tail }

pub same_only : (v w : StoreView) (i : ℕ) (page : List ℕ) → IsSamePage v w i → IsOnly v i page → IsOnly w i page
same_only v w i page same only = record { first = same.first ∙ only.first; second = same.second ∙ only.second }

-- The cells of layouts, as what stands on the pages of heads and on map pages.
use Rattle.jn_page_state.proofs.Common.{◌≡◌, ⊎_elim, ◌<◌, ◌≤◌, ◌^◌, ◌&&◌, ℕ, zero, suc, Bool, true, List, [], ◌∷◌, sym, ap, ◌∙◌, true≢false, arith, nat_eq, nat_le, slice_index, list_all, cases_lt, nat_tests, get_or, FileNo, Head, FreeHead, Used, all_within, IsHead, IsMapPage, Counts, Pages, head_place, data_place, is_used, file_in, address_in, map_in, entry_in, NamesMap, IsWholeMap, head_blocks, most_maps, Unused, map_cell, at_cell, through, layout_by, layouts_by, layout_at, is_layout_of, head_page, head_is_read, FileFits, head_in, entry_of, head_or_free, head_on, heads_on, block_on, IsHeadPage, Addresses, free_unused, used_kind, used_file, used_address, used_map, map_entry, block_entry, map-cell-is}
use Rattle.jn_page_state.proofs.MapPages.{head_is_on, past_listed}
use Rattle.jn_page_state.proofs.Laying.{entry_cell, own_at, entry_at, layout_is, CellKind, IsOwn, IsEntry, IsMap, cell_kind}

-- ---- one head

-- The address that the head at a place has for cell q, by the page on which it stands: in the head, in one of its map pages, or
-- that of a map page.
pub data Cell (g : Counts) (pages : Pages) (i q a : ℕ) : Type 0 where
  HeadCell : q < head_blocks → address_in (pages (head_place g i)) q ≡ a → Cell g pages i q a
  EntryCell : (j d k : ℕ) → j < most_maps → k < head_blocks → q ≡ entry_cell j k → map_in (pages (head_place g i)) j ≡ suc d → entry_in (pages (data_place g d)) k ≡ a → Cell g pages i q a
  MapCell : (j : ℕ) → j < most_maps → q ≡ map_cell j → map_in (pages (head_place g i)) j ≡ a → Cell g pages i q a

module _ (g : Counts) (pages : Pages) (few : g.leaves < 2 ^ 16) (i : ℕ) where
  module _ (f : FileNo) (xs maps : List ℕ) (is : IsHead g.leaves (Used f xs maps)) (fits : FileFits (Used f xs maps)) (e : pages (head_place g i) ≡ head_page (Used f xs maps)) where
    map_there : (j : ℕ) → j < most_maps → map_in (pages (head_place g i)) j ≡ slice_index maps j
    map_there j low = used_map g.leaves (pages (head_place g i)) few f xs maps is fits e j low

    stands : (q a : ℕ) → at_cell (layout_by (entry_of (block_on g pages)) (Used f xs maps)) q ≡ suc a → Cell g pages i q (suc a)
    stands q a t = by (cell_kind (entry_of (block_on g pages)) (Used f xs maps) q a t)
      where
        by : CellKind (entry_of (block_on g pages)) (Used f xs maps) q (suc a) → Cell g pages i q (suc a)
        by (IsOwn low) = HeadCell low (used_address g.leaves (pages (head_place g i)) few f xs maps is fits e q low ∙ sym (own_at (entry_of (block_on g pages)) f xs maps q low) ∙ t)
        by (IsEntry j d k low below is_at names at) = EntryCell j d k low below is_at (map_there j low ∙ names) (sym (block_entry (pages (data_place g d)) k below) ∙ at)
        by (IsMap j low is_at at) = MapCell j low is_at (map_there j low ∙ at)

    has : (q a : ℕ) → Cell g pages i q (suc a) → at_cell (layout_by (entry_of (block_on g pages)) (Used f xs maps)) q ≡ suc a
    has q a (HeadCell low at) = own_at (entry_of (block_on g pages)) f xs maps q low ∙ sym (used_address g.leaves (pages (head_place g i)) few f xs maps is fits e q low) ∙ at
    has q a (EntryCell j d k low below is_at names at) =
        ap (λ c. at_cell (layout_by (entry_of (block_on g pages)) (Used f xs maps)) c) is_at
        ∙ entry_at (entry_of (block_on g pages)) (Used f xs maps) j k low below
        ∙ ap (λ n. through (entry_of (block_on g pages)) n k) (sym (map_there j low) ∙ names)
        ∙ block_entry (pages (data_place g d)) k below ∙ at
    has q a (MapCell j low is_at at) = ap (λ c. at_cell (layout_by (entry_of (block_on g pages)) (Used f xs maps)) c) is_at ∙ map-cell-is (entry_of (block_on g pages)) (Used f xs maps) j low ∙ sym (map_there j low) ∙ at

  of_layout : (h : Head) → IsHead g.leaves h → FileFits h → pages (head_place g i) ≡ head_page h → (q a : ℕ) → at_cell (layout_by (entry_of (block_on g pages)) h) q ≡ suc a
      → (is_used (pages (head_place g i)) ≡ true) × Cell g pages i q (suc a)
  of_layout FreeHead is fits e q a t = absurd (omega (arith, t))
  of_layout (Used f xs maps) is fits e q a t = (used_kind g.leaves (pages (head_place g i)) few f xs maps is fits e, stands f xs maps is fits e q a t)

  in_layout : (h : Head) → IsHead g.leaves h → FileFits h → pages (head_place g i) ≡ head_page h → (q a : ℕ) → is_used (pages (head_place g i)) ≡ true
      → Cell g pages i q (suc a) → at_cell (layout_by (entry_of (block_on g pages)) h) q ≡ suc a
  in_layout FreeHead is fits e q a used t = absurd (true≢false (sym used ∙ free_unused g.leaves (pages (head_place g i)) few e))
  in_layout (Used f xs maps) is fits e q a used t = has f xs maps is fits e q a t

  of_file : (h : Head) → IsHead g.leaves h → FileFits h → pages (head_place g i) ≡ head_page h → (maps : ℕ → ℕ → ℕ) (f : FileNo) → is_layout_of f (layout_by maps h) ≡ true
      → (is_used (pages (head_place g i)) ≡ true) × (file_in (pages (head_place g i)) ≡ f.0)
  of_file FreeHead is fits e maps f t = absurd (true≢false (sym t))
  of_file (Used k xs ms) is fits e maps f t = (used_kind g.leaves (pages (head_place g i)) few k xs ms is fits e, used_file g.leaves (pages (head_place g i)) few k xs ms is fits e ∙ same t)
    where
      same : nat_eq k.0 f.0 ≡ true → k.0 ≡ f.0
      same h = grind (arith, nat_tests, h)

  has_file : (h : Head) → IsHead g.leaves h → FileFits h → pages (head_place g i) ≡ head_page h → (maps : ℕ → ℕ → ℕ) (f : FileNo) → is_used (pages (head_place g i)) ≡ true → file_in (pages (head_place g i)) ≡ f.0
      → is_layout_of f (layout_by maps h) ≡ true
  has_file FreeHead is fits e maps f used at = absurd (true≢false (sym used ∙ free_unused g.leaves (pages (head_place g i)) few e))
  has_file (Used k xs ms) is fits e maps f used at = same (sym (used_file g.leaves (pages (head_place g i)) few k xs ms is fits e) ∙ at)
    where
      same : k.0 ≡ f.0 → nat_eq k.0 f.0 ≡ true
      same h = grind (arith, nat_tests, h)

-- where heads stand on the same pages, they name the same map pages
pub names_same : (g : Counts) (one two : Pages) → ((i : ℕ) → i < g.heads → one (head_place g i) ≡ two (head_place g i)) → (d : ℕ) → NamesMap g one d → NamesMap g two d
names_same g one two same d n = record {
  head = n.head;
  at = n.at;
  is_head = n.is_head;
  used = ap is_used (sym (same n.head n.is_head)) ∙ n.used;
  below = n.below;
  names = ap (λ page. map_in page n.at) (sym (same n.head n.is_head)) ∙ n.names;
}

-- ---- lists within the data pages

within_at : (leaves : ℕ) (xs : List ℕ) (k : ℕ) → all_within leaves xs ≡ true → get_or xs k 0 ≤ leaves
within_at leaves [] zero all = omega arith
within_at leaves [] (suc k) all = omega arith
within_at leaves (x ∷ xs) zero all = grind (arith, nat_tests, all)
within_at leaves (x ∷ xs) (suc k) all = within_at leaves xs k (rest (nat_le x leaves) (list_all (λ a. nat_le a leaves) xs) all)
  where
    rest : (a b : Bool) → (a && b) ≡ true → b ≡ true
    rest a b h = grind (arith, h)

-- ---- all heads

module _ (g : Counts) (pages : Pages) (few : g.leaves < 2 ^ 16) (format : (i : ℕ) → i < g.heads → IsHeadPage g.leaves (pages (head_place g i))) where
  pub head_stands : (i : ℕ) (lt : i < g.heads) → head_in (heads_on g pages) i ≡ (format i lt).0
  head_stands i lt = let h = format i lt in head_is_on g pages few format i lt ∙ ap head_or_free (head_is_read g.leaves (pages (head_place g i)) h.0 few h.1 h.2 h.3)

  layout_stands : (maps : ℕ → ℕ → ℕ) (i : ℕ) (lt : i < g.heads) → layout_at (layouts_by maps (heads_on g pages)) i ≡ layout_by maps (format i lt).0
  layout_stands maps i lt = layout_is maps (heads_on g pages) i ∙ ap (layout_by maps) (head_stands i lt)

  none_past : (maps : ℕ → ℕ → ℕ) (i : ℕ) → g.heads ≤ i → layout_at (layouts_by maps (heads_on g pages)) i ≡ Unused
  none_past maps i past = layout_is maps (heads_on g pages) i ∙ ap (layout_by maps) (past_listed (head_on g pages) FreeHead 0 g.heads i past)

  -- an address of a layout, on pages
  pub cell_stands : (i q a : ℕ) → Addresses (layouts_by (entry_of (block_on g pages)) (heads_on g pages)) i q a → (i < g.heads) × (is_used (pages (head_place g i)) ≡ true) × Cell g pages i q (suc a)
  cell_stands i q a t = ⊎_elim
      (λ lt. let h = format i lt in let at = of_layout g pages few i h.0 h.1 h.2 h.3 q a (sym (ap (λ n. at_cell n q) (layout_stands (entry_of (block_on g pages)) i lt)) ∙ t) in (lt, at.0, at.1))
      (λ past. absurd (nothing a (sym (ap (λ n. at_cell n q) (none_past (entry_of (block_on g pages)) i past)) ∙ t)))
      (cases_lt i g.heads)
    where
      nothing : (a : ℕ) → 0 ≡ suc a → ⊥
      nothing a h = omega (arith, h)

  -- and back
  pub cell_of_page : (i q a : ℕ) → i < g.heads → is_used (pages (head_place g i)) ≡ true → Cell g pages i q (suc a) → Addresses (layouts_by (entry_of (block_on g pages)) (heads_on g pages)) i q a
  cell_of_page i q a lt used cell = let h = format i lt in ap (λ n. at_cell n q) (layout_stands (entry_of (block_on g pages)) i lt) ∙ in_layout g pages few i h.0 h.1 h.2 h.3 q a used cell

  -- the file of a layout, on its page
  pub file_stands : (maps : ℕ → ℕ → ℕ) (i : ℕ) (f : FileNo) → is_layout_of f (layout_at (layouts_by maps (heads_on g pages)) i) ≡ true → (i < g.heads) × (is_used (pages (head_place g i)) ≡ true) × (file_in (pages (head_place g i)) ≡ f.0)
  file_stands maps i f t = ⊎_elim
      (λ lt. let h = format i lt in let at = of_file g pages few i h.0 h.1 h.2 h.3 maps f (sym (ap (is_layout_of f) (layout_stands maps i lt)) ∙ t) in (lt, at.0, at.1))
      (λ past. absurd (true≢false (sym t ∙ ap (is_layout_of f) (none_past maps i past))))
      (cases_lt i g.heads)

  pub file_of_page : (maps : ℕ → ℕ → ℕ) (i : ℕ) (f : FileNo) → i < g.heads → is_used (pages (head_place g i)) ≡ true → file_in (pages (head_place g i)) ≡ f.0 → is_layout_of f (layout_at (layouts_by maps (heads_on g pages)) i) ≡ true
  file_of_page maps i f lt used at = let h = format i lt in ap (is_layout_of f) (layout_stands maps i lt) ∙ has_file g pages few i h.0 h.1 h.2 h.3 maps f used at

  -- the addresses of a used head are of data pages that there are
  address_fits : (i k a : ℕ) → i < g.heads → is_used (pages (head_place g i)) ≡ true → k < head_blocks → address_in (pages (head_place g i)) k ≡ suc a → a < g.leaves
  address_fits i k a lt used below t = let h = format i lt in by h.0 h.1 h.2 h.3
    where
      left : (x y : Bool) → (x && y) ≡ true → x ≡ true
      left x y h = grind (arith, h)

      by : (h : Head) → IsHead g.leaves h → FileFits h → pages (head_place g i) ≡ head_page h → a < g.leaves
      by FreeHead is fits e = absurd (true≢false (sym used ∙ free_unused g.leaves (pages (head_place g i)) few e))
      by (Used f xs maps) is fits e =
          let at = sym (used_address g.leaves (pages (head_place g i)) few f xs maps is fits e k below) ∙ t in
          let fit = within_at g.leaves xs k (left (all_within g.leaves xs) (all_within g.leaves maps) is.within_leaves) in
          omega (arith, at, fit)

  pub map_fits : (i j d : ℕ) → i < g.heads → is_used (pages (head_place g i)) ≡ true → j < most_maps → map_in (pages (head_place g i)) j ≡ suc d → d < g.leaves
  map_fits i j d lt used below t = let h = format i lt in by h.0 h.1 h.2 h.3
    where
      right : (x y : Bool) → (x && y) ≡ true → y ≡ true
      right x y h = grind (arith, h)

      by : (h : Head) → IsHead g.leaves h → FileFits h → pages (head_place g i) ≡ head_page h → d < g.leaves
      by FreeHead is fits e = absurd (true≢false (sym used ∙ free_unused g.leaves (pages (head_place g i)) few e))
      by (Used f xs maps) is fits e =
          let at = sym (used_map g.leaves (pages (head_place g i)) few f xs maps is fits e j below) ∙ t in
          let fit = within_at g.leaves maps j (right (all_within g.leaves xs) (all_within g.leaves maps) is.within_leaves) in
          omega (arith, at, fit)

  -- and so those of a layout, where its map pages are whole
  pub cell_within : ((d : ℕ) → IsWholeMap g pages d) → (i q a : ℕ) → Addresses (layouts_by (entry_of (block_on g pages)) (heads_on g pages)) i q a → a < g.leaves
  cell_within whole_map i q a t = let at = cell_stands i q a t in by at.0 at.1 at.2
    where
      entry : (k : ℕ) → k < head_blocks → (page : List ℕ) → entry_in page k ≡ suc a → IsMapPage g.leaves page → a < g.leaves
      entry k below page here is =
          let at = sym (map_entry g.leaves page few is.entries is.row.count is.row.within_leaves is.is_page k below) ∙ here in
          let fit = within_at g.leaves is.entries k is.row.within_leaves in
          omega (arith, at, fit)

      by : i < g.heads → is_used (pages (head_place g i)) ≡ true → Cell g pages i q (suc a) → a < g.leaves
      by lt used (HeadCell low at) = address_fits i q a lt used low at
      by lt used (MapCell j low is_at at) = map_fits i j a lt used low at
      by lt used (EntryCell j d k low within is_at names at) = entry k within (pages (data_place g d)) at
          (whole_map d (map_fits i j d lt used low names) (record { head = i; at = j; is_head = lt; used = used; below = low; names = names }))

-- What stands at the cells of layouts: which data pages there are, and which map pages they follow from.
use Rattle.jn_recovery.proofs.Common.{◌≡◌, ⊎_elim, ◌<◌, ◌≤◌, ◌-◌, ℕ, zero, suc, Bool, true, false, if◌then◌else◌, List, [], ◌∷◌, refl, sym, ◌∙◌, ap, arith, fun_ext, cases_lt, nat_tests, nat_lt, slice_index, FileNo, Head, FreeHead, Used, head_in, heads_name, passes_any, passes_at, PassesOnce, ◌/◌, ◌%◌, head_blocks, most_maps, most_blocks, most_cells, IsHeadOf, AreHeads, layouts_of, row_at, all_within, within, Layout, Unused, Of, map_cell, at_cell, through, laid, kept_entry, layout_by, layouts_by, layout_at, is_layout_of, has_address, head_map, get-map, laid-block, laid-entry, laid-map, laid-past, has-at, has-found, file-at, and_parts}
use Rattle.std.proofs.Math.Nat.{mod-lt}

-- ---- a head and its layout

pub at_place : (maps : ℕ → ℕ → ℕ) (heads : List Head) (i : ℕ) → layout_at (layouts_by maps heads) i ≡ layout_by maps (head_in heads i)
at_place maps heads i = get-map (layout_by maps) heads i FreeHead

-- ---- each address is that of a data page that there is

pub address_at : (leaves : ℕ) (xs : List ℕ) (k : ℕ) → all_within leaves xs ≡ true → slice_index xs k ≤ leaves
address_at leaves [] k h = omega arith
address_at leaves (x ∷ xs) zero h = grind (arith, nat_tests, h)
address_at leaves (x ∷ xs) (suc k) h = address_at leaves xs k (grind (arith, h))

module _ (leaves : ℕ) where
  -- a head's map pages are data pages that there are
  pub map_below : (h : Head) (j d : ℕ) → within leaves h ≡ true → head_map h j ≡ suc d → d < leaves
  map_below FreeHead j d w e = absurd (omega (arith, e))
  map_below (Used f xs ms) j d w e = let le = address_at leaves ms j (and_parts (all_within leaves xs) (all_within leaves ms) w).1 in omega (arith, le, e)

  module _ (maps : ℕ → ℕ → ℕ) where
    -- and these lead to such
    abbrev pub LeadIn : Head → Type 0
    LeadIn h = (j d k : ℕ) → j < most_maps → head_map h j ≡ suc d → k < head_blocks → maps d k ≤ leaves

    through_below : (a k : ℕ) → ((d : ℕ) → a ≡ suc d → maps d k ≤ leaves) → through maps a k ≤ leaves
    through_below zero k h = omega arith
    through_below (suc d) k h = h d refl

    pub cell_fits : (h : Head) (q : ℕ) → within leaves h ≡ true → LeadIn h → at_cell (layout_by maps h) q ≤ leaves
    cell_fits FreeHead q w lead = omega arith
    cell_fits (Used f xs ms) q w lead = ⊎_elim
        (λ low. let le = address_at leaves xs q (and_parts (all_within leaves xs) (all_within leaves ms) w).0 in let e = laid-block maps blocks its_maps q low in omega (arith, le, e))
        (λ high. ⊎_elim
        (λ below. let le = through_below (its_maps (q / head_blocks - 1)) (q % head_blocks) (λ d e. lead (q / head_blocks - 1) d (q % head_blocks) (range_below q high below) e (rest_below q)) in
        let e = laid-entry maps blocks its_maps q high below in omega (arith, le, e))
        (λ past. ⊎_elim
        (λ inside. let le = address_at leaves ms (q - 2520) (and_parts (all_within leaves xs) (all_within leaves ms) w).1 in
        let is : q ≡ map_cell (q - 2520) = omega (arith, past) in
        let e = ap (laid maps blocks its_maps) is ∙ laid-map maps blocks its_maps (q - 2520) (omega (arith, inside, past)) in omega (arith, le, e))
        (λ behind. let e = laid-past maps blocks its_maps q behind in omega (arith, e))
        (cases_lt q most_cells))
        (cases_lt q most_blocks))
        (cases_lt q head_blocks)
      where
        blocks : ℕ → ℕ
        blocks p = slice_index xs p

        its_maps : ℕ → ℕ
        its_maps j = slice_index ms j

        range_below : (q : ℕ) → head_blocks ≤ q → q < most_blocks → q / 120 - 1 < 20
        range_below q high below = grind (arith, high, below)

        rest_below : (q : ℕ) → q % 120 < 120
        rest_below q = mod-lt q (omega arith)

-- ---- a layout follows from its own map pages

module _ (leaves : ℕ) (m n : ℕ → ℕ → ℕ) where
  through_same : (a k : ℕ) → ((d : ℕ) → a ≡ suc d → m d k ≡ n d k) → through m a k ≡ through n a k
  through_same zero k h = refl
  through_same (suc d) k h = h d refl

  pub same_layout : (h : Head) → ((j d k : ℕ) → head_map h j ≡ suc d → k < head_blocks → m d k ≡ n d k) → layout_by m h ≡ layout_by n h
  same_layout FreeHead same = refl
  same_layout (Used f xs ms) same = ap (λ cells. Of f cells) (fun_ext (λ q. by q (nat_lt q head_blocks) (nat_lt q most_blocks)))
    where
      rest_below : (q : ℕ) → q % 120 < 120
      rest_below q = mod-lt q (omega arith)

      entry : (q : ℕ) → through m (slice_index ms (q / 120 - 1)) (q % 120) ≡ through n (slice_index ms (q / 120 - 1)) (q % 120)
      entry q = through_same (slice_index ms (q / 120 - 1)) (q % 120) (λ d e. same (q / 120 - 1) d (q % 120) e (rest_below q))

      by : (q : ℕ) (x y : Bool)
          → (if x then slice_index xs q else if y then through m (slice_index ms (q / head_blocks - 1)) (q % head_blocks) else (if nat_lt q most_cells then slice_index ms (q - most_blocks) else 0))
          ≡ (if x then slice_index xs q else if y then through n (slice_index ms (q / head_blocks - 1)) (q % head_blocks) else (if nat_lt q most_cells then slice_index ms (q - most_blocks) else 0))
      by q true y = refl
      by q false true = entry q
      by q false false = refl

  pub same_layouts : (heads : List Head) → ((i j d k : ℕ) → head_map (head_in heads i) j ≡ suc d → k < head_blocks → m d k ≡ n d k) → layouts_by m heads ≡ layouts_by n heads
  same_layouts [] same = refl
  same_layouts (h ∷ hs) same = ap (λ (l : Layout). l ∷ layouts_by m hs) (same_layout h (λ j d k. same 0 j d k)) ∙ ap (λ (ls : List Layout). layout_by n h ∷ ls) (same_layouts hs (λ i j d k. same (suc i) j d k))

-- ---- the table's heads

module _ (leaves : ℕ) (rows : List (List ℕ)) (heads : List Head) (are : AreHeads leaves rows heads) where
  -- no cell leads past the last data page
  pub table_fits : (i q : ℕ) → at_cell (layout_at (layouts_of rows heads) i) q ≤ leaves
  table_fits i q = fits (head_in heads i) (are.each i) (at_place (kept_entry rows) heads i)
    where
      fits : (h : Head) → IsHeadOf leaves h → layout_at (layouts_of rows heads) i ≡ layout_by (kept_entry rows) h → at_cell (layout_at (layouts_of rows heads) i) q ≤ leaves
      fits h is e = let le = cell_fits leaves (kept_entry rows) h q is.is_head.within_leaves (λ j d k below names low. address_at leaves (row_at rows d) k (are.map_rows.each d (map_below leaves h j d is.is_head.within_leaves names)).within_leaves) in
          let same = ap (λ l. at_cell l q) e in omega (arith, le, same)

  pub table_below : (i q a : ℕ) → at_cell (layout_at (layouts_of rows heads) i) q ≡ suc a → a < leaves
  table_below i q a e = let le = table_fits i q in omega (arith, le, e)

  -- no file has two layouts
  pub one_layout : (f : FileNo) → PassesOnce (λ i. is_layout_of f (layout_at (layouts_of rows heads) i))
  one_layout f i j x y = are.files f i j (sym (file-at (kept_entry rows) f heads i) ∙ x) (sym (file-at (kept_entry rows) f heads j) ∙ y)

-- ---- a data page that some layout has at a cell is named

-- an unused place has no address
none_unused : (n a : ℕ) → has_address n (suc a) Unused ≡ false
none_unused n a = by (has_address n (suc a) Unused) refl
  where
    by : (b : Bool) → has_address n (suc a) Unused ≡ b → b ≡ false
    by true e = let at = has-found Unused n (suc a) e in let none : 0 ≡ suc a = at.2 in absurd (omega (arith, none))
    by false e = refl

pub named_cell : (layouts : List Layout) (n i q a : ℕ) → q < n → at_cell (layout_at layouts i) q ≡ suc a → heads_name n layouts (suc a) ≡ true
named_cell layouts n i q a below e = passes_any (has_address n (suc a)) Unused layouts i (none_unused n a) (has-at (layout_at layouts i) n (suc a) q below e)

-- and there is no address past the last cell
past_cell : (maps : ℕ → ℕ → ℕ) (h : Head) (q : ℕ) → most_cells ≤ q → at_cell (layout_by maps h) q ≡ 0
past_cell maps FreeHead q past = refl
past_cell maps (Used f xs ms) q past = laid-past maps (λ p. slice_index xs p) (λ j. slice_index ms j) q past

pub cell_below : (maps : ℕ → ℕ → ℕ) (heads : List Head) (i q a : ℕ) → at_cell (layout_at (layouts_by maps heads) i) q ≡ suc a → q < most_cells
cell_below maps heads i q a e = ⊎_elim
    (λ below. below)
    (λ past. let none = past_cell maps (head_in heads i) q past in let same = ap (λ l. at_cell l q) (at_place maps heads i) in absurd (omega (arith, none, same, e)))
    (cases_lt q most_cells)

pub cell_named : (layouts : List Layout) (n a : ℕ) → heads_name n layouts (suc a) ≡ true → (i : ℕ) × (q : ℕ) × (q < n) × (at_cell (layout_at layouts i) q ≡ suc a)
cell_named layouts n a named = let at = passes_at (has_address n (suc a)) Unused layouts named in let cell = has-found (layout_at layouts at.0) n (suc a) at.1 in (at.0, cell.0, cell.1, cell.2)

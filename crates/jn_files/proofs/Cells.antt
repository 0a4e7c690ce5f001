-- The cells of heads' layouts: whose block or map page each is, and that none leads past the data pages.
use Rattle.jn_files.proofs.Common.{◌≡◌, ◌<◌, ◌≤◌, ◌-◌, ◌%◌, ℕ, zero, suc, List, refl, ap, ◌∙◌, inl, inr, arith, slice_index, cases_lt, head_blocks, most_maps, most_blocks, most_cells, Head, Free, Used, at_cell, map_cell, through, kept_entry, layout_by, layout_at, head_map, laid-block, laid-entry, laid-past, map-cell-is, get-map, head_in, row_at, layouts_of, IsHeadOf, AreRows, range_of, head_address}
use Rattle.jn_files.proofs.Cutting.{list_within, within_parts}

-- ---- heads and rows

pub map_within : (leaves : ℕ) (h : Head) (j : ℕ) → IsHeadOf leaves h → head_map h j ≤ leaves
map_within leaves Free j is = omega arith
map_within leaves (Used f xs maps) j is = list_within leaves maps j (within_parts leaves f xs maps is.is_head.within_leaves).1

pub entry_within : (leaves : ℕ) (rows : List (List ℕ)) (address k : ℕ) → AreRows leaves rows → address ≤ leaves → through (kept_entry rows) address k ≤ leaves
entry_within leaves rows zero k are low = omega arith
entry_within leaves rows (suc d) k are low = list_within leaves (row_at rows d) k (are.each d (omega arith)).within_leaves

-- ---- a layout's cells

pub layout_is : (rows : List (List ℕ)) (heads : List Head) (slot : ℕ) → layout_at (layouts_of rows heads) slot ≡ layout_by (kept_entry rows) (head_in heads slot)
layout_is rows heads slot = get-map (layout_by (kept_entry rows)) heads slot Free

module _ (maps : ℕ → ℕ → ℕ) where
  pub block_cell : (h : Head) (p : ℕ) → p < head_blocks → at_cell (layout_by maps h) p ≡ head_address h p
  block_cell Free p below = refl
  block_cell (Used f xs ms) p below = laid-block maps (λ k. slice_index xs k) (λ j. slice_index ms j) p below

  pub entry_cell : (h : Head) (p : ℕ) → head_blocks ≤ p → p < most_blocks → at_cell (layout_by maps h) p ≡ through maps (head_map h (range_of p)) (p % head_blocks)
  entry_cell Free p past below = refl
  entry_cell (Used f xs ms) p past below = laid-entry maps (λ k. slice_index xs k) (λ j. slice_index ms j) p past below

  pub page_cell : (h : Head) (j : ℕ) → j < most_maps → at_cell (layout_by maps h) (map_cell j) ≡ head_map h j
  page_cell h j below = map-cell-is maps h j below

  pub past_cell : (h : Head) (q : ℕ) → most_cells ≤ q → at_cell (layout_by maps h) q ≡ 0
  past_cell Free q past = refl
  past_cell (Used f xs ms) q past = laid-past maps (λ k. slice_index xs k) (λ j. slice_index ms j) q past

-- which cell it is
pub data CellCase (q : ℕ) : Type 0 where
  InHead : q < head_blocks → CellCase q
  InMap : head_blocks ≤ q → q < most_blocks → CellCase q
  OfMap : (j : ℕ) → j < most_maps → q ≡ map_cell j → CellCase q
  Past : most_cells ≤ q → CellCase q

pub cell_case : (q : ℕ) → CellCase q
cell_case q = elim (cases_lt q head_blocks) [
  | inl low ↦ InHead low
  | inr past ↦ elim (cases_lt q most_blocks) [
    | inl below ↦ InMap past below
    | inr high ↦ elim (cases_lt q most_cells) [
      | inl map ↦ OfMap (q - most_blocks) (omega arith) (omega arith)
      | inr over ↦ Past over
    ]
  ]
]

module _ (leaves : ℕ) (rows : List (List ℕ)) (h : Head) (is : IsHeadOf leaves h) (are : AreRows leaves rows) where
  head_within : (g : Head) → IsHeadOf leaves g → (p : ℕ) → head_address g p ≤ leaves
  head_within Free of p = omega arith
  head_within (Used f xs maps) of p = list_within leaves xs p (within_parts leaves f xs maps of.is_head.within_leaves).0

  -- no address is past the data pages
  pub cell_within : (q : ℕ) → at_cell (layout_by (kept_entry rows) h) q ≤ leaves
  cell_within q = by (cell_case q)
    where
      by : CellCase q → at_cell (layout_by (kept_entry rows) h) q ≤ leaves
      by (InHead low) = rw (block_cell (kept_entry rows) h q low) (head_within h is q)
      by (InMap past below) = rw (entry_cell (kept_entry rows) h q past below) (entry_within leaves rows (head_map h (range_of q)) (q % head_blocks) are (map_within leaves h (range_of q) is))
      by (OfMap j low e) = let here : at_cell (layout_by (kept_entry rows) h) q ≡ head_map h j = ap (at_cell (layout_by (kept_entry rows) h)) e ∙ page_cell (kept_entry rows) h j low in let m = map_within leaves h j is in omega arith
      by (Past over) = let none = past_cell (kept_entry rows) h q over in omega arith

  pub cell_below : (q a : ℕ) → at_cell (layout_by (kept_entry rows) h) q ≡ suc a → (q < most_cells) × (a < leaves)
  cell_below q a e = elim (cases_lt q most_cells) [
    | inl lt ↦ (lt, (let w = cell_within q in omega arith))
    | inr ge ↦ absurd (let none = past_cell (kept_entry rows) h q ge in omega arith)
  ]

-- What a head says with its map pages, cell by cell.
use Rattle.jn_page_state.proofs.Common.{◌≡◌, ◌<◌, ◌≤◌, ◌+◌, ◌*◌, ◌-◌, ◌/◌, ◌%◌, ℕ, zero, suc, Bool, true, false, if◌then◌else◌, List, slice_index, slice_index_or, refl, sym, ◌∙◌, ap, arith, fun_ext, nat_lt, nat_tests, FileNo, Head, FreeHead, Used, head_blocks, most_maps, most_blocks, most_cells, Layout, Of, map_cell, at_cell, through, laid, layout_by, layouts_by, layout_at, head_map, heads_name, get-map, same-map, laid-block, laid-entry, laid-past, map-cell-is}
use Rattle.std.proofs.Math.Nat.{mod-lt}
use Rattle.jn_page_state.proofs.Naming.{cell_named, named_cell}

-- ---- the blocks of map pages

-- entry k of map page j
abbrev pub entry_cell : ℕ → ℕ → ℕ
entry_cell j k = 120 * (j + 1) + k

module _ (j k : ℕ) (below : k < head_blocks) where
  low : k < 120
  low = below

  pub its_page : entry_cell j k / head_blocks - 1 ≡ j
  its_page = omega (arith, low)

  pub its_entry : entry_cell j k % head_blocks ≡ k
  its_entry = omega (arith, low)

  pub past_head : head_blocks ≤ entry_cell j k
  past_head = omega arith

  pub cell_below : j < most_maps → entry_cell j k < most_blocks
  cell_below h = let few : j < 20 = h in omega (arith, low, few)

module _ (q : ℕ) (past : head_blocks ≤ q) (below : q < most_blocks) where
  from : 120 ≤ q
  from = past

  to : q < 2520
  to = below

  pub range_below : q / head_blocks - 1 < most_maps
  range_below = omega (arith, from, to)

  pub entry_below : q % head_blocks < head_blocks
  entry_below = mod-lt q (omega arith)

  pub its_parts : entry_cell (q / head_blocks - 1) (q % head_blocks) ≡ q
  its_parts = omega (arith, from)

-- ---- the cells

pub own_at : (maps : ℕ → ℕ → ℕ) (f : FileNo) (xs ms : List ℕ) (q : ℕ) → q < head_blocks → at_cell (layout_by maps (Used f xs ms)) q ≡ slice_index xs q
own_at maps f xs ms q below = laid-block maps (λ p. slice_index xs p) (λ j. slice_index ms j) q below

pub entry_at : (maps : ℕ → ℕ → ℕ) (h : Head) (j k : ℕ) → j < most_maps → k < head_blocks → at_cell (layout_by maps h) (entry_cell j k) ≡ through maps (head_map h j) k
entry_at maps FreeHead j k few below = refl
entry_at maps (Used f xs ms) j k few below = laid-entry maps (λ p. slice_index xs p) (λ i. slice_index ms i) (entry_cell j k) (past_head j k below) (cell_below j k below few)
    ∙ ap (λ (i : ℕ). through maps (slice_index ms i) (entry_cell j k % head_blocks)) (its_page j k below) ∙ ap (λ (i : ℕ). through maps (slice_index ms j) i) (its_entry j k below)

-- a cell with a data page is that of a block in the head, of one in a map page, or of a map page
pub data CellKind (maps : ℕ → ℕ → ℕ) (h : Head) (q a : ℕ) : Type 0 where
  IsOwn : q < head_blocks → CellKind maps h q a
  IsEntry : (j d k : ℕ) → j < most_maps → k < head_blocks → q ≡ entry_cell j k → head_map h j ≡ suc d → maps d k ≡ a → CellKind maps h q a
  IsMap : (j : ℕ) → j < most_maps → q ≡ map_cell j → head_map h j ≡ a → CellKind maps h q a

pub cell_kind : (maps : ℕ → ℕ → ℕ) (h : Head) (q d : ℕ) → at_cell (layout_by maps h) q ≡ suc d → CellKind maps h q (suc d)
cell_kind maps FreeHead q d e = absurd (omega (arith, e))
cell_kind maps (Used f xs ms) q d e = by (nat_lt q head_blocks) refl (nat_lt q most_blocks) refl (nat_lt q most_cells) refl
  where
    h : Head
    h = Used f xs ms

    inside : (n : ℕ) → nat_lt q n ≡ true → q < n
    inside n t = grind (arith, nat_tests, t)

    outside : (n : ℕ) → nat_lt q n ≡ false → n ≤ q
    outside n t = grind (arith, nat_tests, t)

    entry : (past : head_blocks ≤ q) (below : q < most_blocks) (a : ℕ) → head_map (Used f xs ms) (q / head_blocks - 1) ≡ a → through maps a (q % head_blocks) ≡ suc d → CellKind maps (Used f xs ms) q (suc d)
    entry past below zero at t = absurd (omega (arith, t))
    entry past below (suc p) at t = IsEntry (q / head_blocks - 1) p (q % head_blocks) (range_below q past below) (entry_below q past below) (sym (its_parts q past below)) at t

    by : (x : Bool) → nat_lt q head_blocks ≡ x → (y : Bool) → nat_lt q most_blocks ≡ y → (z : Bool) → nat_lt q most_cells ≡ z → CellKind maps (Used f xs ms) q (suc d)
    by true s y t z u = IsOwn (inside head_blocks s)
    by false s true t z u = entry (outside head_blocks s) (inside most_blocks t) (head_map (Used f xs ms) (q / head_blocks - 1)) refl
        (sym (laid-entry maps (λ p. slice_index xs p) (λ j. slice_index ms j) q (outside head_blocks s) (inside most_blocks t)) ∙ e)
    by false s false t true u =
        let few : q - most_blocks < most_maps = less q (inside most_cells u) (outside most_blocks t) in
        let is : q ≡ map_cell (q - most_blocks) = back q (outside most_blocks t) in
        IsMap (q - most_blocks) few is (sym (map-cell-is maps (Used f xs ms) (q - most_blocks) few) ∙ ap (at_cell (layout_by maps (Used f xs ms))) (sym is) ∙ e)
      where
        less : (q : ℕ) → q < 2540 → 2520 ≤ q → q - 2520 < 20
        less q a b = omega (arith, a, b)

        back : (q : ℕ) → 2520 ≤ q → q ≡ 2520 + (q - 2520)
        back q b = omega (arith, b)
    by false s false t false u = absurd (none (sym (laid-past maps (λ p. slice_index xs p) (λ j. slice_index ms j) q (outside most_cells u)) ∙ e))
      where
        none : 0 ≡ suc d → ⊥
        none n = omega (arith, n)

-- ---- what a layout looks at

-- cells look at a head's addresses, and at the entries of the map pages that it names
pub laid_as : (old new : ℕ → ℕ → ℕ) (b c m n : ℕ → ℕ) → ((p : ℕ) → p < head_blocks → c p ≡ b p) → ((j : ℕ) → j < most_maps → n j ≡ m j)
    → ((j d k : ℕ) → j < most_maps → k < head_blocks → m j ≡ suc d → new d k ≡ old d k) → (q : ℕ) → laid new c n q ≡ laid old b m q
laid_as old new b c m n blocks maps same q = by (nat_lt q head_blocks) refl (nat_lt q most_blocks) refl (nat_lt q most_cells) refl
  where
    inside : (k : ℕ) → nat_lt q k ≡ true → q < k
    inside k t = grind (arith, nat_tests, t)

    outside : (k : ℕ) → nat_lt q k ≡ false → k ≤ q
    outside k t = grind (arith, nat_tests, t)

    less : (q : ℕ) → q < 2540 → 2520 ≤ q → q - 2520 < 20
    less q a b = omega (arith, a, b)

    leads : (a k : ℕ) → ((d : ℕ) → a ≡ suc d → new d k ≡ old d k) → through new a k ≡ through old a k
    leads zero k h = refl
    leads (suc d) k h = h d refl

    by : (x : Bool) → nat_lt q head_blocks ≡ x → (y : Bool) → nat_lt q most_blocks ≡ y → (z : Bool) → nat_lt q most_cells ≡ z
        → (if x then c q else if y then through new (n (q / head_blocks - 1)) (q % head_blocks) else (if z then n (q - most_blocks) else 0))
        ≡ (if x then b q else if y then through old (m (q / head_blocks - 1)) (q % head_blocks) else (if z then m (q - most_blocks) else 0))
    by true s y t z u = blocks q (inside head_blocks s)
    by false s true t z u =
        let few = range_below q (outside head_blocks s) (inside most_blocks t) in
        ap (λ (a : ℕ). through new a (q % head_blocks)) (maps (q / head_blocks - 1) few)
        ∙ leads (m (q / head_blocks - 1)) (q % head_blocks) (λ d e. same (q / head_blocks - 1) d (q % head_blocks) few (entry_below q (outside head_blocks s) (inside most_blocks t)) e)
    by false s false t true u = maps (q - most_blocks) (less q (inside most_cells u) (outside most_blocks t))
    by false s false t false u = refl

-- where the map pages of a head say the same, it lays out the same
pub same_layout : (old new : ℕ → ℕ → ℕ) (h : Head) → ((j d k : ℕ) → j < most_maps → k < head_blocks → head_map h j ≡ suc d → new d k ≡ old d k) → layout_by new h ≡ layout_by old h
same_layout old new FreeHead same = refl
same_layout old new (Used f xs ms) same = ap (λ n. Of f n) (fun_ext (λ q.
    laid_as old new (λ p. slice_index xs p) (λ p. slice_index xs p) (λ j. slice_index ms j) (λ j. slice_index ms j) (λ p below. refl) (λ j few. refl) same q))

pub same_layouts : (old new : ℕ → ℕ → ℕ) (heads : List Head) → ((i j d k : ℕ) → j < most_maps → k < head_blocks → head_map (slice_index_or heads i FreeHead) j ≡ suc d → new d k ≡ old d k) → layouts_by new heads ≡ layouts_by old heads
same_layouts old new heads same = same-map (layout_by old) (layout_by new) heads FreeHead (λ i. same_layout old new (slice_index_or heads i FreeHead) (λ j d k few below e. same i j d k few below e))

-- ---- the layouts of heads

module _ (maps : ℕ → ℕ → ℕ) (heads : List Head) where
  pub layout_is : (i : ℕ) → layout_at (layouts_by maps heads) i ≡ layout_by maps (slice_index_or heads i FreeHead)
  layout_is i = get-map (layout_by maps) heads i FreeHead

  -- what a head names as a map page stands at the cell of that page
  pub map_at : (i j : ℕ) → j < most_maps → at_cell (layout_at (layouts_by maps heads) i) (map_cell j) ≡ head_map (slice_index_or heads i FreeHead) j
  map_at i j few = ap (λ h. at_cell h (map_cell j)) (layout_is i) ∙ map-cell-is maps (slice_index_or heads i FreeHead) j few

-- ---- which data pages layouts name

pub named_at : (layouts : List Layout) (n i q d : ℕ) → q < n → at_cell (layout_at layouts i) q ≡ suc d → heads_name n layouts (suc d) ≡ true
named_at layouts n i q d below e = cell_named n layouts i q d below e

pub at_named : (layouts : List Layout) (n d : ℕ) → heads_name n layouts (suc d) ≡ true → (i : ℕ) × (q : ℕ) × (q < n) × (at_cell (layout_at layouts i) q ≡ suc d)
at_named layouts n d named = named_cell n layouts d named

-- at more cells they name no less
pub named_more : (layouts : List Layout) (m n d : ℕ) → m ≤ n → heads_name m layouts (suc d) ≡ true → heads_name n layouts (suc d) ≡ true
named_more layouts m n d less named = let at = named_cell m layouts d named in let below : at.1 < m = at.2 in cell_named n layouts at.0 at.1 d (omega (arith, less, below)) at.3

-- a map page of a head is named
pub map_named : (maps : ℕ → ℕ → ℕ) (heads : List Head) (i j d : ℕ) → j < most_maps → head_map (slice_index_or heads i FreeHead) j ≡ suc d → heads_name most_cells (layouts_by maps heads) (suc d) ≡ true
map_named maps heads i j d few e = cell_named most_cells (layouts_by maps heads) i (map_cell j) d (let low : j < 20 = few in omega (arith, low)) (map_at maps heads i j few ∙ e)

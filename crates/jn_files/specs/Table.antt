-- The table of files: which file each head has and where its blocks are, and which data pages are held.
use Rattle.std.specs.Prelude.{◌≡◌, ◌≢◌, ◌↔◌, ◌-◌, ◌/◌, ◌%◌, ℕ, zero, suc, ◌^◌, ◌<◌, Bool, true, false, ◌&&◌, ◌||◌, List, [], ◌∷◌, length, take, replicate, slice_index_or, slice_set, Option, Some, None, is_some, nat_lt, nat_eq, if◌then◌else◌}
use Rattle.std.specs.List.{find}
use Rattle.jn_alloc.specs.Free.{FreeNumbers, count_of, is_free as is_free_number}
use Rattle.jn_base.specs.declared.names.FileNo.{FileNo}
use Rattle.jn_base.specs.Limits.{head_blocks, most_maps, most_blocks}
use Rattle.jn_order.specs.Files.{Files}
use Rattle.jn_records.specs.declared.head.Head.{Head}
use Rattle.jn_records.specs.declared.head.Head.TheVariants.{Free, Used}
use Rattle.jn_records.specs.Heads.{IsHead, FileFits, head_in, is_free, is_of, HaveOneHead, IsMapRow}
use Rattle.jn_records.specs.Layouts.{Layout, Unused, at_cell, kept_entry, layouts_by, layout_at, is_layout_of, files_in, head_map, row_at, AreNamedOnce}
use Rattle.jn_records.specs.StablePages.{Counts}
use Rattle.jn_records.specs.MapPlaces.{range_of}

-- what is seen of a table
pub record TableView : Type 0 where
  -- how many stable pages there are of each kind
  pub counts : Counts
  -- the heads, by slot
  pub heads : List Head
  -- of each data page its entries, where a head names it as a map page; of no meaning else
  pub maps : List (List ℕ)
  -- of each data page, whether it is held: then it isn't free, whatever the heads name
  pub held : List Bool
  -- of each data page, whether it was cleaned or put since the table was loaded
  pub touched : List Bool
  pub free_heads : FreeNumbers
  pub free_leaves : FreeNumbers

-- ---- heads and what they say together with their map pages

abbrev pub layouts_of : List (List ℕ) → List Head → List Layout
layouts_of rows heads = layouts_by (kept_entry rows) heads

abbrev pub layouts_in : TableView → List Layout
layouts_in t = layouts_of t.maps t.heads

abbrev pub layout_in : TableView → ℕ → Layout
layout_in t slot = layout_at (layouts_in t) slot

-- data page a is named by no head and by no map page
abbrev pub IsUnnamed : List Layout → ℕ → Type 0
IsUnnamed layouts a = (slot q : ℕ) → at_cell (layout_at layouts slot) q ≢ suc a

-- each head has a page, and leads to data pages that there are
pub record IsHeadOf (leaves : ℕ) (h : Head) : Type 0 where
  pub is_head : IsHead leaves h
  pub fits : FileFits h

-- and so does each map page
pub record AreRows (leaves : ℕ) (rows : List (List ℕ)) : Type 0 where
  pub count : length rows ≡ leaves
  pub each : (d : ℕ) → d < leaves → IsMapRow leaves (row_at rows d)

pub record AreHeads (leaves : ℕ) (rows : List (List ℕ)) (heads : List Head) : Type 0 where
  pub each : (slot : ℕ) → IsHeadOf leaves (head_in heads slot)
  pub files : HaveOneHead heads
  pub map_rows : AreRows leaves rows
  pub addresses : AreNamedOnce (layouts_of rows heads)

-- ---- what is free

abbrev pub is_held : TableView → ℕ → Bool
is_held t a = slice_index_or t.held a false

-- a data page was cleaned or put since the table was loaded, so a get needs no cleanup before it
abbrev pub is_touched : TableView → ℕ → Bool
is_touched t a = slice_index_or t.touched a false

-- a data page is free where it is neither held nor named
pub record IsFreeLeaf (t : TableView) (a : ℕ) : Type 0 where
  pub below : a < t.counts.leaves
  pub loose : is_held t a ≡ false
  pub unnamed : IsUnnamed (layouts_in t) a

pub record IsTable (t : TableView) : Type 0 where
  pub heads : AreHeads t.counts.leaves t.maps t.heads
  pub slots : length t.heads ≡ t.counts.heads
  pub leaves : length t.held ≡ t.counts.leaves
  pub touches : length t.touched ≡ t.counts.leaves
  pub few_heads : t.counts.heads < 2 ^ 16
  pub few_leaves : t.counts.leaves < 2 ^ 16
  -- the two free lists say what is free
  pub head_count : count_of t.free_heads ≡ t.counts.heads
  pub free_heads : (slot : ℕ) → slot < t.counts.heads → is_free_number t.free_heads slot ≡ is_free (head_in t.heads slot)
  pub leaf_count : count_of t.free_leaves ≡ t.counts.leaves
  pub free_leaves : (a : ℕ) → (is_free_number t.free_leaves a ≡ true) ↔ IsFreeLeaf t a

-- ---- files

abbrev pub exists : List Head → FileNo → Bool
exists heads f = is_some (find (is_of f) heads)

abbrev pub or_unused : Option Layout → Layout
or_unused None = Unused
or_unused (Some h) = h

-- the address at a cell of a file's layout, 0 where there is none
abbrev pub address_for : List Layout → FileNo → ℕ → ℕ
address_for layouts f q = at_cell (or_unused (find (is_layout_of f) layouts)) q

abbrev pub is_mapped : List Layout → FileNo → ℕ → Bool
is_mapped layouts f p = nat_lt p most_blocks && nat_lt 0 (address_for layouts f p)

-- the files of these layouts, where the data pages are these: a block is the first 448 bytes of its data page
abbrev pub files_of : List Layout → (ℕ → List ℕ) → Files
files_of layouts leaves = files_in layouts (λ a. take 448 (leaves a))

-- ---- heads and map pages as they are put

-- a file's head without blocks
abbrev pub fresh_head : FileNo → Head
fresh_head f = Used f (replicate head_blocks 0) (replicate most_maps 0)

-- addresses, without those from one on
abbrev pub cut_addresses : ℕ → List ℕ → List ℕ
cut_addresses n [] = []
cut_addresses zero (x ∷ xs) = 0 ∷ cut_addresses zero xs
cut_addresses (suc n) (x ∷ xs) = x ∷ cut_addresses n xs

-- how many map pages a cut at block n keeps: those whose first block is below it
abbrev pub kept_maps : ℕ → ℕ
kept_maps n = (n - 1) / head_blocks

abbrev pub cut_head : ℕ → Head → Head
cut_head n Free = Free
cut_head n (Used f xs maps) = Used f (cut_addresses n xs) (cut_addresses (kept_maps n) maps)

-- the address of the map page that block n falls inside of, and isn't the first of: 0 where there is none
abbrev pub cut_map : ℕ → Head → ℕ
cut_map n h = if nat_lt n head_blocks || nat_eq (n % head_blocks) 0 then 0 else head_map h (range_of n)

-- a head with data page a for block p
abbrev pub with_leaf : ℕ → ℕ → Head → Head
with_leaf p a Free = Free
with_leaf p a (Used f xs maps) = Used f (slice_set xs p (suc a)) maps

-- a head with data page d as map page j
abbrev pub with_map : ℕ → ℕ → Head → Head
with_map j d Free = Free
with_map j d (Used f xs maps) = Used f xs (slice_set maps j (suc d))

-- a map page with data page a for one block
abbrev pub one_entry : ℕ → ℕ → List ℕ
one_entry k a = slice_set (replicate head_blocks 0) k (suc a)

-- a file's head with these addresses and map addresses, or a free one
abbrev pub head_with : Option FileNo → List ℕ → List ℕ → Head
head_with None xs maps = Free
head_with (Some f) xs maps = Used f xs maps

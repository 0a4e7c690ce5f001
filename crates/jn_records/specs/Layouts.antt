-- What the heads of files say together with their map pages: of each file, where its pages are.
use Rattle.std.specs.Prelude.{◌≡◌, ◌≢◌, ◌<◌, ◌+◌, ◌-◌, ◌%◌, ℕ, zero, suc, Bool, true, false, ◌&&◌, ◌||◌, nat_eq, nat_lt, nat_le, if◌then◌else◌, List, [], map, slice_index, slice_index_or, Option, None, Some, option_map, option_and_then}
use Rattle.std.specs.List.{find}
use Rattle.jn_base.specs.Limits.{head_blocks, most_maps, most_blocks, most_cells}
use Rattle.jn_base.specs.Names.{file_eq}
use Rattle.jn_base.specs.declared.names.BlockNo.{BlockNo}
use Rattle.jn_base.specs.declared.names.FileNo.{FileNo}
use Rattle.jn_base.specs.declared.names.LockUnit.TheVariants.{File, Block}
use Rattle.jn_order.specs.Files.{Files, there}
use Rattle.jn_records.specs.declared.head.Head.{Head}
use Rattle.jn_records.specs.declared.head.Head.TheVariants.{Free, Used}
use Rattle.jn_records.specs.Heads.{head_in}
use Rattle.jn_records.specs.MapPlaces.{is_in_range, range_of}

-- The file that has a head, and of each cell the address there, 0 for none. Cell p is that of block p, and behind the blocks'
-- stand those of the map pages.
pub data Layout : Type 0 where
  Unused : Layout
  Of : FileNo → (ℕ → ℕ) → Layout

abbrev pub map_cell : ℕ → ℕ
map_cell j = most_blocks + j

abbrev pub at_cell : Layout → ℕ → ℕ
at_cell Unused q = 0
at_cell (Of f cells) q = cells q

-- the entry of the map page that an address leads to
abbrev pub through : (ℕ → ℕ → ℕ) → ℕ → ℕ → ℕ
through maps zero k = 0
through maps (suc d) k = maps d k

-- the cells by the addresses of blocks and of map pages in a head, and the entries of each data page as a map page
abbrev pub laid : (ℕ → ℕ → ℕ) → (ℕ → ℕ) → (ℕ → ℕ) → ℕ → ℕ
laid maps blocks head_maps q =
    if nat_lt q head_blocks then blocks q else if nat_lt q most_blocks then through maps (head_maps (range_of q)) (q % head_blocks) else if nat_lt q most_cells then head_maps (q - most_blocks) else 0

-- the entries of a data page as a map page, where each data page has a row
abbrev pub row_at : List (List ℕ) → ℕ → List ℕ
row_at rows d = slice_index_or rows d []

abbrev pub kept_entry : List (List ℕ) → ℕ → ℕ → ℕ
kept_entry rows d k = slice_index (row_at rows d) k

abbrev pub layout_by : (ℕ → ℕ → ℕ) → Head → Layout
layout_by maps Free = Unused
layout_by maps (Used f addresses head_maps) = Of f (laid maps (λ p. slice_index addresses p) (λ j. slice_index head_maps j))

abbrev pub layouts_by : (ℕ → ℕ → ℕ) → List Head → List Layout
layouts_by maps heads = map (layout_by maps) heads

abbrev pub layout_at : List Layout → ℕ → Layout
layout_at layouts i = slice_index_or layouts i Unused

abbrev pub is_layout_of : FileNo → Layout → Bool
is_layout_of f Unused = false
is_layout_of f (Of g cells) = file_eq g f

-- no data page stands at two cells
abbrev pub AreNamedOnce : List Layout → Type 0
AreNamedOnce layouts = (a i p j q : ℕ) → at_cell (layout_at layouts i) p ≡ suc a → at_cell (layout_at layouts j) q ≡ suc a → (i ≡ j) × (p ≡ q)

-- ---- which addresses a layout has

-- the test passes at some number below n
unfoldable pub any_below : ℕ → (ℕ → Bool) → Bool
any_below zero test = false
any_below (suc n) test = test n || any_below n test

-- at one of its first n cells
abbrev pub has_address : ℕ → ℕ → Layout → Bool
has_address n a h = any_below n (λ q. nat_eq (at_cell h q) a)

-- ---- the files

-- what an address leads to: 0 to nothing, and any other to the data page whose index and 1 it is
abbrev pub behind : (ℕ → List ℕ) → ℕ → Option (List ℕ)
behind blocks zero = None
behind blocks (suc d) = Some (blocks d)

abbrev pub block_in : (ℕ → List ℕ) → BlockNo → Layout → Option (List ℕ)
block_in blocks p h = if nat_lt p.0 most_blocks then behind blocks (at_cell h p.0) else None

-- the file of each layout, with the blocks that have an address
abbrev pub files_in : List Layout → (ℕ → List ℕ) → Files
files_in layouts blocks (File f) = option_map (λ h. there) (find (is_layout_of f) layouts)
files_in layouts blocks (Block f p) = option_and_then (block_in blocks p) (find (is_layout_of f) layouts)

-- ---- what one put of a page makes of cells

-- other entries in map page j
abbrev pub with_entries : ℕ → (ℕ → ℕ) → (ℕ → ℕ) → ℕ → ℕ
with_entries j entries cells q = if nat_lt q most_blocks && is_in_range j q then entries (q % head_blocks) else cells q

abbrev pub with_row : ℕ → (ℕ → ℕ) → Layout → Layout
with_row j entries Unused = Unused
with_row j entries (Of f cells) = Of f (with_entries j entries cells)

-- map page j without its blocks from n on: the first put of a cut that falls inside of it
abbrev pub cut_inside : ℕ → ℕ → (ℕ → ℕ) → ℕ → ℕ
cut_inside n j cells q = if nat_lt q most_blocks && (is_in_range j q && nat_le n q) then 0 else cells q

-- ---- whose map page a data page is

abbrev pub head_map : Head → ℕ → ℕ
head_map Free j = 0
head_map (Used f addresses head_maps) j = slice_index head_maps j

-- the head at a place names data page d as map page j, and no other head and no other cell names it as one
pub record IsMapIn (heads : List Head) (d place j : ℕ) : Type 0 where
  pub below : j < most_maps
  pub here : head_map (head_in heads place) j ≡ suc d
  pub alone : (i k : ℕ) → k < most_maps → head_map (head_in heads i) k ≡ suc d → (i ≡ place) × (k ≡ j)

-- no head names data page d as a map page
abbrev pub IsNoMap : List Head → ℕ → Type 0
IsNoMap heads d = (i k : ℕ) → k < most_maps → head_map (head_in heads i) k ≢ suc d

-- the entries of data page d are others, and those of all others stay
pub record IsRowChanged (d : ℕ) (entries : ℕ → ℕ) (old new : ℕ → ℕ → ℕ) : Type 0 where
  pub here : (k : ℕ) → new d k ≡ entries k
  pub others : (e k : ℕ) → e ≢ d → new e k ≡ old e k

-- the first put of a cut at block n of file f that falls inside of map page j
pub record IsPartCut (layouts : List Layout) (f : FileNo) (n : BlockNo) (j place : ℕ) (new : Layout) : Type 0 where
  pub only : (k : ℕ) → is_layout_of f (layout_at layouts k) ≡ true → k ≡ place
  pub serves : is_layout_of f (layout_at layouts place) ≡ true
  pub file_after : is_layout_of f new ≡ true
  pub cells : (q : ℕ) → q < most_blocks → at_cell new q ≡ cut_inside n.0 j (at_cell (layout_at layouts place)) q

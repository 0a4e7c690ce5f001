-- How the table keeps its parts.
use Rattle.std.specs.Prelude.{◌≡◌, ◌≢◌, ◌⊎◌, ◌+◌, ◌*◌, ◌-◌, ◌%◌, ◌^◌, ◌<◌, ◌≤◌, ℕ, zero, suc, Bool, true, false, not, ◌&&◌, nat_eq, nat_lt, nat_le, if◌then◌else◌, List, [], ◌∷◌, length, drop, slice_set, slice_index, slice_index_or, Some, None, Option}
use Rattle.jn_alloc.specs.Free.{FreeNumbers, count_of, free_count, is_free as is_free_number, with_free}
use Rattle.jn_base.specs.declared.names.BlockNo.{BlockNo}
use Rattle.jn_base.specs.declared.names.FileNo.{FileNo}
use Rattle.jn_base.specs.Limits.{head_blocks, most_maps, most_blocks}
use Rattle.jn_index.specs.Numbers.{number_at}
use Rattle.jn_order.specs.Files.{Change, change}
use Rattle.jn_records.specs.declared.head.Head.{Head}
use Rattle.jn_records.specs.declared.head.Head.TheVariants.{Free, Used}
use Rattle.jn_records.specs.Heads.{head_page, map_page, IsMapPage, IsMapRow, head_in, is_free, is_of}
use Rattle.jn_records.specs.Layouts.{Layout, at_cell, head_map, kept_entry, layout_by, layout_at, map_cell, through, row_at}
use Rattle.jn_records.specs.MapPlaces.{is_in_range, range_of}
use Rattle.jn_records.specs.StablePages.{Counts as PageCounts, data_place}
use Rattle.jn_store.specs.DeviceCalls.{cleaned_get_calls}
use Rattle.jn_store.specs.Store.{StoreView, StoreLater, Candidate, Shrinks, IsOnly, IsSamePage, IsCalm, IsWholePage}
use Rattle.jn_files.specs.Pages.{HoldsHeads}
use Rattle.jn_files.specs.Table.{TableView, IsTable, AreHeads, AreRows, IsHeadOf, IsUnnamed, is_held, files_of, layouts_of, layouts_in, layout_in, kept_maps}

abbrev pub table_view : ℕ → List Head → List (List ℕ) → List Bool → List Bool → FreeNumbers → FreeNumbers → TableView
table_view pool heads maps held touched free_heads free_leaves = record {
  counts = record { pool = pool; heads = length heads; leaves = length held };
  heads = heads;
  maps = maps;
  held = held;
  touched = touched;
  free_heads = free_heads;
  free_leaves = free_leaves;
}

-- the address of one of a head's first blocks
abbrev pub head_address : Head → ℕ → ℕ
head_address Free p = 0
head_address (Used f xs maps) p = slice_index xs p

-- ---- which data pages are named

pub record IsNamedPage (layouts : List Layout) (a : ℕ) : Type 0 where
  pub slot : ℕ
  pub cell : ℕ
  pub here : at_cell (layout_at layouts slot) cell ≡ suc a

-- flags of data pages say which of them these layouts name
pub record AreNamed (layouts : List Layout) (named : List Bool) : Type 0 where
  pub set : (a : ℕ) → a < length named → slice_index_or named a false ≡ true → IsNamedPage layouts a
  pub clear : (a : ℕ) → a < length named → slice_index_or named a false ≡ false → IsUnnamed layouts a

-- and a data page is free where it is neither held nor named
pub record AreFree (held named : List Bool) (free : FreeNumbers) : Type 0 where
  pub names : length named ≡ length held
  pub count : count_of free ≡ length held
  pub each : (a : ℕ) → a < length held → is_free_number free a ≡ (not (slice_index_or held a false) && not (slice_index_or named a false))

-- what a table keeps in memory
pub record IsKeptTable (pool : ℕ) (heads : List Head) (maps : List (List ℕ)) (held touched named : List Bool) (free_heads free_leaves : FreeNumbers) : Type 0 where
  pub table : IsTable (table_view pool heads maps held touched free_heads free_leaves)
  pub pages : length named ≡ length held
  pub names : AreNamed (layouts_of maps heads) named

-- the flags once what an address leads to is named, or what these lead to
abbrev pub named_one : ℕ → List Bool → List Bool
named_one address named = if nat_eq address 0 then named else slice_set named (address - 1) true

abbrev pub named_all : List ℕ → List Bool → List Bool
named_all [] named = named
named_all (x ∷ xs) named = named_all xs (named_one x named)

-- what a map page leads to, and itself
abbrev pub named_map : List (List ℕ) → ℕ → List Bool → List Bool
named_map rows zero named = named
named_map rows (suc d) named = named_one (suc d) (named_all (row_at rows d) named)

abbrev pub named_maps : List (List ℕ) → List ℕ → List Bool → List Bool
named_maps rows [] named = named
named_maps rows (m ∷ ms) named = named_maps rows ms (named_map rows m named)

abbrev pub named_head : List (List ℕ) → Head → List Bool → List Bool
named_head rows Free named = named
named_head rows (Used f xs maps) named = named_maps rows maps (named_all xs named)

-- the same of what is named no more
abbrev pub unnamed_one : ℕ → List Bool → List Bool
unnamed_one address named = if nat_eq address 0 then named else slice_set named (address - 1) false

abbrev pub unnamed_all : List ℕ → List Bool → List Bool
unnamed_all [] named = named
unnamed_all (x ∷ xs) named = unnamed_all xs (unnamed_one x named)

abbrev pub unnamed_map : List (List ℕ) → ℕ → List Bool → List Bool
unnamed_map rows zero named = named
unnamed_map rows (suc d) named = unnamed_one (suc d) (unnamed_all (row_at rows d) named)

abbrev pub unnamed_maps : List (List ℕ) → List ℕ → List Bool → List Bool
unnamed_maps rows [] named = named
unnamed_maps rows (m ∷ ms) named = unnamed_maps rows ms (unnamed_map rows m named)

-- by a cut at block n
abbrev pub unnamed_head : List (List ℕ) → ℕ → Head → List Bool → List Bool
unnamed_head rows n Free named = named
unnamed_head rows n (Used f xs maps) named = unnamed_maps rows (drop (kept_maps n) maps) (unnamed_all (drop n xs) named)

abbrev pub given_if : Bool → ℕ → FreeNumbers → FreeNumbers
given_if frees a v = if frees then with_free v a true else v

-- ---- what may be put

-- this is what the heads and the rows of map pages make of the files
abbrev pub IsChange : TableView → List Head → List (List ℕ) → ((ℕ → List ℕ) → Change) → Type 0
IsChange t heads rows c = (leaves : ℕ → List ℕ) → files_of (layouts_of rows heads) leaves ≡ change (c leaves) (files_of (layouts_in t) leaves)

-- a head's blocks from n on are gone, and the map pages whose first block is n or above with all that they lead to
abbrev pub cells_kept : ℕ → (ℕ → ℕ) → ℕ → ℕ
cells_kept n cells q =
    if nat_lt q head_blocks then (if nat_le n q then 0 else cells q) else if nat_lt q most_blocks then (if nat_lt (range_of q) (kept_maps n) then cells q else 0) else if nat_lt (q - most_blocks) (kept_maps n) then cells q else 0

-- a head may take the place of the slot's, which leads to so much less
pub record MayPutHead (t : TableView) (slot : ℕ) (h : Head) (n : ℕ) : Type 0 where
  pub below : slot < t.counts.heads
  pub limit : n < most_blocks
  pub head : IsHeadOf t.counts.leaves h
  pub file : (f : FileNo) (j : ℕ) → is_of f h ≡ true → is_of f (head_in t.heads j) ≡ true → j ≡ slot
  pub room : is_free (head_in t.heads slot) ≡ true → is_free h ≡ false → t.free_heads.promised < free_count t.free_heads
  pub cells : (q : ℕ) → at_cell (layout_by (kept_entry t.maps) h) q ≡ cells_kept n (at_cell (layout_in t slot)) q

-- no block from n on has its address in a map page that a cut at n keeps
abbrev pub IsCutInside : Layout → ℕ → Type 0
IsCutInside h n = (q : ℕ) → q < most_blocks → n ≤ q → at_cell h q ≢ 0 → (q < head_blocks) ⊎ (kept_maps n ≤ range_of q)

-- a data page that is held may stand at a cell of a used slot
pub record MaySet (t : TableView) (slot q a : ℕ) : Type 0 where
  pub below : slot < t.counts.heads
  pub used : is_free (head_in t.heads slot) ≡ false
  pub held : is_held t a ≡ true
  pub elsewhere : (j r : ℕ) → at_cell (layout_in t j) r ≡ suc a → (j ≡ slot) × (r ≡ q)

-- a data page that is held may become the map page of block p, with data page a for the block
pub record MaySetMap (t : TableView) (slot p a d : ℕ) : Type 0 where
  pub block : head_blocks ≤ p
  pub range : p < most_blocks
  pub absent : head_map (head_in t.heads slot) (range_of p) ≡ 0
  pub leaf : MaySet t slot p a
  pub map : MaySet t slot (map_cell (range_of p)) d
  pub differs : d ≢ a

-- one number is free or isn't
pub record Counts (v : FreeNumbers) (slot : ℕ) (is : Bool) (w : FreeNumbers) : Type 0 where
  pub flags : w.flags ≡ slice_set v.flags slot is
  pub promised : w.promised ≡ v.promised

-- ---- loading

-- a place has one candidate, the page of this head
pub record IsHeadAt (v : StoreView) (place leaves : ℕ) (h : Head) : Type 0 where
  pub only : IsOnly v place (head_page h)
  pub head : IsHeadOf leaves h

pub record AreFreeHeads (heads : List Head) (free : FreeNumbers) : Type 0 where
  pub count : count_of free ≡ length heads
  pub promised : free.promised ≡ 0
  pub each : (slot : ℕ) → slot < length heads → is_free_number free slot ≡ is_free (head_in heads slot)

-- data page d is one of a head's first map pages
pub record IsMapOfHead (h : Head) (n d : ℕ) : Type 0 where
  pub map : ℕ
  pub below : map < n
  pub names : head_map h map ≡ suc d

-- or of those of one of the first heads
pub record IsMapOfHeads (heads : List Head) (n d : ℕ) : Type 0 where
  pub slot : ℕ
  pub before : slot < n
  pub of_head : IsMapOfHead (head_in heads slot) most_maps d

abbrev pub one_if : ℕ → ℕ
one_if address = if nat_lt 0 address then 1 else 0

-- each candidate of these data pages is a map page
abbrev pub AreMapPages : PageCounts → (ℕ → Type 0) → StoreView → Type 0
AreMapPages g these v = (d : ℕ) → these d → (page : List ℕ) → Candidate v (data_place g d) page → IsMapPage g.leaves page

-- so many data pages were cleaned and got, these: no other page changes
pub record MapsCleaned (g : PageCounts) (these : ℕ → Type 0) (count : ℕ) (v w : StoreView) : Type 0 where
  pub later : StoreLater v w
  pub calls : w.calls ≤ v.calls + cleaned_get_calls * count
  pub fewer : (i : ℕ) → i < v.count → Shrinks v w i
  pub others : (i : ℕ) → i < v.count → ((d : ℕ) → these d → i ≢ data_place g d) → IsSamePage v w i

-- where no fault waited, both halves of these data pages are good then
abbrev pub MapsMended : PageCounts → (ℕ → Type 0) → StoreView → StoreView → Type 0
MapsMended g these v w = IsCalm v → (d : ℕ) → d < g.leaves → these d → IsWholePage w (data_place g d)

-- a row is what stands at its data page
pub record IsRowRead (g : PageCounts) (w : StoreView) (rows : List (List ℕ)) (d : ℕ) : Type 0 where
  pub only : IsOnly w (data_place g d) (map_page (row_at rows d))
  pub row : IsMapRow g.leaves (row_at rows d)

-- or neither has changed
pub record IsRowKept (g : PageCounts) (v : StoreView) (rows : List (List ℕ)) (w : StoreView) (new : List (List ℕ)) (d : ℕ) : Type 0 where
  pub same : IsSamePage v w (data_place g d)
  pub row : row_at new d ≡ row_at rows d

-- the rows of these data pages were read
pub record MapsRead (g : PageCounts) (these : ℕ → Type 0) (v : StoreView) (rows : List (List ℕ)) (w : StoreView) (new : List (List ℕ)) : Type 0 where
  pub count : length new ≡ length rows
  pub each : (d : ℕ) → d < g.leaves → IsRowRead g w new d ⊎ IsRowKept g v rows w new d
  pub read : (d : ℕ) → d < g.leaves → these d → IsRowRead g w new d

-- of all that heads name
pub record MapsHeld (g : PageCounts) (these : ℕ → Type 0) (rows : List (List ℕ)) (w : StoreView) : Type 0 where
  pub rows_are : AreRows g.leaves rows
  pub read : (d : ℕ) → d < g.leaves → these d → IsRowRead g w rows d

-- what a load reads: the heads that the store holds, and their map pages, which it holds then
pub record IsReadFrom (g : PageCounts) (heads slots : List Head) (rows : List (List ℕ)) (w : StoreView) : Type 0 where
  pub slots_are : slots ≡ heads
  pub heads_are : AreHeads g.leaves rows heads
  pub holds : HoldsHeads g rows heads w

-- the store has power where it had, and no call was stopped
pub record KeepsPower (v w : StoreView) : Type 0 where
  pub power : v.power ≡ true → w.power ≡ true
  pub stops : w.stops ≡ v.stops

-- ---- finding

-- the number of the file that has a head
abbrev pub head_number : Head → Option ℕ
head_number Free = None
head_number (Used f xs maps) = Some f.0

-- an index of the heads has each file's number
pub record AreIndexed (files : List (Option ℕ)) (heads : List Head) : Type 0 where
  pub few : length heads < 2 ^ 16
  pub slots : length files ≡ length heads
  pub each : (slot : ℕ) → number_at files slot ≡ head_number (head_in heads slot)

abbrev pub file_number : Option FileNo → Option ℕ
file_number None = None
file_number (Some f) = Some f.0

-- a head with these rows of map pages has an address for a block
abbrev pub has_block : List (List ℕ) → Head → BlockNo → Bool
has_block rows h p = nat_lt p.0 most_blocks && nat_lt 0 (at_cell (layout_by (kept_entry rows) h) p.0)

-- and so has the map page that an address leads to
abbrev pub has_entry : List (List ℕ) → ℕ → ℕ → BlockNo → Bool
has_entry rows address j p = is_in_range j p.0 && nat_lt 0 (through (kept_entry rows) address (p.0 % head_blocks))

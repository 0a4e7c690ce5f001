-- A store whose records, heads and map pages are known, as while a server is up.
use Rattle.std.specs.Prelude.{◌≡◌, ℕ, suc, ◌<◌, List, [], length, slice_index_or, slice_set}
use Rattle.jn_base.specs.declared.names.ServerNo.{ServerNo}
use Rattle.jn_base.specs.Limits.{most_maps}
use Rattle.jn_records.specs.declared.head.Head.{Head}
use Rattle.jn_records.specs.declared.record.Record.{Record}
use Rattle.jn_records.specs.Heads.{head_page, map_page, IsHead, FileFits, IsMapRow, head_in}
use Rattle.jn_records.specs.Layouts.{Layout, layouts_by, kept_entry, head_map, IsNoMap, row_at}
use Rattle.jn_records.specs.Pages.{root_page, IsRoot}
use Rattle.jn_records.specs.StablePages.{Counts, page_count, head_place, data_place, root_by}
use Rattle.jn_rows.specs.Stable.{Pick}
use Rattle.jn_sets.specs.Pool.{HoldsRecords}
use Rattle.jn_store.specs.Store.{StoreView, IsOnly}
use Rattle.jn_page_state.specs.Contents.{Contents}
use Rattle.jn_page_state.specs.Pages.{block_on, pages_by}
use Rattle.jn_page_state.specs.Puts.{PagePut, RootPut, RecordPut, HeadPut, BlockPut, MapPut}

-- the one candidate of a place of the heads is the page of this head
pub record IsHeadStored (g : Counts) (v : StoreView) (place : ℕ) (h : Head) : Type 0 where
  pub whole : IsHead g.leaves h
  pub fits : FileFits h
  pub only : IsOnly v (head_place g place) (head_page h)

-- the one candidate of data page d is the map page of these addresses
pub record IsMapStored (g : Counts) (v : StoreView) (d : ℕ) (row : List ℕ) : Type 0 where
  pub below : d < g.leaves
  pub whole : IsMapRow g.leaves row
  pub only : IsOnly v (data_place g d) (map_page row)

-- the map pages that a head names are so stored
abbrev pub HasMapsStored : Counts → StoreView → List (List ℕ) → Head → Type 0
HasMapsStored g v rows h = (j d : ℕ) → j < most_maps → head_map h j ≡ suc d → IsMapStored g v d (row_at rows d)

-- Root, records, heads and the map pages that heads name have one candidate each, and these are they: the root is of either
-- version.
pub record IsHeld (server : ServerNo) (g : Counts) (v : StoreView) (epoch : ℕ) (records : List Record) (heads : List Head) (rows : List (List ℕ)) : Type 0 where
  pub count : page_count g ≡ v.count
  pub version : ℕ
  pub root_fits : IsRoot (record (root_by server g epoch) { version = version })
  pub root : IsOnly v 0 (root_page (record (root_by server g epoch) { version = version }))
  pub slots : length records ≡ g.pool
  pub pool : HoldsRecords records v
  pub places : length heads ≡ g.heads
  pub heads_stored : (place : ℕ) → place < g.heads → IsHeadStored g v place (head_in heads place)
  pub pages : length rows ≡ g.leaves
  pub maps_stored : (place : ℕ) → place < g.heads → HasMapsStored g v rows (head_in heads place)

-- what each pick says then: the picks differ in the data pages alone
abbrev pub held_contents : Counts → StoreView → ℕ → List Record → List Head → Pick → Contents
held_contents g v epoch records heads c = record { epoch = epoch; pool = records; heads = heads; blocks = block_on g (pages_by v c) }

-- the map pages of a head that is put are stored, and no block comes in the place of one
abbrev pub MayStand : Counts → StoreView → List Head → List (List ℕ) → PagePut → Type 0
MayStand g v heads rows (HeadPut place h) = HasMapsStored g v rows h
MayStand g v heads rows (BlockPut d block) = IsNoMap heads d
MayStand g v heads rows _ = Unit {0}

-- ---- after a put that is done

abbrev pub epoch_after : PagePut → ℕ → ℕ
epoch_after (RootPut later) epoch = later
epoch_after _ epoch = epoch

abbrev pub records_after : PagePut → List Record → List Record
records_after (RecordPut slot r) records = slice_set records slot r
records_after _ records = records

abbrev pub heads_after : PagePut → List Head → List Head
heads_after (HeadPut place h) heads = slice_set heads place h
heads_after _ heads = heads

abbrev pub rows_after : PagePut → List (List ℕ) → List (List ℕ)
rows_after (MapPut d row) rows = slice_set rows d row
rows_after _ rows = rows

-- ---- a put that changes one layout

-- a head is put, or a map page that a head names
abbrev pub IsLayoutPut : List Head → PagePut → Type 0
IsLayoutPut heads (HeadPut place h) = Unit {0}
IsLayoutPut heads (MapPut d row) = (i : ℕ) × (j : ℕ) × (j < most_maps) × (head_map (head_in heads i) j ≡ suc d)
IsLayoutPut heads _ = ⊥

-- and by it one layout is another
pub record Lays (heads : List Head) (rows : List (List ℕ)) (put : PagePut) (place : ℕ) (new : Layout) : Type 0 where
  pub kind : IsLayoutPut heads put
  pub layouts : layouts_by (kept_entry (rows_after put rows)) (heads_after put heads) ≡ slice_set (layouts_by (kept_entry rows) heads) place new

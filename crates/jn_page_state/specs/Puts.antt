-- The put of one page, by what the page is, and what it asks of the store.
use Rattle.std.specs.Prelude.{◌≡◌, ℕ, suc, ◌<◌, ◌++◌, Bool, true, false, nat_eq, List, length, take, replicate}
use Rattle.jn_base.specs.declared.names.ServerNo.{ServerNo}
use Rattle.jn_records.specs.declared.head.Head.{Head}
use Rattle.jn_records.specs.declared.record.Record.{Record}
use Rattle.jn_base.specs.Limits.{head_blocks, most_maps}
use Rattle.jn_records.specs.Heads.{head_page, map_page, all_within, IsHead, IsMapPage, FileFits, IsMapRow}
use Rattle.jn_records.specs.Layouts.{head_map}
use Rattle.jn_records.specs.Pages.{root_page, IsRoot}
use Rattle.jn_records.specs.Records.{record_page}
use Rattle.jn_records.specs.StablePages.{Counts, page_count, Pages, slot_place, head_place, data_place, root_by, NamesMap}
use Rattle.jn_rows.specs.Stable.{Pick, StableState}
use Rattle.jn_sets.specs.Pool.{IsRecord}
use Rattle.jn_storage.specs.Orderly.{IsLoadable}
use Rattle.jn_store.specs.Store.{StoreView, StorePut, IsClean, IsWholePage, Shrinks}
use Rattle.jn_page_state.specs.Contents.{Contents, state_in}
use Rattle.jn_page_state.specs.Changes.{with_record, with_head, with_block, with_epoch}
use Rattle.jn_page_state.specs.Pages.{contents_of, pages_by, IsOfFormat}
use Rattle.jn_page_state.specs.Recoverable.{names_block, IsConsistent, MapsAreWhole}

pub data PagePut : Type 0 where
  -- the root, with an epoch
  RootPut : ℕ → PagePut
  -- a record at a slot
  RecordPut : ℕ → Record → PagePut
  -- a head at its place
  HeadPut : ℕ → Head → PagePut
  -- a block at a data page
  BlockPut : ℕ → List ℕ → PagePut
  -- the addresses of a map page at a data page
  MapPut : ℕ → List ℕ → PagePut

abbrev pub put_place : Counts → PagePut → ℕ
put_place g (RootPut epoch) = 0
put_place g (RecordPut slot r) = slot_place g slot
put_place g (HeadPut place h) = head_place g place
put_place g (BlockPut d block) = data_place g d
put_place g (MapPut d row) = data_place g d

-- zeros stand behind a block
abbrev pub put_page : ServerNo → Counts → PagePut → List ℕ
put_page server g (RootPut epoch) = root_page (root_by server g epoch)
put_page server g (RecordPut slot r) = record_page r
put_page server g (HeadPut place h) = head_page h
put_page server g (BlockPut d block) = block ++ replicate 64 0
put_page server g (MapPut d row) = map_page row

-- its place is there, and it is of the format
abbrev pub IsPagePut : ServerNo → Counts → PagePut → Type 0
IsPagePut server g (RootPut epoch) = IsRoot (root_by server g epoch)
IsPagePut server g (RecordPut slot r) = (slot < g.pool) × IsRecord r
IsPagePut server g (HeadPut place h) = (place < g.heads) × IsHead g.leaves h × FileFits h
IsPagePut server g (BlockPut d block) = (d < g.leaves) × (length block ≡ 448)
IsPagePut server g (MapPut d row) = (d < g.leaves) × IsMapRow g.leaves row

-- A head is put once its map pages are there, and a block where no head names a map page.
abbrev pub MayPut : Counts → Pages → PagePut → Type 0
MayPut g pages (HeadPut place h) = (j d : ℕ) → j < most_maps → head_map h j ≡ suc d → IsMapPage g.leaves (pages (data_place g d))
MayPut g pages (BlockPut d block) = NamesMap g pages d → ⊥
MayPut g pages _ = Unit {0}

-- what the pages say with it
abbrev pub put_in : PagePut → Contents → Contents
put_in (RootPut epoch) c = with_epoch c epoch
put_in (RecordPut slot r) c = with_record c slot r
put_in (HeadPut place h) c = with_head c place h
put_in (BlockPut d block) c = with_block c d block
put_in (MapPut d row) c = with_block c d (take 448 (map_page row))

-- by each pick the pages are of the format
pub record IsReadable (server : ServerNo) (g : Counts) (v : StoreView) : Type 0 where
  pub count : page_count g ≡ v.count
  pub each : (c : Pick) → IsOfFormat server g (pages_by v c)

-- what the pages say by a pick
abbrev pub contents_by : Counts → StoreView → Pick → Contents
contents_by g v c = contents_of g (pages_by v c)

-- the store's step for a put
abbrev pub PutStep : ServerNo → Counts → StoreView → PagePut → Bool → StoreView → Type 0
PutStep server g v put ok w = StorePut v (put_place g put) (put_page server g put) ok w

-- Whatever is picked before, the put makes this of what is found.
abbrev pub Makes : Counts → StoreView → PagePut → StableState → Type 0
Makes g v put y = (c : Pick) → state_in (put_in put (contents_by g v c)) ≡ y

abbrev pub is_put_at : PagePut → ℕ → Bool
is_put_at (BlockPut k block) d = nat_eq k d
is_put_at (MapPut k row) d = nat_eq k d
is_put_at _ d = false

-- The data pages that are named for blocks after a put have one candidate, and it writes none that is so named, before or after.
pub record KeepsClean (g : Counts) (v : StoreView) (put : PagePut) : Type 0 where
  pub names : (c : Pick) (d : ℕ) → d < g.leaves → names_block (put_in put (contents_by g v c)) d ≡ true → IsClean v (data_place g d) × (is_put_at put d ≡ false)
  pub unwritten : (c : Pick) (d : ℕ) → d < g.leaves → names_block (contents_by g v c) d ≡ true → is_put_at put d ≡ false

-- By each pick it leaves what a recovery asks.
pub record KeepsFound (server : ServerNo) (g : Counts) (v : StoreView) (put : PagePut) : Type 0 where
  pub consistent : (c : Pick) → IsConsistent g (put_in put (contents_by g v c))
  pub loadable : (c : Pick) → IsLoadable server g.heads (state_in (put_in put (contents_by g v c)))

-- a put on pages of the format: the store before and after, and whether it was done
pub record IsPut (server : ServerNo) (g : Counts) (v : StoreView) (put : PagePut) (ok : Bool) (w : StoreView) : Type 0 where
  pub readable : IsReadable server g v
  pub page : IsPagePut server g put
  pub may : (c : Pick) → MayPut g (pages_by v c) put
  pub step : PutStep server g v put ok w

-- the pages of root, records and heads have one candidate each
pub record IsFrontClean (g : Counts) (v : StoreView) : Type 0 where
  pub root : IsClean v 0
  pub pool : (i : ℕ) → i < g.pool → IsClean v (slot_place g i)
  pub heads : (i : ℕ) → i < g.heads → IsClean v (head_place g i)

-- and both halves of each of them are good, and of each map page that a head names
pub record IsFrontWhole (g : Counts) (v : StoreView) : Type 0 where
  pub root : IsWholePage v 0
  pub pool : (i : ℕ) → i < g.pool → IsWholePage v (slot_place g i)
  pub heads : (i : ℕ) → i < g.heads → IsWholePage v (head_place g i)
  pub maps : MapsAreWhole g v

-- no page has a new candidate, as after a get, a cleanup or a decay
pub record IsFewer (v w : StoreView) : Type 0 where
  pub count : w.count ≡ v.count
  pub shrinks : (j : ℕ) → j < v.count → Shrinks v w j

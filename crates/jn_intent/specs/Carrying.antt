-- How an intention of a work is carried out at the heads of the files and their map pages.
use Rattle.std.specs.Prelude.{◌≡◌, ◌⊎◌, ◌≤◌, ◌<◌, ◌+◌, ◌-◌, ◌/◌, ◌^◌, ℕ, suc, Bool, true, false, not, ◌&&◌, if◌then◌else◌, List, slice_set}
use Rattle.jn_alloc.specs.Free.{free_count}
use Rattle.jn_base.specs.declared.names.FileNo.{FileNo}
use Rattle.jn_base.specs.declared.names.ServerNo.{ServerNo}
use Rattle.jn_base.specs.Limits.{head_blocks, most_blocks, most_maps}
use Rattle.jn_files.specs.Table.{TableView, IsTable, IsUnnamed, exists, layouts_in}
use Rattle.jn_files.specs.Calls.{HasPagesOfTable, IsChanged, MayBecome, MayBring, with_promised_heads}
use Rattle.jn_page_state.specs.Changes.{IsHeadPut, IsPartPut}
use Rattle.jn_page_state.specs.Held.{IsMapStored, Lays, heads_after, rows_after}
use Rattle.jn_page_state.specs.Puts.{PagePut, HeadPut, IsPagePut, PutStep}
use Rattle.jn_records.specs.declared.intention.StoredIntention.{StoredIntention}
use Rattle.jn_records.specs.declared.intention.What.{What}
use Rattle.jn_records.specs.declared.intention.What.TheVariants.{Gone, Cut, Put}
use Rattle.jn_records.specs.declared.work.WorkState.{WorkState}
use Rattle.jn_records.specs.Heads.{map_page, IsMapRow, head_in}
use Rattle.jn_records.specs.Intentions.{intention_has_page}
use Rattle.jn_records.specs.Layouts.{Layout, head_map, row_at}
use Rattle.jn_records.specs.MapPlaces.{maps_in, range_of}
use Rattle.jn_records.specs.NetLists.{is_fresh}
use Rattle.jn_records.specs.StablePages.{data_place}
use Rattle.jn_store.specs.Store.{StoreView, StorePut}

-- how many heads it takes: one for a fresh file that isn't there
abbrev pub heads_taken : TableView → StoredIntention → ℕ
heads_taken t i = if is_fresh i.what && not (exists t.heads i.file) then 1 else 0

-- the promise of that head is given back just before it is taken
abbrev pub without_promise : TableView → StoredIntention → TableView
without_promise t i = with_promised_heads t (t.free_heads.promised - heads_taken t i)

-- the same before a file is made fresh
abbrev pub with_fresh_promise : TableView → FileNo → TableView
with_fresh_promise t f = with_promised_heads t (t.free_heads.promised - (if not (exists t.heads f) then 1 else 0))

abbrev pub is_of_file : What → Bool
is_of_file Cut = true
is_of_file Put = true
is_of_file _ = false

abbrev pub is_gone : What → Bool
is_gone Gone = true
is_gone _ = false

-- a file that is gone already: nothing is put
abbrev pub is_gone_already : TableView → StoredIntention → Bool
is_gone_already t i = is_gone i.what && not (exists t.heads i.file)

-- what is asked: the head that is taken was promised, and is free; a put's pages may be its block's and, where there is none, its map page
pub record MayCarry (t : TableView) (v : StoreView) (i : StoredIntention) : Type 0 where
  pub table : IsTable t
  pub fits : HasPagesOfTable t v
  pub file_fits : i.file.0 < 2 ^ 32
  pub names : intention_has_page i ≡ true
  pub promised : heads_taken t i ≤ t.free_heads.promised
  pub free : t.free_heads.promised ≤ free_count t.free_heads
  pub there : is_of_file i.what ≡ true → exists t.heads i.file ≡ true
  pub range : i.block.0 < most_blocks
  pub leaf : (a : ℕ) → i.address ≡ suc a → MayBecome t v i.file i.block.0 a
  pub map : (a : ℕ) → i.address ≡ suc a → head_blocks ≤ i.block.0 → maps_in t.heads i.file (range_of i.block.0) ≡ false → MayBring t i.file i.block.0 a i.map

-- ---- one put

-- a head that is put names no map page but those that it named before, and those that are stored
abbrev pub KeepsMaps : TableView → StoreView → ℕ → PagePut → Type 0
KeepsMaps t v slot (HeadPut place h) = (j d : ℕ) → j < most_maps → head_map h j ≡ suc d → (head_map (head_in t.heads slot) j ≡ suc d) ⊎ IsMapStored t.counts v d (row_at t.maps d)
KeepsMaps t v slot put = Unit {0}

-- the page of a head or of a map page is put, and the layout of a slot becomes another
pub record PutsOne (t : TableView) (v : StoreView) (slot : ℕ) (new : Layout) (ok : Bool) (u : TableView) (w : StoreView) : Type 0 where
  pub put : PagePut
  pub page : (server : ServerNo) → IsPagePut server t.counts put
  pub step : (server : ServerNo) → PutStep server t.counts v put ok w
  pub lays : Lays t.heads t.maps put slot new
  pub maps : KeepsMaps t v slot put
  pub done : ok ≡ true → IsChanged t (heads_after put t.heads) (rows_after put t.maps) u
  -- after a stop nothing of the table counts, apart from how many pages there are
  pub stopped : ok ≡ false → u.counts ≡ t.counts

-- the put that carries the intention out: the table and the store before, then after
pub record PutsWhole (t : TableView) (v : StoreView) (i : StoredIntention) (ok : Bool) (u : TableView) (w : StoreView) : Type 0 where
  pub slot : ℕ
  pub new : Layout
  pub one : PutsOne (without_promise t i) v slot new ok u w
  pub carries : IsHeadPut (layouts_in t) i slot new

-- ---- two puts

-- the first put of a cut that falls inside of a map page takes the blocks of that page away
pub record PutsPart (t : TableView) (v : StoreView) (i : StoredIntention) (ok : Bool) (u : TableView) (w : StoreView) : Type 0 where
  pub slot : ℕ
  pub new : Layout
  pub range : ℕ
  pub one : PutsOne t v slot new ok u w
  pub part : IsPartPut (layouts_in t) i range slot new

-- A new map page is put before the head that names it. Its page is the work's, and nothing else names it.
pub record PutsMapPage (t : TableView) (v : StoreView) (i : StoredIntention) (ok : Bool) (u : TableView) (w : StoreView) : Type 0 where
  pub page : ℕ
  pub row : List ℕ
  pub put_is : i.what ≡ Put
  pub brings : i.map ≡ suc page
  pub below : page < t.counts.leaves
  pub whole : IsMapRow t.counts.leaves row
  pub unnamed : IsUnnamed (layouts_in t) page
  pub put : StorePut v (data_place t.counts page) (map_page row) ok w
  pub done : ok ≡ true → u ≡ record t { maps = slice_set t.maps page row }
  pub stopped : ok ≡ false → u ≡ t

-- A page is put that makes a part of the intention, or nothing, and then the one that makes it whole: the table and the store between
-- the two, and whether the first was done.
pub record PutsInTurn (t : TableView) (v : StoreView) (i : StoredIntention) (ok : Bool) (u : TableView) (w : StoreView) : Type 0 where
  pub table : TableView
  pub store : StoreView
  pub ready : Bool
  pub first : PutsPart t v i ready table store ⊎ PutsMapPage t v i ready table store
  pub whole : ready ≡ true → PutsWhole table store i ok u w
  pub stopped : ready ≡ false → (ok ≡ false) × (u ≡ table) × (w ≡ store)

-- an intention is carried out: the table and the store before, then after
pub record Carries (t : TableView) (v : StoreView) (i : StoredIntention) (ok : Bool) (u : TableView) (w : StoreView) : Type 0 where
  pub puts : is_gone_already t i ≡ false → PutsWhole t v i ok u w ⊎ PutsInTurn t v i ok u w
  pub nothing : is_gone_already t i ≡ true → (ok ≡ true) × (u ≡ t) × (w ≡ v)

-- one intention more was carried out
abbrev pub counted_on : WorkState → WorkState
counted_on s = record s { next = s.next + 1 }

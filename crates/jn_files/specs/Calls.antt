-- What the calls of a table of files do to it and to its store.
use Rattle.std.specs.Prelude.{◌≡◌, ◌≢◌, ◌⊎◌, ℕ, suc, ◌+◌, ◌*◌, ◌%◌, ◌≤◌, ◌<◌, Bool, true, false, List, slice_set, take, Option, Result, Ok, is_ok}
use Rattle.jn_alloc.specs.Free.{free_count, FreeNumbers, with_free, with_promised, IsLeastFree}
use Rattle.jn_base.specs.declared.device.Stopped.{Stopped}
use Rattle.jn_base.specs.declared.names.FileNo.{FileNo}
use Rattle.jn_base.specs.declared.names.BlockNo.{BlockNo}
use Rattle.jn_base.specs.declared.names.LockUnit.TheVariants.{Block}
use Rattle.jn_base.specs.Limits.{head_blocks, most_maps}
use Rattle.jn_order.specs.Files.{Change, change, cut_from, written}
use Rattle.jn_records.specs.declared.head.Head.{Head}
use Rattle.jn_records.specs.Heads.{head_page, map_page, head_in, is_of}
use Rattle.jn_records.specs.Layouts.{at_cell, head_map, layout_at, map_cell, IsNoMap, row_at}
use Rattle.jn_records.specs.MapPlaces.{is_in_range, maps_named, range_of}
use Rattle.jn_records.specs.NetLists.{among}
use Rattle.jn_records.specs.StablePages.{Counts, Pages, head_place, data_place, page_count, files_of_pages}
use Rattle.jn_store.specs.Store.{StoreView, StoreLater, StoreGot, StorePut, StoreCleaned, Shrinks, IsSamePage, IsCalm, IsServed, IsStop, IsWholePage}
use Rattle.jn_store.specs.Choices.{IsChoice}
use Rattle.jn_store.specs.DeviceCalls.{cleaned_get_calls}
use Rattle.jn_files.specs.Table.{TableView, IsTable, AreHeads, exists, is_held, is_touched, IsUnnamed, files_of, is_mapped, layouts_of, layouts_in, layout_in, with_leaf, with_map, one_entry, cut_head, cut_addresses, cut_map}
use Rattle.jn_files.specs.Pages.{Says, IsLeaf, leaf_page, HoldsTable, files_in}
use Rattle.jn_index.specs.Least.{NextAfter}

-- the store has the pages that the table counts
abbrev pub HasPagesOfTable : TableView → StoreView → Type 0
HasPagesOfTable t v = v.count ≡ page_count t.counts

-- ---- loading

-- no data page is held or touched, and nothing is promised
pub record IsLoaded (g : Counts) (t : TableView) : Type 0 where
  pub counts : t.counts ≡ g
  pub table : IsTable t
  pub loose : (a : ℕ) → is_held t a ≡ false
  pub untouched : (a : ℕ) → is_touched t a ≡ false
  pub promised_heads : t.free_heads.promised ≡ 0
  pub promised_leaves : t.free_leaves.promised ≡ 0

-- What a load leaves of its store, done or stopped: no page has a new candidate, and none but those that heads name as map pages
-- has another. It makes at most the calls of a get of each head, and of a cleanup and a get of each map page.
pub record LoadedFrom (g : Counts) (heads : List Head) (v w : StoreView) : Type 0 where
  pub later : StoreLater v w
  pub calls : w.calls ≤ v.calls + (8 * g.heads + cleaned_get_calls * maps_named heads)
  pub fewer : (i : ℕ) → i < v.count → Shrinks v w i
  pub others : (i : ℕ) → i < v.count → ((d : ℕ) → i ≡ data_place g d → IsNoMap heads d) → IsSamePage v w i

-- Where no fault waited, both halves of each map page that heads name are good once they are read.
abbrev pub MendsMaps : Counts → List Head → StoreView → StoreView → Type 0
MendsMaps g heads v w = IsCalm v → (d slot j : ℕ) → d < g.leaves → j < most_maps → head_map (head_in heads slot) j ≡ suc d → IsWholePage w (data_place g d)

-- ---- heads and map pages

-- the heads and the rows of map pages are others; what is free follows
pub record IsChanged (t : TableView) (new_heads : List Head) (rows : List (List ℕ)) (u : TableView) : Type 0 where
  pub counts : u.counts ≡ t.counts
  pub heads : u.heads ≡ new_heads
  pub maps : u.maps ≡ rows
  pub held : u.held ≡ t.held
  pub touched : u.touched ≡ t.touched
  pub promised_heads : u.free_heads.promised ≡ t.free_heads.promised
  pub promised_leaves : u.free_leaves.promised ≡ t.free_leaves.promised
  pub table : IsTable u

-- One slot's layout becomes another by one put of one page, which is this change of the files: the table and the store before,
-- then after. The change may take a block from a data page.
pub record PutsLayout (t : TableView) (v : StoreView) (slot : ℕ) (heads : List Head) (rows : List (List ℕ)) (place : ℕ) (page : List ℕ) (c : (ℕ → List ℕ) → Change) (ok : Bool) (u : TableView) (w : StoreView) : Type 0 where
  pub put : StorePut v place page ok w
  pub done : ok ≡ true → IsChanged t heads rows u
  -- the table is as before a stop, whatever the store holds
  pub stopped : ok ≡ false → u ≡ t
  -- no other slot's layout changes, and what is put is of the format
  pub one : layouts_of rows heads ≡ slice_set (layouts_in t) slot (layout_at (layouts_of rows heads) slot)
  pub sound : AreHeads t.counts.leaves rows heads
  pub holds : HoldsTable t v → ok ≡ true → HoldsTable u w
  -- the pages, as they turn out to be, say the old layouts or the new
  pub says_new : HoldsTable t v → ok ≡ true → (d : Pages) → IsChoice w d → Says t.counts d rows heads
  pub old_or_new : HoldsTable t v → (d : Pages) → IsChoice w d → Says t.counts d t.maps t.heads ⊎ Says t.counts d rows heads
  -- so they hold the files before or those after the change, whole
  pub changes : (leaves : ℕ → List ℕ) → files_of (layouts_of rows heads) leaves ≡ change (c leaves) (files_of (layouts_in t) leaves)
  pub files_done : HoldsTable t v → ok ≡ true → (d : Pages) → IsChoice w d → files_of_pages t.counts d ≡ change (c (λ a. v.first (data_place t.counts a))) (files_in t.counts v)
  pub files_stopped : HoldsTable t v → (d : Pages) → IsChoice w d
      → (files_of_pages t.counts d ≡ files_in t.counts v) ⊎ (files_of_pages t.counts d ≡ change (c (λ a. v.first (data_place t.counts a))) (files_in t.counts v))

-- a slot's head is put, where the rows of map pages are these
abbrev pub PutsHead : TableView → StoreView → ℕ → Head → List (List ℕ) → ((ℕ → List ℕ) → Change) → Bool → TableView → StoreView → Type 0
PutsHead t v slot h rows c ok u w = PutsLayout t v slot (slice_set t.heads slot h) rows (head_place t.counts slot) (head_page h) c ok u w

-- data page d, which is a map page of a slot's head, is put with other entries
abbrev pub PutsMap : TableView → StoreView → ℕ → ℕ → List ℕ → ((ℕ → List ℕ) → Change) → Bool → TableView → StoreView → Type 0
PutsMap t v slot d row c ok u w = PutsLayout t v slot t.heads (slice_set t.maps d row) (data_place t.counts d) (map_page row) c ok u w

-- a data page that no head names gets these entries: no layout and no file changes, and it is no touch
pub record FillsMap (t : TableView) (v : StoreView) (d : ℕ) (row : List ℕ) (ok : Bool) (w : StoreView) : Type 0 where
  pub put : StorePut v (data_place t.counts d) (map_page row) ok w
  pub holds : HoldsTable t v → HoldsTable t w
  pub files : HoldsTable t v → (pages : Pages) → IsChoice w pages → files_of_pages t.counts pages ≡ files_in t.counts v

-- the slot of a file's head, or the lowest free one where it has none
abbrev pub IsPlace : List Head → FreeNumbers → FileNo → ℕ → Type 0
IsPlace heads free_heads f slot = (is_of f (head_in heads slot) ≡ true) ⊎ ((exists heads f ≡ false) × IsLeastFree free_heads slot)

abbrev pub IsPlaceOf : TableView → FileNo → ℕ → Type 0
IsPlaceOf t f slot = IsPlace t.heads t.free_heads f slot

-- a file is made empty or gone: its head is put
pub record SetsHead (t : TableView) (v : StoreView) (f : FileNo) (h : Head) (c : Change) (ok : Bool) (u : TableView) (w : StoreView) : Type 0 where
  pub slot : ℕ
  pub below : slot < t.counts.heads
  pub place : IsPlaceOf t f slot
  pub puts : PutsHead t v slot h t.maps (λ leaves. c) ok u w

-- ---- cuts

-- A cut at block n that falls inside of data page d as a map page: that page is put without its blocks from n on, and then the head.
pub record CutsTwice (t : TableView) (v : StoreView) (f : FileNo) (n : BlockNo) (slot d : ℕ) (ok : Bool) (u : TableView) (w : StoreView) : Type 0 where
  -- the table and the store between the two, and whether the first was done
  pub table : TableView
  pub store : StoreView
  pub ready : Bool
  pub inside : PutsMap t v slot d (cut_addresses (n.0 % head_blocks) (row_at t.maps d)) (λ leaves. among (λ p. is_in_range (range_of n.0) p.0) (cut_from f n)) ready table store
  pub whole : ready ≡ true → PutsHead table store slot (cut_head n.0 (head_in t.heads slot)) table.maps (λ leaves. cut_from f n) ok u w
  pub stopped : ready ≡ false → (ok ≡ false) × (u ≡ table) × (w ≡ store)

-- the blocks of a file from n on are taken away
pub record CutsFile (t : TableView) (v : StoreView) (f : FileNo) (n : BlockNo) (ok : Bool) (u : TableView) (w : StoreView) : Type 0 where
  pub slot : ℕ
  pub below : slot < t.counts.heads
  pub own : is_of f (head_in t.heads slot) ≡ true
  pub at_once : cut_map n.0 (head_in t.heads slot) ≡ 0 → PutsHead t v slot (cut_head n.0 (head_in t.heads slot)) t.maps (λ leaves. cut_from f n) ok u w
  pub in_two : (d : ℕ) → cut_map n.0 (head_in t.heads slot) ≡ suc d → CutsTwice t v f n slot d ok u w

-- ---- blocks

-- what data page a gives block p of a file
abbrev pub block_written : FileNo → BlockNo → ℕ → (ℕ → List ℕ) → Change
block_written f p a leaves = written f p (take 448 (leaves a))

-- A block comes with a new map page, data page d, for its address alone: that page is put, and then the head that names it.
pub record BringsMap (t : TableView) (v : StoreView) (f : FileNo) (p : BlockNo) (a slot d : ℕ) (ok : Bool) (u : TableView) (w : StoreView) : Type 0 where
  -- the store between the two, and whether the first was done
  pub store : StoreView
  pub ready : Bool
  pub fills : FillsMap t v d (one_entry (p.0 % head_blocks) a) ready store
  pub head : ready ≡ true → PutsHead t store slot (with_map (range_of p.0) d (head_in t.heads slot)) (slice_set t.maps d (one_entry (p.0 % head_blocks) a)) (block_written f p a) ok u w
  pub stopped : ready ≡ false → (ok ≡ false) × (u ≡ t) × (w ≡ store)

-- Data page a becomes a file's block: in the head, in the map page that is there, or in the data page that the address m leads to.
pub record SetsBlock (t : TableView) (v : StoreView) (f : FileNo) (p : BlockNo) (a m : ℕ) (ok : Bool) (u : TableView) (w : StoreView) : Type 0 where
  pub slot : ℕ
  pub below : slot < t.counts.heads
  pub own : is_of f (head_in t.heads slot) ≡ true
  pub in_head : p.0 < head_blocks → PutsHead t v slot (with_leaf p.0 a (head_in t.heads slot)) t.maps (block_written f p a) ok u w
  pub in_map : head_blocks ≤ p.0 → (d : ℕ) → head_map (head_in t.heads slot) (range_of p.0) ≡ suc d
      → PutsMap t v slot d (slice_set (row_at t.maps d) (p.0 % head_blocks) (suc a)) (block_written f p a) ok u w
  pub with_new : head_blocks ≤ p.0 → head_map (head_in t.heads slot) (range_of p.0) ≡ 0 → (d : ℕ) → m ≡ suc d → BringsMap t v f p a slot d ok u w

-- who takes a number has no promise of what is left
abbrev pub MayTake : FreeNumbers → Type 0
MayTake free = (free_count free ≡ 0) ⊎ (free.promised < free_count free)

-- data page a may become block p of file f: it is held, it has one candidate, and it is named nowhere else
pub record MayBecome (t : TableView) (v : StoreView) (f : FileNo) (p a : ℕ) : Type 0 where
  pub held : is_held t a ≡ true
  pub leaf : IsLeaf v (data_place t.counts a)
  pub elsewhere : (slot q : ℕ) → at_cell (layout_in t slot) q ≡ suc a → (is_of f (head_in t.heads slot) ≡ true) × (q ≡ p)

-- The address m leads to a data page that may become the map page of block p of file f, with data page a for the block: it is held and
-- another, and it is named nowhere else.
pub record MayBring (t : TableView) (f : FileNo) (p a m : ℕ) : Type 0 where
  pub page : ℕ
  pub is : m ≡ suc page
  pub held : is_held t page ≡ true
  pub differs : page ≢ a
  pub elsewhere : (slot q : ℕ) → at_cell (layout_in t slot) q ≡ suc page → (is_of f (head_in t.heads slot) ≡ true) × (q ≡ map_cell (range_of p))

-- ---- data pages

-- a data page is touched: what was put there, or cleaned
abbrev pub with_touched : TableView → ℕ → TableView
with_touched t a = record t { touched = slice_set t.touched a true }

-- every data page is
pub record TouchesAll (t u : TableView) : Type 0 where
  pub rest : u ≡ record t { touched = u.touched }
  pub all : (a : ℕ) → a < t.counts.leaves → is_touched u a ≡ true

-- a data page that no head names gets this block, which no file shows; a fill is a touch
pub record Fills (t : TableView) (v : StoreView) (a : ℕ) (block : List ℕ) (ok : Bool) (u : TableView) (w : StoreView) : Type 0 where
  pub done : ok ≡ true → u ≡ with_touched t a
  pub stopped : ok ≡ false → u ≡ t
  pub put : StorePut v (data_place t.counts a) (leaf_page block) ok w
  pub leaf : ok ≡ true → IsLeaf w (data_place t.counts a)
  pub holds : HoldsTable t v → HoldsTable t w
  pub files : HoldsTable t v → (d : Pages) → IsChoice w d → files_of_pages t.counts d ≡ files_in t.counts v

-- a data page is held: it isn't free
abbrev pub with_held : TableView → ℕ → TableView
with_held t a = record t { held = slice_set t.held a true; free_leaves = with_free t.free_leaves a false }

-- it is let go: it is free where nothing names it
pub record LetsGo (t : TableView) (a : ℕ) (u : TableView) : Type 0 where
  pub unnamed : IsUnnamed (layouts_in t) a → u ≡ record t { held = slice_set t.held a false; free_leaves = with_free t.free_leaves a true }
  pub named : (slot q : ℕ) → at_cell (layout_in t slot) q ≡ suc a → u ≡ record t { held = slice_set t.held a false }

-- a data page is cleaned for the first time since the load
pub record FirstTouch (t : TableView) (v : StoreView) (a : ℕ) (ok : Bool) (u : TableView) (w : StoreView) : Type 0 where
  pub answer : Result Bool Stopped
  pub is : is_ok answer ≡ ok
  pub cleaned : StoreCleaned v (data_place t.counts a) answer w
  pub done : ok ≡ true → u ≡ with_touched t a
  pub stopped : ok ≡ false → u ≡ t

-- a data page is cleaned where it wasn't touched yet, and else nothing is done
pub record Touches (t : TableView) (v : StoreView) (a : ℕ) (ok : Bool) (u : TableView) (w : StoreView) : Type 0 where
  pub first : is_touched t a ≡ false → FirstTouch t v a ok u w
  pub again : is_touched t a ≡ true → (ok ≡ true) × (u ≡ t) × (w ≡ v)

-- The block that is stored at data page a is read: the page is touched, and then there is one get of it.
pub record BlockGot (t : TableView) (v : StoreView) (f : FileNo) (p : BlockNo) (a : ℕ) (answer : Result (Option (List ℕ)) Stopped) (u : TableView) (w : StoreView) : Type 0 where
  -- the store between the touch and the get, and whether the touch was done
  pub between : StoreView
  pub ready : Bool
  pub touches : Touches t v a ready u between
  pub page : Result (List ℕ) Stopped
  pub got : ready ≡ true → StoreGot between (data_place t.counts a) page w × (is_ok answer ≡ is_ok page)
  pub unready : ready ≡ false → (is_ok answer ≡ false) × (w ≡ between)
  pub found : (block : Option (List ℕ)) → answer ≡ Ok block → block ≡ files_in t.counts v (Block f p)
  -- no page has another candidate, and while no fault waits both halves of a page that wasn't touched are good afterwards
  pub later : StoreLater v w
  pub calls : w.calls ≤ v.calls + cleaned_get_calls
  pub same : (j : ℕ) → j < v.count → IsSamePage v w j
  pub whole : IsCalm v → is_touched t a ≡ false → IsWholePage w (data_place t.counts a)
  pub served : is_ok answer ≡ true → IsServed v w
  pub stop : is_ok answer ≡ false → IsStop v w
  pub calm : IsCalm v → is_ok answer ≡ true

abbrev pub with_promised_heads : TableView → ℕ → TableView
with_promised_heads t n = record t { free_heads = with_promised t.free_heads n }

abbrev pub with_promised_leaves : TableView → ℕ → TableView
with_promised_leaves t n = record t { free_leaves = with_promised t.free_leaves n }

-- ---- listing

-- the least file above another, or the least of all
abbrev pub NextFile : List Head → Option FileNo → Option FileNo → Type 0
NextFile heads after next = NextAfter (λ (f : FileNo). f.0) (exists heads) after next

-- and the least block of a file that has an address
abbrev pub NextBlock : TableView → FileNo → Option BlockNo → Option BlockNo → Type 0
NextBlock t f after next = NextAfter (λ (p : BlockNo). p.0) (λ p. is_mapped (layouts_in t) f p.0) after next

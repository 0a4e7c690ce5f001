-- How a work is prepared: its intentions are stored one after another, and count for nothing until its ready record is put.
use Rattle.std.specs.Prelude.{◌≡◌, ℕ, suc, ◌+◌, ◌*◌, ◌≤◌, ◌<◌, Bool, true, false, not, ◌||◌, List, [], length, map, take, filter, count_by, position, Some, Result, Ok, is_ok, IfOk}
use Rattle.std.specs.List.{list_any}
use Rattle.jn_alloc.specs.Free.{IsLeastFree, free_count as free_numbers}
use Rattle.jn_base.specs.declared.device.Stopped.{Stopped}
use Rattle.jn_base.specs.declared.names.WorkId.{WorkId}
use Rattle.jn_base.specs.Names.{work_eq}
use Rattle.jn_base.specs.Limits.{most_cells, most_intentions}
use Rattle.jn_files.specs.Table.{TableView, IsTable, is_held, layouts_in}
use Rattle.jn_files.specs.Calls.{Fills, with_held}
use Rattle.jn_page_state.specs.Contents.{intended, heads_name, names_for_block, works_name}
use Rattle.jn_page_state.specs.Pages.{found_on, block_on, pages_by}
use Rattle.jn_page_state.specs.Recoverable.{IsRecoverable, HasFirst}
use Rattle.jn_page_state.specs.Standing.{IsStanding}
use Rattle.jn_records.specs.declared.intention.Intention.{Intention}
use Rattle.jn_records.specs.declared.intention.StoredIntention.{StoredIntention}
use Rattle.jn_records.specs.declared.record.Record.{Record}
use Rattle.jn_records.specs.declared.record.Record.TheVariants.{Intention as IntentionRecord}
use Rattle.jn_records.specs.declared.work.WorkHead.{WorkHead}
use Rattle.jn_records.specs.MapPlaces.{lacking, maps_in, names_maps}
use Rattle.jn_records.specs.NetLists.{InOrder, is_put, is_put_intention}
use Rattle.jn_records.specs.Pages.{root_page}
use Rattle.jn_records.specs.StablePages.{root_by, data_place}
use Rattle.jn_rows.specs.Stable.{Pick, Unchanged}
use Rattle.jn_sets.specs.Pool.{IsRecord, is_free, free_count, is_prepared}
use Rattle.jn_sets.specs.Sets.{Puts}
use Rattle.jn_storage.specs.Calls.{state, PutsFew}
use Rattle.jn_store.specs.Store.{StoreView, StoreLater, IsClean, IsOnly, IsServed, IsStop}
use Rattle.jn_recovery.specs.Memory.{Memory, view_of, rubbish_in}
use Rattle.jn_recovery.specs.Matches.{Matches, WorksMatch, FlagsMatch}
use Rattle.jn_recovery.specs.Pages.{is_at, ArePagesApart}

-- ---- one intention is stored

-- as its record has it: with the addresses of its data page and of its map page
abbrev pub stored_as : Intention → ℕ → ℕ → StoredIntention
stored_as i address map = record { what = i.what; file = i.file; block = i.block; address = address; map = map }

-- the block of a put goes to the lowest free data page, which is held from then on
pub record FillsPage (t : TableView) (v : StoreView) (block : List ℕ) (answer : Result ℕ Stopped) (u : TableView) (w : StoreView) : Type 0 where
  pub page : ℕ
  pub least : IsLeastFree t.free_leaves page
  pub fills : Fills (with_held t page) v page block (is_ok answer) u w
  pub whole : length block ≡ 448
  pub address : IfOk answer (λ a. a ≡ suc page)

-- and where nothing is put the address is 0
pub record BlockStored (t : TableView) (v : StoreView) (i : Intention) (answer : Result ℕ Stopped) (u : TableView) (w : StoreView) : Type 0 where
  pub none : is_put i.what ≡ false → (answer ≡ Ok 0) × (u ≡ t) × (w ≡ v)
  pub put : is_put i.what ≡ true → FillsPage t v i.bytes answer u w

-- then, where a map page is lacking, the lowest free data page is held, and not put yet
pub record TakesPage (t : TableView) (address : ℕ) (u : TableView) : Type 0 where
  pub page : ℕ
  pub least : IsLeastFree t.free_leaves page
  pub held : u ≡ with_held t page
  pub address_is : address ≡ suc page

pub record TakesMap (t : TableView) (lacks : Bool) (address : ℕ) (u : TableView) : Type 0 where
  pub none : lacks ≡ false → (address ≡ 0) × (u ≡ t)
  pub page : lacks ≡ true → TakesPage t address u

-- then its record is put
pub record RecordStored (records : List Record) (v : StoreView) (head : WorkHead) (order : ℕ) (s : StoredIntention) (answer : Result StoredIntention Stopped) (new : List Record) (w : StoreView) : Type 0 where
  pub slot : ℕ
  pub free : position is_free records ≡ Some slot
  pub whole : IsRecord (IntentionRecord head.work head.tid order s)
  pub puts : Puts records v slot (IntentionRecord head.work head.tid order s) (is_ok answer) new w
  pub stored : IfOk answer (λ x. x ≡ s)

pub record IntentionStored (records : List Record) (t : TableView) (v : StoreView) (head : WorkHead) (order : ℕ) (i : Intention) (lacks : Bool) (answer : Result StoredIntention Stopped) (new : List Record) (u : TableView) (w : StoreView) : Type 0 where
  -- the address of its data page, the table and the store in between, and the address of its map page
  pub address : Result ℕ Stopped
  pub filled : TableView
  pub between : StoreView
  pub map : ℕ
  pub block : BlockStored t v i address filled between
  pub table : IsTable filled
  pub stopped : is_ok address ≡ false → (is_ok answer ≡ false) × (u ≡ filled) × (w ≡ between)
  pub takes : is_ok address ≡ true → TakesMap filled lacks map u
  pub recorded : (a : ℕ) → address ≡ Ok a → RecordStored records between head order (stored_as i a map) answer new w

-- ---- a work whose first intentions are stored

-- how many data pages the first intentions take: one for each put, and one for each map page that is lacking
abbrev pub pages_taken : List Intention → List Bool → ℕ → ℕ
pages_taken list lacks n = count_by is_put_intention (take n list) + count_by (λ b. b) (take n lacks)

-- A work that may be stored: nothing of it stands, and there is room for its list. The flags say of each intention whether it lacks its
-- map page in its turn.
pub record MayStore (m : Memory) (v : StoreView) (work : WorkId) (list : List Intention) (lacks : List Bool) : Type 0 where
  pub now : Matches m v
  pub records : length list < free_count m.records
  pub lacks_are : lacks ≡ lacking (maps_in m.table.heads) list
  pub pages : count_by is_put_intention list + count_by (λ b. b) lacks ≤ free_numbers m.table.free_leaves
  pub few : length list ≤ most_intentions
  pub order : InOrder list

-- no prepared work has another record, and no other work has more rubbish
pub record PoolPreparing (m : Memory) (work : WorkId) (stored : List StoredIntention) (records : List Record) : Type 0 where
  pub works : WorksMatch records m.works
  pub flags : FlagsMatch records m.flags
  pub alone : list_any (is_prepared work) records ≡ false
  pub first : HasFirst records work stored
  pub rubbish : filter (λ w. not (work_eq work w)) (rubbish_in records records) ≡ rubbish_in m.records m.records
  pub free : free_count records + length stored ≡ free_count m.records
  pub names : (a : ℕ) → works_name records (suc a) ≡ works_name m.records (suc a)

-- a data page that was free
pub record IsOwnPage (m : Memory) (a : ℕ) : Type 0 where
  pub below : a < m.table.counts.leaves
  pub loose : is_held m.table a ≡ false
  pub unnamed : heads_name most_cells (layouts_in m.table) (suc a) ≡ false

-- the intentions' data pages are held, those of blocks hold the blocks of the puts, and a map page is named where one is lacking
pub record PagesPreparing (m : Memory) (list : List Intention) (lacks : List Bool) (stored : List StoredIntention) (t : TableView) (w : StoreView) : Type 0 where
  pub table : IsTable t
  pub counts : t.counts ≡ m.table.counts
  pub heads : t.heads ≡ m.table.heads
  pub maps : t.maps ≡ m.table.maps
  pub free_heads : t.free_heads ≡ m.table.free_heads
  pub unpromised : t.free_leaves.promised ≡ 0
  pub held : (a : ℕ) → is_held t a ≡ (is_held m.table a || list_any (is_at a) stored)
  pub free : free_numbers t.free_leaves + pages_taken list lacks (length stored) ≡ free_numbers m.table.free_leaves
  pub apart : ArePagesApart stored
  pub own : (a : ℕ) → list_any (is_at a) stored ≡ true → IsOwnPage m a
  pub clean : (a : ℕ) → list_any (names_for_block (suc a)) stored ≡ true → IsClean w (data_place m.table.counts a)
  pub named : names_maps stored ≡ take (length stored) lacks
  pub blocks : (c : Pick) → map (intended (block_on m.table.counts (pages_by w c))) stored ≡ take (length stored) list

-- nothing that is found has changed
pub record StorePreparing (m : Memory) (v : StoreView) (calls : ℕ) (records : List Record) (w : StoreView) : Type 0 where
  pub standing : IsStanding m.server m.table.counts w m.epoch records m.table.heads m.table.maps
  pub root : IsOnly w 0 (root_page (root_by m.server m.table.counts m.epoch))
  pub unchanged : Unchanged (state (view_of m v)) (found_on m.table.counts w)
  pub later : StoreLater v w
  pub calls_few : w.calls ≤ v.calls + calls
  pub served : IsServed v w

pub record IsPreparing (m : Memory) (v : StoreView) (work : WorkId) (list : List Intention) (lacks : List Bool) (stored : List StoredIntention) (records : List Record) (t : TableView) (w : StoreView) : Type 0 where
  pub pool : PoolPreparing m work stored records
  pub pages : PagesPreparing m list lacks stored t w
  pub store : StorePreparing m v (32 * length stored) records w
  -- no more pages have changed than one for each intention, its record, and one for each put, its block
  pub written : PutsFew (count_by is_put_intention (take (length stored) list) + length stored) v w

-- ---- all of them

-- a stop leaves what was found
pub record StopsUnchanged (m : Memory) (v : StoreView) (calls : ℕ) (t : TableView) (w : StoreView) : Type 0 where
  pub recoverable : IsRecoverable m.server m.table.counts w
  pub unchanged : Unchanged (state (view_of m v)) (found_on m.table.counts w)
  pub later : StoreLater v w
  pub calls_few : w.calls ≤ v.calls + calls
  pub stop : IsStop v w
  pub counts : t.counts ≡ m.table.counts

-- a preparation begins
pub record Begins (m : Memory) (v : StoreView) (work : WorkId) (list : List Intention) (lacks : List Bool) (records : List Record) (t : TableView) (w : StoreView) : Type 0 where
  pub may : MayStore m v work list lacks
  pub first : IsPreparing m v work list lacks [] records t w

pub record ListStored (m : Memory) (v : StoreView) (work : WorkId) (list : List Intention) (lacks : List Bool) (ok : Bool) (stored : List StoredIntention) (records : List Record) (t : TableView) (w : StoreView) : Type 0 where
  pub all : ok ≡ true → length stored ≡ length list
  pub done : ok ≡ true → IsPreparing m v work list lacks stored records t w
  pub stopped : ok ≡ false → StopsUnchanged m v 768 t w
  pub written : PutsFew (count_by is_put_intention list + length list) v w

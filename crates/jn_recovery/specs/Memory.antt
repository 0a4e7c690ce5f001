-- What a server's storage keeps in memory beside its store, and what is seen of it.
use Rattle.std.specs.Prelude.{ℕ, ◌+◌, Bool, not, ◌&&◌, nat_lt, if◌then◌else◌, List, [], ◌∷◌, ◌++◌, Option, Some, None}
use Rattle.std.specs.List.{list_any}
use Rattle.jn_alloc.specs.Free.{free_count as free_numbers}
use Rattle.jn_base.specs.declared.names.ServerNo.{ServerNo}
use Rattle.jn_base.specs.declared.names.WorkId.{WorkId}
use Rattle.jn_base.specs.Limits.{most_cells}
use Rattle.jn_base.specs.Names.{work_eq}
use Rattle.jn_files.specs.Table.{TableView, layouts_in}
use Rattle.jn_page_state.specs.Contents.{heads_name}
use Rattle.jn_page_state.specs.Pages.{found_on}
use Rattle.jn_records.specs.declared.flag.Flag.{Flag}
use Rattle.jn_records.specs.declared.intention.StoredIntention.{StoredIntention}
use Rattle.jn_records.specs.declared.record.Record.{Record}
use Rattle.jn_records.specs.declared.record.Record.TheVariants.{Intention as IntentionRecord}
use Rattle.jn_records.specs.declared.work.WorkState.{WorkState}
use Rattle.jn_records.specs.Layouts.{Layout}
use Rattle.jn_records.specs.MapPlaces.{maps_in, names_maps}
use Rattle.jn_sets.specs.Pool.{free_count, is_prepared}
use Rattle.jn_storage.specs.Storage.{Accounts, StorageView}
use Rattle.jn_storage.specs.Calls.{name_of}
use Rattle.jn_storage.specs.Finding.{find_by}
use Rattle.jn_storage.specs.Listing.{total}
use Rattle.jn_store.specs.Store.{StoreView}

pub record Memory : Type 0 where
  -- the root's server and epoch
  pub server : ServerNo
  pub epoch : ℕ
  -- the pool's records, by slot
  pub records : List Record
  -- the heads, what is free of them and of data pages, and which data pages are held
  pub table : TableView
  -- the prepared works and the flags
  pub works : List WorkState
  pub flags : List Flag
  -- how many flags were promised a record
  pub promised : ℕ

-- ---- works

abbrev pub next_by : Option WorkState → ℕ
next_by None = 0
next_by (Some s) = s.next

abbrev pub next_in : List WorkState → WorkId → ℕ
next_in works w = next_by (find_by work_eq name_of works w)

-- whether an address is that of a data page that no head and no map page names
abbrev pub holds_page : List Layout → ℕ → Bool
holds_page heads a = nat_lt 0 a && not (heads_name most_cells heads a)

-- how many such pages an intention names
abbrev pub held_of : List Layout → StoredIntention → ℕ
held_of heads i = (if holds_page heads i.address then 1 else 0) + (if holds_page heads i.map then 1 else 0)

abbrev pub stored_by : Option WorkState → List StoredIntention
stored_by None = []
stored_by (Some s) = s.list

-- how many data pages a work holds
abbrev pub held_in : List WorkState → List Layout → WorkId → ℕ
held_in works heads w = total (held_of heads) (stored_by (find_by work_eq name_of works w))

-- which of its intentions name a map page
abbrev pub supplied_in : List WorkState → WorkId → List Bool
supplied_in works w = names_maps (stored_by (find_by work_eq name_of works w))

-- ---- rubbish

-- the work of an intention record that no prepared work has
abbrev pub rubbish_of : List Record → Record → List WorkId
rubbish_of pool (IntentionRecord work tid order i) = if list_any (is_prepared work) pool then [] else work ∷ []
rubbish_of pool _ = []

-- of each such record among these the work
abbrev pub rubbish_in : List Record → List Record → List WorkId
rubbish_in pool [] = []
rubbish_in pool (r ∷ rs) = rubbish_of pool r ++ rubbish_in pool rs

-- ---- what is seen

abbrev pub accounts_of : Memory → Accounts
accounts_of m = record {
  server = m.server;
  pool = m.table.counts.pool;
  heads = m.table.counts.heads;
  leaves = m.table.counts.leaves;
  free_records = free_count m.records;
  free_heads = free_numbers m.table.free_heads;
  free_pages = free_numbers m.table.free_leaves;
  promised_records = m.promised;
  promised_heads = m.table.free_heads.promised;
  rubbish = rubbish_in m.records m.records;
  next = next_in m.works;
  held = held_in m.works (layouts_in m.table);
  maps = maps_in m.table.heads;
  supplied = supplied_in m.works;
}

-- what is found is what the pages say, and the store is the one below
abbrev pub view_of : Memory → StoreView → StorageView
view_of m v = record { found = found_on m.table.counts v; accounts = accounts_of m; store = v }

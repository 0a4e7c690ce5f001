-- What the layers above see of a server's storage.
use Rattle.std.specs.Prelude.{◌≡◌, ◌≤◌, ◌<◌, ◌+◌, ◌&&◌, ℕ, Bool, true, false, nat_eq, List, [], length, count_by, is_some}
use Rattle.jn_base.specs.declared.names.ServerNo.{ServerNo}
use Rattle.jn_base.specs.declared.names.FileNo.{FileNo}
use Rattle.jn_base.specs.declared.names.LockUnit.{LockUnit}
use Rattle.jn_base.specs.declared.names.LockUnit.TheVariants.{File, Block}
use Rattle.jn_base.specs.declared.names.Tid.{Tid}
use Rattle.jn_base.specs.declared.names.WorkId.{WorkId}
use Rattle.jn_base.specs.Limits.{most_maps}
use Rattle.jn_base.specs.Names.{file_eq, tid_eq, work_eq, unit_eq}
use Rattle.jn_order.specs.Files.{Files}
use Rattle.jn_records.specs.declared.intention.Intention.{Intention}
use Rattle.jn_records.specs.MapPlaces.{MapPlaces, is_past_head}
use Rattle.jn_records.specs.NetLists.{heads_of, is_put_intention}
use Rattle.jn_store.specs.Store.{StoreView, StoreLater}
use Rattle.jn_rows.specs.Stable.{StableState, Pick, stable, IsUp}
use Rattle.jn_storage.specs.Listing.{IsListing, total}
use Rattle.jn_storage.specs.Orderly.{IsOrderly, file_there, list_of}

-- what is free and promised, what is rubbish, and how far works were carried out
pub record Accounts : Type 0 where
  -- the root's server, and how many records, heads and data pages there may be
  pub server : ServerNo
  pub pool : ℕ
  pub heads : ℕ
  pub leaves : ℕ
  -- slots without a record, heads without a file, data pages that no head, no map page of one and no prepared work names
  pub free_records : ℕ
  pub free_heads : ℕ
  pub free_pages : ℕ
  -- promised for flags, and for the fresh files of prepared works; a prepared work has its data pages already
  pub promised_records : ℕ
  pub promised_heads : ℕ
  -- of each record of an intention that no prepared work has, the work that had it
  pub rubbish : List WorkId
  -- how many of a work's intentions were carried out since the recovery
  pub next : WorkId → ℕ
  -- how many data pages a work's intentions name, for a block or as a map page, that no head and no map page of one does
  pub held : WorkId → ℕ
  -- of each of a work's intentions, whether it names a map page
  pub supplied : WorkId → List Bool
  -- which map pages heads name
  pub maps : MapPlaces

pub record StorageView : Type 0 where
  -- the stable state that each pick of pages gives
  pub found : Pick → StableState
  pub accounts : Accounts
  -- the store below: its power, its faults and its counts of calls and stops
  pub store : StoreView

-- what every call keeps, and so every run of calls
pub record StorageLater (v w : StorageView) : Type 0 where
  pub server : w.accounts.server ≡ v.accounts.server
  pub pool : w.accounts.pool ≡ v.accounts.pool
  pub heads : w.accounts.heads ≡ v.accounts.heads
  pub leaves : w.accounts.leaves ≡ v.accounts.leaves
  pub store : StoreLater v.store w.store

-- whether a register is that of a stored block
abbrev pub is_stored : Files → LockUnit → Bool
is_stored files (File f) = false
is_stored files (Block f p) = is_some (files (Block f p))

-- two map pages are the same: a file's, at a place among its map pages
abbrev pub map_eq : FileNo × ℕ → FileNo × ℕ → Bool
map_eq m n = file_eq m.0 n.0 && nat_eq m.1 n.1

abbrev pub has_map : MapPlaces → FileNo × ℕ → Bool
has_map maps m = maps m.0 m.1

-- a list names so many data pages at most: one for each put, and a map page for each put past the head's blocks
abbrev pub most_pages : List Intention → ℕ
most_pages list = count_by is_put_intention list + count_by is_past_head list

-- Everything is counted. No number is of anything else: what isn't in use is free.
pub record IsCounted (x : StableState) (a : Accounts) : Type 0 where
  -- the prepared works, the flags, the files, the stored blocks and the map pages, each once
  pub works : List WorkId
  pub flags : List Tid
  pub files : List FileNo
  pub blocks : List LockUnit
  pub maps : List (FileNo × ℕ)
  pub works_all : IsListing work_eq (λ w. is_some (x.works w)) works
  pub flags_all : IsListing tid_eq (λ t. is_some (x.flags t)) flags
  pub files_all : IsListing file_eq (file_there x.files) files
  pub blocks_all : IsListing unit_eq (is_stored x.files) blocks
  pub maps_all : IsListing map_eq (has_map a.maps) maps
  -- a record for each flag, each prepared work and each of its intentions, and the rubbish
  pub records : a.free_records + length flags + length works + total (λ w. length (list_of x w)) works + length a.rubbish ≡ a.pool
  pub heads_used : a.free_heads + length files ≡ a.heads
  pub pages : a.free_pages + length blocks + length maps + total a.held works ≡ a.leaves
  -- the promise of a work is its need of heads by the files as they are now
  pub promises : a.promised_heads ≡ total (λ w. heads_of (list_of x w) (file_there x.files)) works

-- between two calls, none of which was stopped
pub record IsServing (v : StorageView) : Type 0 where
  pub up : IsUp v.found
  pub power : v.store.power ≡ true
  pub orderly : IsOrderly v.accounts.server (stable v.found)
  pub counted : IsCounted (stable v.found) v.accounts
  -- promises can be kept
  pub records_fit : v.accounts.promised_records ≤ v.accounts.free_records
  pub heads_fit : v.accounts.promised_heads ≤ v.accounts.free_heads
  pub next_fits : (w : WorkId) → v.accounts.next w ≤ length (list_of (stable v.found) w)
  pub held_fits : (w : WorkId) → v.accounts.held w ≤ most_pages (list_of (stable v.found) w)
  -- no file has more map pages than a head names
  pub maps_fit : (f : FileNo) (j : ℕ) → v.accounts.maps f j ≡ true → j < most_maps

-- just after a recovery: nothing is promised for flags, nothing is rubbish, and nothing was carried out
pub record IsRecovered (v : StorageView) : Type 0 where
  pub serving : IsServing v
  pub promised : v.accounts.promised_records ≡ 0
  pub rubbish : v.accounts.rubbish ≡ []
  pub next : (w : WorkId) → v.accounts.next w ≡ 0

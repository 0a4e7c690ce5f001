-- What is kept in memory is what stands on the pages.
use Rattle.std.specs.Prelude.{◌≡◌, ◌<◌, ℕ, suc, Bool, true, false, List, map, drop, slice_get, Option, Some, None, option_map, option_and_then}
use Rattle.std.specs.List.{find}
use Rattle.jn_base.specs.declared.names.LockUnit.{LockUnit}
use Rattle.jn_base.specs.declared.names.Tid.{Tid}
use Rattle.jn_base.specs.declared.names.WorkId.{WorkId}
use Rattle.jn_base.specs.Names.{tid_eq, work_eq}
use Rattle.jn_files.specs.Table.{IsTable, is_held, exists}
use Rattle.jn_page_state.specs.Contents.{stored_list, works_name}
use Rattle.jn_page_state.specs.Standing.{IsStanding}
use Rattle.jn_records.specs.declared.flag.Flag.{Flag}
use Rattle.jn_records.specs.declared.head.Head.{Head}
use Rattle.jn_records.specs.declared.intention.StoredIntention.{StoredIntention}
use Rattle.jn_records.specs.declared.record.Record.{Record}
use Rattle.jn_records.specs.declared.record.Record.TheVariants.{Ready, Going, Flag as FlagRecord}
use Rattle.jn_records.specs.declared.work.WorkHead.{WorkHead}
use Rattle.jn_records.specs.declared.work.WorkState.{WorkState}
use Rattle.jn_records.specs.MapPlaces.{MapPlaces, maps_in, IsSuppliedBy}
use Rattle.jn_records.specs.NetLists.{is_fresh}
use Rattle.jn_records.specs.Pages.{root_page}
use Rattle.jn_records.specs.StablePages.{root_by}
use Rattle.jn_sets.specs.Pool.{is_prepared, is_flag}
use Rattle.jn_storage.specs.Listing.{are_different}
use Rattle.jn_storage.specs.Calls.{name_of, tid_of}
use Rattle.jn_storage.specs.Finding.{find_by}
use Rattle.jn_store.specs.Store.{StoreView, IsOnly}
use Rattle.jn_recovery.specs.Memory.{Memory}

-- ---- works

-- a prepared work with its intentions as its records have them, apart from how far it was carried out
pub record StoredWork : Type 0 where
  pub head : WorkHead
  pub list : List StoredIntention
  pub reads : List LockUnit
  pub going : Bool

abbrev pub stored_work : WorkState → StoredWork
stored_work s = record { head = s.head; list = s.list; reads = s.reads; going = s.going }

abbrev pub work_by : List Record → WorkId → Record → Option StoredWork
work_by pool w (Ready head n reads) = Some (record { head = head; list = stored_list pool w n; reads = reads; going = false })
work_by pool w (Going head n reads) = Some (record { head = head; list = stored_list pool w n; reads = reads; going = true })
work_by pool w _ = None

-- each work is listed once, as its records have it
pub record WorksMatch (pool : List Record) (works : List WorkState) : Type 0 where
  pub differ : are_different work_eq (map name_of works) ≡ true
  pub each : (w : WorkId) → option_map stored_work (find_by work_eq name_of works w) ≡ option_and_then (work_by pool w) (find (is_prepared w) pool)

-- the files that a work has made so far are there
abbrev pub IsMade : List Head → Option WorkState → Type 0
IsMade heads None = Unit {0}
IsMade heads (Some s) = (k : ℕ) (i : StoredIntention) → k < s.next → slice_get s.list k ≡ Some i → is_fresh i.what ≡ true → exists heads i.file ≡ true

abbrev pub AreMade : List Head → List WorkState → Type 0
AreMade heads works = (w : WorkId) → IsMade heads (find_by work_eq name_of works w)

-- each put that is left of a work names a map page where it finds none in its turn
abbrev pub HasMaps : MapPlaces → Option WorkState → Type 0
HasMaps places None = Unit {0}
HasMaps places (Some s) = IsSuppliedBy places (drop s.next s.list)

abbrev pub HaveMaps : MapPlaces → List WorkState → Type 0
HaveMaps places works = (w : WorkId) → HasMaps places (find_by work_eq name_of works w)

-- ---- flags

abbrev pub flag_on : Record → Option Flag
flag_on (FlagRecord flag) = Some flag
flag_on _ = None

-- each flag is listed once, as its record has it
pub record FlagsMatch (pool : List Record) (flags : List Flag) : Type 0 where
  pub differ : are_different tid_eq (map tid_of flags) ≡ true
  pub each : (t : Tid) → find_by tid_eq tid_of flags t ≡ option_and_then flag_on (find (is_flag t) pool)

-- ---- all

pub record Matches (m : Memory) (v : StoreView) : Type 0 where
  pub standing : IsStanding m.server m.table.counts v m.epoch m.records m.table.heads m.table.maps
  -- the root is of the version that is written
  pub root : IsOnly v 0 (root_page (root_by m.server m.table.counts m.epoch))
  pub table : IsTable m.table
  pub works : WorksMatch m.records m.works
  pub made : AreMade m.table.heads m.works
  pub supplied : HaveMaps (maps_in m.table.heads) m.works
  pub flags : FlagsMatch m.records m.flags
  -- a data page is held exactly where an intention of a prepared work names it, for its block or as a map page
  pub held : (a : ℕ) → is_held m.table a ≡ works_name m.records (suc a)

-- So it is while the store has power; after a call that was stopped it has none, and only the store counts.
abbrev pub IsKeptMemory : Memory → StoreView → Type 0
IsKeptMemory m v = v.power ≡ true → Matches m v

-- What stands on the store while a recovery goes on: v is the store that it was given.
use Rattle.std.specs.Prelude.{◌≡◌, ◌≤◌, ◌<◌, ◌+◌, ◌*◌, ℕ, true, List, [], Result, Ok, Err}
use Rattle.jn_base.specs.declared.names.ServerNo.{ServerNo}
use Rattle.jn_files.specs.Calls.{IsLoaded as IsTableLoaded, MendsMaps}
use Rattle.jn_page_state.specs.Pages.{found_on, heads_on, pages_by, pool_on}
use Rattle.jn_page_state.specs.Standing.{IsStanding, standing_state}
use Rattle.jn_page_state.specs.Recoverable.{IsRecoverable}
use Rattle.jn_records.specs.declared.head.Head.{Head}
use Rattle.jn_records.specs.declared.record.Record.{Record}
use Rattle.jn_records.specs.declared.root.Root.{Root}
use Rattle.jn_records.specs.MapPlaces.{maps_named}
use Rattle.jn_records.specs.Pages.{root_page, format_version, last_epoch}
use Rattle.jn_records.specs.StablePages.{Counts, root_by, data_place}
use Rattle.jn_rows.specs.Stable.{Pick, Unchanged}
use Rattle.jn_store.specs.Store.{StoreView, StoreLater, IsCalm, IsClean, IsOnly, IsSamePage, IsWholePage, IsStop}
use Rattle.jn_recovery.specs.Loading.{reading_calls, front_count, KeepsDataPages, IsCleanBehindRoot}
use Rattle.jn_recovery.specs.Counts.{most_calls}
use Rattle.jn_recovery.specs.Pages.{supplied_on}
use Rattle.jn_recovery.specs.Memory.{rubbish_in}
use Rattle.jn_recovery.specs.declared.load.DownCause.{DownCause}
use Rattle.jn_recovery.specs.declared.load.DownCause.TheVariants.{Stopped, Memory, EpochsUsedUp}
use Rattle.jn_recovery.specs.declared.opening.Opened.{Opened}

-- ---- the root

-- a root is read, unless its epoch is the last
abbrev pub RootRead : Root → Result Root DownCause → Type 0
RootRead root (Ok r) = (r ≡ root) × (root.epoch < last_epoch)
RootRead root (Err Stopped) = Unit {0}
RootRead root (Err EpochsUsedUp) = root.epoch ≡ last_epoch
RootRead root (Err Memory) = ⊥

-- of the version that is written, whichever was read
abbrev pub next_root : Root → Root
next_root r = record r { version = format_version; epoch = r.epoch + 1 }

-- ---- the store

-- all data pages are as they were
abbrev pub KeepsAllData : Counts → StoreView → StoreView → Type 0
KeepsAllData g v w = (d : ℕ) → d < g.leaves → IsSamePage v w (data_place g d)

-- The store stands, and each pick finds what one pick found before, which had one epoch, with another. So many calls were made, and those for
-- the map pages that heads name.
pub record Stands (server : ServerNo) (g : Counts) (v : StoreView) (most was epoch : ℕ) (records : List Record) (heads : List Head) (maps : List (List ℕ)) (w : StoreView) : Type 0 where
  pub later : StoreLater v w
  pub calls : w.calls ≤ v.calls + (most + 24 * maps_named heads)
  pub stops : w.stops ≡ v.stops
  pub standing : IsStanding server g w epoch records heads maps
  pub before : Pick
  pub heads_read : heads ≡ heads_on g (pages_by v before)
  pub supplied : supplied_on records ≡ supplied_on (pool_on g (pages_by v before))
  pub old : (found_on g v before).epoch ≡ was
  pub found : (c : Pick) → found_on g w c ≡ record (found_on g v before) { epoch = epoch }
  pub clean : (i : ℕ) → i < front_count g → IsClean w i
  pub whole : IsCalm v → (i : ℕ) → i < front_count g → IsWholePage w i
  pub mended : MendsMaps g heads v w
  pub data_pages : KeepsDataPages g v w

-- root, records and heads were cleaned and read
pub record IsOpened (server : ServerNo) (g : Counts) (v : StoreView) (o : Opened) (w : StoreView) : Type 0 where
  pub root : o.root ≡ record (root_by server g o.root.epoch) { version = o.root.version }
  pub last : o.root.epoch < last_epoch
  pub table : IsTableLoaded g o.table
  pub stands : Stands server g v (reading_calls g) o.root.epoch o.root.epoch o.sets o.table.heads o.table.maps w

-- ---- rubbish

-- so many records at most were erased, each by one put that changes nothing that is found
pub record Erases (server : ServerNo) (g : Counts) (v : StoreView) (epoch : ℕ) (heads : List Head) (maps : List (List ℕ)) (most : ℕ) (before records : List Record) (w : StoreView) : Type 0 where
  pub later : StoreLater v w
  pub calls : w.calls ≤ v.calls + 16 * most
  pub stops : w.stops ≡ v.stops
  pub power : v.power ≡ true → w.power ≡ true
  pub standing : IsStanding server g w epoch records heads maps
  pub supplied : supplied_on records ≡ supplied_on before
  pub unchanged : Unchanged (standing_state g v) (found_on g w)
  pub root : IsSamePage v w 0
  pub clean : (i : ℕ) → i < v.count → IsClean v i → IsClean w i
  pub data_pages : KeepsAllData g v w

-- one more was stopped
pub record EraseStopped (server : ServerNo) (g : Counts) (v : StoreView) (most : ℕ) (w : StoreView) : Type 0 where
  pub later : StoreLater v w
  pub calls : w.calls ≤ v.calls + 16 * most
  pub stop : IsStop v w
  pub recoverable : IsRecoverable server g w
  pub unchanged : Unchanged (standing_state g v) (found_on g w)
  pub clean : IsCleanBehindRoot g w
  pub data_pages : KeepsAllData g v w

-- no record is rubbish any more
pub record ErasesAll (server : ServerNo) (g : Counts) (v : StoreView) (epoch : ℕ) (heads : List Head) (maps : List (List ℕ)) (before records : List Record) (w : StoreView) : Type 0 where
  pub erases : Erases server g v epoch heads maps g.pool before records w
  pub none_left : rubbish_in records records ≡ []

-- ---- a new epoch

-- the root has the next epoch and the version that is written, and no record is rubbish
pub record IsBegun (server : ServerNo) (g : Counts) (v : StoreView) (o : Opened) (epoch : ℕ) (w : StoreView) : Type 0 where
  pub root : o.root ≡ record (root_by server g o.root.epoch) { version = o.root.version }
  pub last : o.root.epoch < last_epoch
  pub next : epoch ≡ o.root.epoch + 1
  pub table : IsTableLoaded g o.table
  pub stands : Stands server g v (most_calls g 0) o.root.epoch epoch o.sets o.table.heads o.table.maps w
  pub written : IsOnly w 0 (root_page (root_by server g epoch))
  pub power : w.power ≡ true
  pub none_left : rubbish_in o.sets o.sets ≡ []

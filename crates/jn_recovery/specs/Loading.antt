-- What a recovery does, from its store before to the storage, or where there is none to the store that it gives back.
use Rattle.std.specs.Prelude.{◌≡◌, ◌≢◌, ◌⊎◌, ◌≤◌, ◌<◌, ◌+◌, ◌*◌, ◌^◌, ℕ, suc, true, false, is_some}
use Rattle.jn_base.specs.declared.names.ServerNo.{ServerNo}
use Rattle.jn_base.specs.declared.names.Tid.{Tid}
use Rattle.jn_base.specs.declared.names.WorkId.{WorkId}
use Rattle.jn_page_state.specs.Changes.{is_idle}
use Rattle.jn_page_state.specs.Pages.{found_on, heads_on, pages_by, pool_on}
use Rattle.jn_page_state.specs.Puts.{IsFewer, IsFrontClean, IsFrontWhole}
use Rattle.jn_page_state.specs.Recoverable.{IsRecoverable, NamedAreClean, MapsAreClean}
use Rattle.jn_page_state.specs.Recovery.{FindsSame}
use Rattle.jn_files.specs.Table.{TableView, is_touched}
use Rattle.jn_records.specs.Layouts.{IsNoMap}
use Rattle.jn_records.specs.MapPlaces.{maps_in}
use Rattle.jn_records.specs.Pages.{root_page, last_epoch}
use Rattle.jn_records.specs.StablePages.{Counts, root_by, slot_place, head_place, data_place}
use Rattle.jn_rows.specs.Stable.{StableState, Pick}
use Rattle.jn_sets.specs.Pool.{record_in}
use Rattle.jn_storage.specs.Storage.{StorageView, IsRecovered}
use Rattle.jn_storage.specs.Calls.{state, TellsFlags}
use Rattle.jn_store.specs.Store.{StoreView, StoreLater, IsCalm, IsClean, IsOnly, IsSamePage, IsStop}
use Rattle.jn_recovery.specs.declared.load.DownCause.{DownCause}
use Rattle.jn_recovery.specs.declared.load.DownCause.TheVariants.{Stopped, Memory, EpochsUsedUp}
use Rattle.jn_recovery.specs.declared.load.Found.{Found}
use Rattle.jn_recovery.specs.Counts.{calls_by}
use Rattle.jn_recovery.specs.Pages.{supplied_on}

-- the same files, works and flags, in the same epoch or the next one
pub record IsSameOrNext (x y : StableState) : Type 0 where
  pub same : y ≡ record x { epoch = y.epoch }
  pub epoch : (y.epoch ≡ x.epoch) ⊎ (y.epoch ≡ suc x.epoch)

-- how many pages root, records and heads take, before which no data page stands
abbrev pub front_count : Counts → ℕ
front_count g = 1 + g.pool + g.heads

-- Each of them is cleaned and read.
abbrev pub reading_calls : Counts → ℕ
reading_calls g = 24 * front_count g

-- no data page has another half, but those that a head names as a map page by some pick: none else was cleaned or put
abbrev pub KeepsDataPages : Counts → StoreView → StoreView → Type 0
KeepsDataPages g v w = (d : ℕ) → d < g.leaves → ((c : Pick) → IsNoMap (heads_on g (pages_by v c)) d) → IsSamePage v w (data_place g d)

-- no data page was touched since the table was loaded, so each is cleaned before its first get
abbrev pub IsUntouched : TableView → Type 0
IsUntouched t = (a : ℕ) → is_touched t a ≡ false

-- by each pick the record at a slot counts for nothing
abbrev pub IsIdleSlot : Counts → StoreView → ℕ → Type 0
IsIdleSlot g v slot = (c : Pick) → is_idle (pool_on g (pages_by v c)) (record_in (pool_on g (pages_by v c)) slot) ≡ true

-- All but the root is clean: each record (or it counts for nothing, and its erasure was stopped), each head, and each map page that
-- a head names.
pub record IsCleanBehindRoot (g : Counts) (v : StoreView) : Type 0 where
  pub records : (i : ℕ) → i < g.pool → IsClean v (slot_place g i) ⊎ IsIdleSlot g v i
  pub heads : (i : ℕ) → i < g.heads → IsClean v (head_place g i)
  pub maps : MapsAreClean g v

-- The restart is counted last: each pick finds an epoch that some pick found before, or all but the root is clean. So no root with a
-- new epoch is put before that.
abbrev pub CountsRestartLast : Counts → StoreView → StoreView → Type 0
CountsRestartLast g v w = ((c : Pick) → (b : Pick) × ((found_on g w c).epoch ≡ (found_on g v b).epoch)) ⊎ IsCleanBehindRoot g w

-- What a recovery leaves, however it ended: the next one may begin there, and by each pick it finds what some pick found
-- before, in the same epoch or the next. The data pages stay as they were, but for map pages. It has cleaned and read no more map pages
-- than heads name by this pick, and counts itself in the root once all else is clean.
pub record Recovering (server : ServerNo) (g : Counts) (v : StoreView) (pick : Pick) (w : StoreView) : Type 0 where
  pub later : StoreLater v w
  pub calls : w.calls ≤ v.calls + calls_by g v pick
  pub recoverable : IsRecoverable server g w
  pub each : (c : Pick) → (b : Pick) × IsSameOrNext (found_on g v b) (found_on g w c)
  pub finds : FindsSame g v w
  pub counted_last : CountsRestartLast g v w
  pub data_pages : KeepsDataPages g v w

-- There is a storage, of what some pick found before, in the next epoch. Root, records, heads and map pages are clean, and so is
-- each data page that is named for a block; of the others nothing is said.
pub record IsLoaded (server : ServerNo) (g : Counts) (v : StoreView) (told : Found) (w : StorageView) : Type 0 where
  pub before : Pick
  pub recovering : Recovering server g v before w.store
  pub server_is : w.accounts.server ≡ server
  pub pool : w.accounts.pool ≡ g.pool
  pub heads : w.accounts.heads ≡ g.heads
  pub leaves : w.accounts.leaves ≡ g.leaves
  pub recovered : IsRecovered w
  -- one state, whatever is picked now
  pub found : (c : Pick) → w.found c ≡ record (found_on g v before) { epoch = suc (found_on g v before).epoch }
  -- the map pages that heads name there, and what prepared works name
  pub maps : w.accounts.maps ≡ maps_in (heads_on g (pages_by v before))
  pub supplied : w.accounts.supplied ≡ supplied_on (pool_on g (pages_by v before))
  pub epoch : told.epoch ≡ (state w).epoch
  pub epoch_fits : told.epoch < 2 ^ 32
  -- the root has this epoch and the version that is written, whichever was read
  pub root : IsOnly w.store 0 (root_page (root_by server g told.epoch))
  pub flags : TellsFlags w told.flags
  -- what is found is of earlier epochs
  pub works_earlier : (work : WorkId) → is_some ((state w).works work) ≡ true → work.epoch < (state w).epoch
  pub flags_earlier : (t : Tid) → is_some ((state w).flags t) ≡ true → t.epoch < (state w).epoch
  pub front : IsFrontClean g w.store
  pub front_whole : IsCalm v → IsFrontWhole g w.store
  pub maps_clean : MapsAreClean g w.store
  pub named : NamedAreClean g w.store
  pub no_stop : w.store.stops ≡ v.stops

-- the root that was read has the last epoch, and nothing was put but by cleanups
pub record IsUsedUp (g : Counts) (v w : StoreView) : Type 0 where
  pub read : Pick
  pub last : (found_on g v read).epoch ≡ last_epoch
  pub fewer : IsFewer v w
  -- each pick reads that root now
  pub all : (c : Pick) → (found_on g w c).epoch ≡ last_epoch
  -- no call was stopped
  pub power : w.power ≡ true

-- the root that was read has an epoch before the last
pub record IsNotUsedUp (g : Counts) (v : StoreView) : Type 0 where
  pub read : Pick
  pub before_last : (found_on g v read).epoch < last_epoch

-- There is no storage.
pub record IsDown (server : ServerNo) (g : Counts) (v : StoreView) (cause : DownCause) (w : StoreView) : Type 0 where
  pub some : Pick
  pub recovering : Recovering server g v some w
  pub stop : cause ≡ Stopped → IsStop v w
  pub calm : IsCalm v → cause ≢ Stopped
  pub used_up : cause ≡ EpochsUsedUp → IsUsedUp g v w
  pub memory : cause ≡ Memory → IsNotUsedUp g v

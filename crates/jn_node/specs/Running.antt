-- A server that is up on its store, and how it changes by a row.
use Rattle.std.specs.Prelude.{◌≡◌, ◌<◌, ◌+◌, ℕ, List, [], length, Some, is_some}
use Rattle.jn_base.specs.Names.{tid_eq, unit_eq, work_eq}
use Rattle.jn_base.specs.declared.names.FileNo.{FileNo}
use Rattle.jn_base.specs.declared.names.LockUnit.{LockUnit}
use Rattle.jn_base.specs.declared.names.ServerNo.{ServerNo}
use Rattle.jn_base.specs.declared.names.Tid.{Tid}
use Rattle.jn_base.specs.declared.names.WorkId.{WorkId}
use Rattle.jn_device.specs.Happens.{Happens}
use Rattle.jn_locks.specs.Locks.{work_before}
use Rattle.jn_page_state.specs.Images.{IsImage}
use Rattle.jn_page_state.specs.Pages.{found_on, heads_on, pages_by, pool_on}
use Rattle.jn_page_state.specs.Recoverable.{IsRecoverable}
use Rattle.jn_page_state.specs.Standing.{standing_state}
use Rattle.jn_records.specs.MapPlaces.{maps_in}
use Rattle.jn_records.specs.StablePages.{Counts, page_count}
use Rattle.jn_records.specs.Pages.{last_epoch}
use Rattle.jn_rows.specs.Outcomes.{RowOutcome}
use Rattle.jn_rows.specs.Stable.{StableState, Prepared, Pick, IsUp, made_all}
use Rattle.jn_server.specs.Counted.{CountsAll}
use Rattle.jn_server.specs.Standing.{standing_pages, free_on, beside_on, has_rubbish}
use Rattle.jn_storage.specs.Listing.{IsListing, total}
use Rattle.jn_storage.specs.Storage.{has_map, is_stored, map_eq}
use Rattle.jn_store.specs.Store.{StoreView, IsCalm}
use Rattle.jn_system.specs.WholeSystem.Servers.{Room, restored}
use Rattle.jn_system.specs.WholeSystem.Steps.{AreNames, tid_before}
use Rattle.jn_system.specs.WholeSystem.World.{Memory, with_epoch}
use Rattle.jn_worker.specs.Calls.{pages_named}
use Rattle.jn_worker.specs.Leaving.{Beside}

-- what it remembers, the store that it stands on, and how many data pages each prepared work holds: those that its intentions name, for a
-- block or as a map page, and no head and no map page of one
pub record Running : Type 0 where
  pub memory : Memory
  pub store : StoreView
  pub held : WorkId → ℕ

abbrev pub state_of : Counts → Running → StableState
state_of g x = standing_state g x.store

-- rubbish, map pages, and which intentions name one
abbrev pub beside_at : Counts → Running → Beside
beside_at g x = beside_on g (standing_pages x.store)

-- what is free and not promised, which map pages there are, and whether a record is rubbish, as it stands on the pages
abbrev pub room_on : Counts → Running → Room
room_on g x = let pages = standing_pages x.store in record { free = free_on g pages (state_of g x) x.memory; maps = maps_in (heads_on g pages); rubbish = has_rubbish (pool_on g pages) }

-- ---- between two rows

-- Each data page is free, that of a stored block, a map page that a head names, or held by a prepared work, and there is no other. So what is
-- free follows from files, map pages and what works hold.
pub record ArePagesCounted (g : Counts) (x : Running) : Type 0 where
  pub works : List WorkId
  pub blocks : List LockUnit
  pub maps : List (FileNo × ℕ)
  pub works_all : IsListing work_eq (λ W. is_some ((state_of g x).works W)) works
  pub blocks_all : IsListing unit_eq (is_stored (state_of g x).files) blocks
  pub maps_all : IsListing map_eq (has_map (beside_at g x).maps) maps
  pub pages_all : (room_on g x).free.pages + length blocks + length maps + total x.held works ≡ g.leaves

-- A work that was prepared in this epoch, and of which nothing is carried out yet, holds each page that it names.
abbrev pub HoldsAll : Counts → Running → Type 0
HoldsAll g x = (W : WorkId) (p : Prepared) → (state_of g x).works W ≡ Some p → W.epoch ≡ (state_of g x).epoch → x.memory.next W ≡ 0
    → x.held W ≡ pages_named p.list ((beside_at g x).supplied W)

-- Each pick finds one state, no fault waits or was reported, and a recovery may begin. Records, heads and data pages are those of what is
-- found, but for rubbish, and there is no other.
pub record IsMoment (s : ServerNo) (g : Counts) (x : Running) : Type 0 where
  pub up : IsUp (found_on g x.store)
  pub calm : IsCalm x.store
  pub told : x.store.told ≡ []
  pub recoverable : IsRecoverable s g x.store
  pub counted : CountsAll g (state_of g x) (standing_pages x.store)
  pub pages : ArePagesCounted g x
  pub held : HoldsAll g x

-- A row is done: by each pick all its changes are made and no other, and so much stands beside files, works and flags. The store is
-- reached by calls of its device alone.
pub record IsMade (s : ServerNo) (g : Counts) (row : RowOutcome Memory) (left : Beside) (x y : Running) : Type 0 where
  pub memory : y.memory ≡ row.table
  pub found : (c : Pick) → found_on g y.store c ≡ made_all row.changes (state_of g x)
  pub beside : beside_at g y ≡ left
  pub happens : Happens x.store.device y.store.device
  pub moment : IsMoment s g y

-- ---- up and down

-- It came up on this store: it remembers the works and flags of what some pick found there, and nothing else, in the next epoch.
pub record IsOpen (s : ServerNo) (g : Counts) (v : StoreView) (x : Running) : Type 0 where
  pub pick : Pick
  pub works : List WorkId
  pub tids : List Tid
  pub work_names : AreNames work_eq work_before (found_on g v pick).works works
  pub flag_names : AreNames tid_eq tid_before (found_on g v pick).flags tids
  pub memory : x.memory ≡ restored s (found_on g v pick) works tids
  pub found : (c : Pick) → found_on g x.store c ≡ with_epoch (found_on g v pick)
  pub before_last : (found_on g v pick).epoch < last_epoch
  pub beside : beside_at g x ≡ record (beside_on g (pages_by v pick)) { rubbish = 0 }
  pub happens : Happens v.device x.store.device
  pub moment : IsMoment s g x

-- It went down and came up once more, in the next epoch, and its pages are then those of a sound image of its files.
pub record IsClosedTo (s : ServerNo) (g : Counts) (x : Running) (v : StoreView) : Type 0 where
  pub before_last : (state_of g x).epoch < last_epoch
  pub found : (c : Pick) → found_on g v c ≡ with_epoch (state_of g x)
  pub image : IsImage s g (state_of g x).files v
  pub count : page_count g ≡ v.count
  pub happens : Happens x.store.device v.device

-- How a server comes up, and what a restart that doesn't leaves.
use Rattle.std.specs.Prelude.{◌≡◌, ◌≤◌, ◌+◌, ℕ, List}
use Rattle.jn_base.specs.declared.names.ServerNo.{ServerNo}
use Rattle.jn_base.specs.declared.names.Tid.{Tid}
use Rattle.jn_base.specs.declared.names.WorkId.{WorkId}
use Rattle.jn_base.specs.Names.{tid_eq, work_eq}
use Rattle.jn_locks.specs.Locks.{work_before}
use Rattle.jn_records.specs.StablePages.{Counts}
use Rattle.jn_rows.specs.Stable.{StableState, Change, Pick, Left, left_of}
use Rattle.jn_page_state.specs.Pages.{found_on}
use Rattle.jn_page_state.specs.Recoverable.{IsRecoverable}
use Rattle.jn_store.specs.Store.{StoreView}
use Rattle.jn_storage.specs.Storage.{StorageView}
use Rattle.jn_recovery.specs.declared.load.DownCause.{DownCause}
use Rattle.jn_recovery.specs.declared.load.Found.{Found}
use Rattle.jn_recovery.specs.Loading.{IsLoaded, IsDown}
use Rattle.jn_intent.specs.Scrubbing.{counts_in}
use Rattle.jn_worker.specs.Fitting.{WorkerView}
use Rattle.jn_worker.specs.Restoring.{Restores}
use Rattle.jn_coord.specs.Remembered.{Remembered}
use Rattle.jn_coord.specs.Restoring.{Restored}
use Rattle.jn_system.specs.WholeSystem.Servers.{restored}
use Rattle.jn_system.specs.WholeSystem.Steps.{AreNames, tid_before}
use Rattle.jn_server.specs.Seen.{ServerView, memory_of, IsServer}

pub record AreTables (v : StorageView) (t : WorkerView) (r : Remembered) : Type 0 where
  pub works : Restores v t
  pub flags : Restored v r

-- ---- any number of restarts

-- a state that a stop within these changes may have left, in whatever epoch
pub record IsWithin (x : StableState) (changes : List Change) (y : StableState) : Type 0 where
  pub left : Left
  pub is_after : y ≡ record (left_of left changes x) { epoch = y.epoch }

-- by each pick such a state is found
abbrev pub AreWithin : StableState → List Change → (Pick → StableState) → Type 0
AreWithin x changes found = (c : Pick) → IsWithin x changes (found c)

-- each epoch lies between these two
pub record AreBetween (low high : ℕ) (found : Pick → StableState) : Type 0 where
  pub least : (c : Pick) → low ≤ (found c).epoch
  pub most : (c : Pick) → (found c).epoch ≤ high

-- A restart, done or not, falls behind no change that was there before, and adds none: this holds of the states that are
-- found after it too, in an epoch more at most.
pub record Composes (before after : Pick → StableState) : Type 0 where
  pub within : (x : StableState) (changes : List Change) → AreWithin x changes before → AreWithin x changes after
  pub between : (low high : ℕ) → AreBetween low high before → AreBetween low (high + 1) after

-- ---- the restart

-- The server remembers the works and flags of what some pick found before, and all else is forgotten.
pub record IsRestarted (server : ServerNo) (g : Counts) (v : StoreView) (told : Found) (w : ServerView) : Type 0 where
  pub loaded : IsLoaded server g v told w.storage
  pub works : List WorkId
  pub tids : List Tid
  pub work_names : AreNames work_eq work_before (found_on g v loaded.before).works works
  pub flag_names : AreNames tid_eq tid_before (found_on g v loaded.before).flags tids
  pub remembers : memory_of w ≡ restored server (found_on g v loaded.before) works tids
  pub serves : IsServer w
  pub composes : Composes (found_on g v) w.storage.found

-- There is no server. The next restart may begin from the store.
pub record IsNotRestarted (server : ServerNo) (g : Counts) (v : StoreView) (cause : DownCause) (w : StoreView) : Type 0 where
  pub down : IsDown server g v cause w
  pub composes : Composes (found_on g v) (found_on g w)

-- ---- a crash

-- nothing but the store is left, from which a restart may begin, and what is found there is what was found
pub record IsLeft (v : ServerView) (store : StoreView) : Type 0 where
  pub same : store ≡ v.storage.store
  pub recoverable : IsRecoverable v.storage.accounts.server (counts_in v.storage.accounts) store
  pub found : (c : Pick) → found_on (counts_in v.storage.accounts) store c ≡ v.storage.found c

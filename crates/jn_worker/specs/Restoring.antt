-- How a worker's table is made from the works of a storage.
use Rattle.std.specs.Prelude.{◌≡◌, Bool, true, ◌&&◌, List, [], ◌∷◌, is_some}
use Rattle.jn_base.specs.declared.names.WorkId.{WorkId}
use Rattle.jn_base.specs.Names.{work_eq}
use Rattle.jn_locks.specs.Locks.{work_before}
use Rattle.jn_rows.specs.Stable.{is_going}
use Rattle.jn_rows.specs.Worker.{restored_worker}
use Rattle.jn_storage.specs.Listing.{is_in, IsListing}
use Rattle.jn_storage.specs.Storage.{StorageView}
use Rattle.jn_storage.specs.Calls.{state}
use Rattle.jn_worker.specs.Fitting.{WorkerView, Fits}

-- whether each name comes before the next
abbrev pub comes_before : WorkId → List WorkId → Bool
comes_before W [] = true
comes_before W (V ∷ Vs) = work_before W V && comes_before W Vs

abbrev pub names_rise : List WorkId → Bool
names_rise [] = true
names_rise (W ∷ Ws) = comes_before W Ws && names_rise Ws

-- the names of the prepared works, in rising order
pub record IsFor (v : StorageView) (names : List WorkId) : Type 0 where
  pub all : IsListing work_eq (λ W. is_some ((state v).works W)) names
  pub rising : names_rise names ≡ true

-- these works are restored
pub record RestoredTo (v : StorageView) (names : List WorkId) (t : WorkerView) : Type 0 where
  pub table : t.table ≡ restored_worker (state v) names
  pub going : (W : WorkId) → is_in work_eq W t.going ≡ (is_in work_eq W names && is_going ((state v).works W))

-- the worker of a storage that was recovered: its works are the prepared ones, in rising order of their names
pub record Restores (v : StorageView) (t : WorkerView) : Type 0 where
  pub names : List WorkId
  pub are_for : IsFor v names
  pub row : t.table ≡ restored_worker (state v) names
  pub fits : Fits t v

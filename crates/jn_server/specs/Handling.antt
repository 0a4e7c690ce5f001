-- What a call of a server does whose row this is.
use Rattle.std.specs.Prelude.{◌≡◌, ◌≤◌, ◌+◌, ◌-◌, ℕ, Bool, true, false, ⊤, List, [], ◌∷◌, Option, Some, None, is_some, Result, Ok, Err, is_ok}
use Rattle.jn_base.specs.declared.names.Tid.{Tid}
use Rattle.jn_msgs.specs.Collected.{Collected}
use Rattle.jn_rows.specs.Outcomes.{RowOutcome}
use Rattle.jn_rows.specs.Worker.{timeout_row}
use Rattle.jn_rows.specs.Stable.{StableState, Change, Pick, IsStopState, made_all}
use Rattle.jn_storage.specs.Storage.{StorageLater}
use Rattle.jn_storage.specs.Calls.{state, CountsErased}
use Rattle.jn_storage.specs.DeviceCalls.{step_calls}
use Rattle.jn_store.specs.Store.{IsCalm, IsStop}
use Rattle.jn_transactions.specs.Telling.{added}
use Rattle.jn_worker.specs.Leaving.{Beside, beside_of, left_over}
use Rattle.jn_system.specs.WholeSystem.World.{Memory}
use Rattle.jn_system.specs.WholeSystem.Servers.{server_timeout}
use Rattle.jn_base.specs.declared.fault.CallFault.{CallFault}
use Rattle.jn_base.specs.declared.fault.CallFault.TheVariants.{Stopped, Memory as NoMemory}
use Rattle.jn_server.specs.Seen.{ServerView, memory_of, IsServer}

-- what stands beside files, works and flags is what the row's changes leave of it
abbrev pub LeavesBeside : ServerView → RowOutcome Memory → ServerView → Type 0
LeavesBeside v row w = beside_of w.storage.accounts ≡ left_over (state v.storage) row.changes (beside_of v.storage.accounts)

-- It is done: all the row's changes are made, whichever halves are read, and its messages and notes are reported.
pub record IsDone (most : ℕ) (row : RowOutcome Memory) (v : ServerView) (before : Collected) (w : ServerView) (after : Collected) : Type 0 where
  pub memory : memory_of w ≡ row.table
  pub found : (c : Pick) → w.storage.found c ≡ made_all row.changes (state v.storage)
  pub sent : after ≡ added before row.messages row.notes
  pub serves : IsServer w
  pub later : StorageLater v.storage w.storage
  pub calls : w.storage.store.calls ≤ v.storage.store.calls + most
  pub no_stop : w.storage.store.stops ≡ v.storage.store.stops

-- It is stopped: by each pick some of the row's changes are made, from the first one on, and nothing is sent or reported. While no
-- fault waits that doesn't happen.
pub record IsStopped (most : ℕ) (row : RowOutcome Memory) (v : ServerView) (before : Collected) (w : ServerView) (after : Collected) : Type 0 where
  pub some : (c : Pick) → IsStopState (state v.storage) row.changes (w.storage.found c)
  pub silent : after ≡ before
  pub later : StorageLater v.storage w.storage
  pub calls : w.storage.store.calls ≤ v.storage.store.calls + most
  pub stop : IsStop v.storage.store w.storage.store
  pub not_calm : IsCalm v.storage.store → ⊥

-- without memory the server is of no use any more
abbrev pub Does : {A : Type 0} → ℕ → RowOutcome Memory → ServerView → Collected → Result A CallFault → ServerView → Collected → Type 0
Does most row v before (Ok x) w after = IsDone most row v before w after
Does most row v before (Err Stopped) w after = IsStopped most row v before w after
Does most row v before (Err NoMemory) w after = ⊤

-- what a step's row leaves: one without changes erases one rubbish record
abbrev pub StepLeaves : ServerView → RowOutcome Memory → ServerView → Type 0
StepLeaves v row w = (row.changes ≡ [] → CountsErased v.storage.accounts w.storage.accounts) × ((c : Change) → row.changes ≡ c ∷ [] → LeavesBeside v row w)

-- a background step without changes erases a rubbish record, and any other leaves what its changes leave
abbrev pub left_by_work : StableState → List Change → Beside → Beside
left_by_work x [] b = record b { rubbish = b.rubbish - 1 }
left_by_work x changes b = left_over x changes b

-- what stands beside files, works and flags is what this row of a background step leaves of it
abbrev pub LeavesByWork : ServerView → RowOutcome Memory → ServerView → Type 0
LeavesByWork v row w = beside_of w.storage.accounts ≡ left_by_work (state v.storage) row.changes (beside_of v.storage.accounts)

-- A background step whose row this is: it is answered true, and false where there is none and nothing is done.
abbrev pub Steps : Option (RowOutcome Memory) → ServerView → Collected → Result Bool CallFault → ServerView → Collected → Type 0
Steps None v before answer w after = (answer ≡ Ok false) × (w ≡ v) × (after ≡ before)
Steps (Some row) v before answer w after =
    Does step_calls row v before answer w after × (is_ok answer ≡ true → answer ≡ Ok true) × (is_ok answer ≡ true → StepLeaves v row w)

-- A timeout of a transaction: true exactly where a work of it is live. Only the worker's table changes.
pub record TimesOut (T : Tid) (v : ServerView) (answer : Bool) (w : ServerView) : Type 0 where
  pub live : answer ≡ is_some (timeout_row v.worker.table T)
  pub memory : memory_of w ≡ server_timeout (memory_of v) T
  pub others : w ≡ record v { worker = w.worker }
  pub same : answer ≡ false → w ≡ v
  pub serves : IsServer w

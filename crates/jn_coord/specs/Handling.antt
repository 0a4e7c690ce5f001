-- What a coordinator does with a message.
use Rattle.std.specs.Prelude.{◌≡◌, Bool, true, false, Result, Ok, Err}
use Rattle.jn_base.specs.declared.names.Tickets.{Tickets}
use Rattle.jn_msgs.specs.Collected.{Collected}
use Rattle.jn_msgs.specs.declared.message.Message.{Message}
use Rattle.jn_msgs.specs.declared.message.Message.TheVariants.{Begin}
use Rattle.jn_rows.specs.Coordinator.{CoordinatorTable}
use Rattle.jn_rows.specs.Outcomes.{RowOutcome}
use Rattle.jn_storage.specs.Storage.{StorageView}
use Rattle.jn_base.specs.declared.fault.CallFault.{CallFault}
use Rattle.jn_base.specs.declared.fault.CallFault.TheVariants.{Stopped, Memory}
use Rattle.jn_coord.specs.Remembered.{Remembered}
use Rattle.jn_coord.specs.Calls.{IsDone, IsStopped}

abbrev pub is_begin : Message → Bool
is_begin (Begin c request) = true
is_begin m = false

-- A call whose row this is. Without memory nothing has changed. One that is stopped has made some of the row's changes,
-- from the first one on, and sends and reports nothing.
abbrev pub Handles : {A : Type 0} → RowOutcome CoordinatorTable → Remembered → StorageView → Collected → Tickets → Result A CallFault → Remembered → StorageView → Collected → Tickets → Type 0
Handles row r v before k (Ok x) r' w after k' = IsDone row v before r' w after × (k' ≡ row.tickets)
Handles row r v before k (Err Memory) r' w after k' = (r' ≡ r) × (w ≡ v) × (after ≡ before) × (k' ≡ k)
Handles row r v before k (Err Stopped) r' w after k' = IsStopped row v w × (after ≡ before) × (k' ≡ k)

-- A server, and the whole system, in which whatever is named is at one of so many servers.
use Rattle.std.specs.Prelude.{◌≡◌, ℕ, true, Some}
use Rattle.jn_base.specs.declared.names.ServerNo.{ServerNo}
use Rattle.jn_base.specs.declared.names.ClientNo.{ClientNo}
use Rattle.jn_rows.specs.Outcomes.{RowOutcome}
use Rattle.jn_rows.specs.Stable.{Pick}
use Rattle.jn_system.specs.WholeSystem.World.{World, Memory}
use Rattle.jn_row_ranges.specs.Naming.{are_within, ClientWithin, are_works_within, are_transactions_within, are_changes_within, StateWithin}

-- its own number, its works and its transactions
pub record MemoryWithin (servers : ℕ) (s : ServerNo) (m : Memory) : Type 0 where
  pub own : m.tickets.server ≡ s
  pub works : are_works_within servers m.worker ≡ true
  pub transactions : are_transactions_within servers m.coordinator.transactions ≡ true

-- what a row leaves in the tables, changes of what is stable, and sends
pub record RowWithin (servers : ℕ) (s : ServerNo) (row : RowOutcome Memory) : Type 0 where
  pub memory : MemoryWithin servers s row.table
  pub changes : are_changes_within servers row.changes ≡ true
  pub sent : are_within servers row.messages ≡ true

pub record Within (servers : ℕ) (w : World) : Type 0 where
  pub sent : are_within servers w.sent ≡ true
  pub clients : (c : ClientNo) → ClientWithin servers (w.clients c)
  pub memory : (s : ServerNo) (m : Memory) → w.memory s ≡ Some m → MemoryWithin servers s m
  pub found : (s : ServerNo) (c : Pick) → StateWithin servers (w.found s c)

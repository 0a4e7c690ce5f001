-- What the lines of a run report of its commits: each committed transaction is answered what the commits before it left, and
-- the stable files are as the commits leave them.
use Rattle.std.specs.Prelude.{◌≡◌, List, Some, None}
use Rattle.jn_base.specs.declared.names.ServerNo.{ServerNo}
use Rattle.jn_base.specs.declared.names.LockUnit.{LockUnit}
use Rattle.jn_order.specs.Files.{AllFiles}
use Rattle.jn_schedule.specs.declared.Event.{Event}
use Rattle.jn_report.specs.declared.line.Line.{Line}
use Rattle.jn_serial.specs.Lines.{history_of}
use Rattle.jn_serial.specs.Order.{replay_operations, OperationsAgreeFrom}
use Rattle.jn_rows.specs.Stable.{Pick, stable}
use Rattle.jn_rows.specs.Worker.{commit_holder}
use Rattle.jn_system.specs.SmallSteps.Held.{file_unit}
use Rattle.jn_system.specs.WholeSystem.World.{World, Memory}
use Rattle.jn_system_order.specs.Ordering.Runs.{IsDone}

-- of the commits that the lines so far name, and the world after them: the answers and the files are those that all lines report
pub record AreAsTold (files : AllFiles) (events : List Event) (lines so_far : List Line) (r : World) : Type 0 where
  pub agrees : OperationsAgreeFrom files events lines (history_of so_far)
  -- each register of each state that may be found is as the commits leave it, but for what is still to be carried out
  pub shown : (s : ServerNo) (c : Pick) (u : LockUnit) → IsDone r (r.found s c) u → (r.found s c).files u ≡ replay_operations files events lines (history_of so_far) s u
  -- at a server that is up: each unit that is held for commit neither itself nor as its file
  pub unlocked : (s : ServerNo) (m : Memory) (u : LockUnit) → r.memory s ≡ Some m → commit_holder u m.worker ≡ None → commit_holder (file_unit u) m.worker ≡ None
      → (stable (r.found s)).files u ≡ replay_operations files events lines (history_of so_far) s u

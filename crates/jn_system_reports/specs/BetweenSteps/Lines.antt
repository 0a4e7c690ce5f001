-- The answers that the lines report of works that may yet commit.
use Rattle.std.specs.Prelude.{◌≡◌, List, Some}
use Rattle.jn_base.specs.declared.names.OperationNo.{OperationNo}
use Rattle.jn_base.specs.declared.names.RequestNo.{RequestNo}
use Rattle.jn_base.specs.declared.names.ServerNo.{ServerNo}
use Rattle.jn_base.specs.declared.names.ClientNo.{ClientNo}
use Rattle.jn_base.specs.declared.names.Tid.{Tid}
use Rattle.jn_base.specs.declared.names.WorkId.{WorkId}
use Rattle.jn_base.specs.declared.op.Op.{Op}
use Rattle.jn_order.specs.Files.{AllFiles}
use Rattle.jn_schedule.specs.declared.Event.{Event}
use Rattle.jn_report.specs.declared.line.Line.{Line}
use Rattle.jn_msgs.specs.declared.message.Message.TheVariants as messages
use Rattle.jn_rows.specs.declared.worker.ActiveWork.{ActiveWork}
use Rattle.jn_rows.specs.Stable.{Prepared, Pick}
use Rattle.jn_serial.specs.Lines.{history_of}
use Rattle.jn_serial.specs.Order.{operations_of, replay_operations}
use Rattle.jn_order.specs.Answers.{FilesAnswer}
use Rattle.jn_system.specs.WholeSystem.World.{World}
use Rattle.jn_system_reports.specs.Telling.Told.{at_place}
use Rattle.jn_system_reports.specs.BetweenSteps.Sent.{WasSent, HasCommitLine}
use Rattle.jn_system_reports.specs.BetweenSteps.Works.{IsActive}

-- some operation was sent to the work
pub record WasAsked (r : World) (W : WorkId) : Type 0 where
  pub client : ClientNo
  pub request : RequestNo
  pub number : OperationNo
  pub op : Op
  pub sent : WasSent r (messages.Op client request W number op)

-- the files that the commits of the lines leave at the server answer what the lines report of the transaction there as they report it
abbrev pub StandAt : AllFiles → List Event → List Line → Tid → ServerNo → Type 0
StandAt files events lines T s = FilesAnswer (replay_operations files events lines (history_of lines) s) (at_place s (operations_of events lines T))

-- So it is of a work to which an operation was sent while it is active, and while a pick finds it prepared and its transaction
-- has no commit line.
pub record DoLinesStand (files : AllFiles) (events : List Event) (lines : List Line) (r : World) : Type 0 where
  pub active : (W : WorkId) (a : ActiveWork) (is : IsActive r W a) → WasAsked r W → StandAt files events lines is.work.tid W.server
  pub ready : (W : WorkId) (c : Pick) (p : Prepared) → (r.found W.server c).works W ≡ Some p → (HasCommitLine r p.tid → ⊥) → WasAsked r W → StandAt files events lines p.tid W.server

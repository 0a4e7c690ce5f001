-- The works of a transaction's end.
use Rattle.std.specs.Prelude.{◌≡◌, true, false, List}
use Rattle.jn_base.specs.declared.names.RequestNo.{RequestNo}
use Rattle.jn_base.specs.declared.names.ClientNo.{ClientNo}
use Rattle.jn_base.specs.declared.names.Tid.{Tid}
use Rattle.jn_base.specs.declared.names.WorkId.{WorkId}
use Rattle.jn_msgs.specs.declared.message.Message.TheVariants.{End}
use Rattle.jn_rows.specs.Coordinator.{is_work}
use Rattle.jn_system.specs.WholeSystem.World.{World}
use Rattle.jn_system_reports.specs.BetweenSteps.Sent.{WasSent}

-- a client has ended it with these works
pub record WasEnded (r : World) (T : Tid) : Type 0 where
  pub client : ClientNo
  pub request : RequestNo
  pub works : List WorkId
  pub sent : WasSent r (End client request T works)

-- the work is of the transaction's end
abbrev pub IsPart : World → Tid → WorkId → Type 0
IsPart r T W = (end : WasEnded r T) × (is_work W end.works ≡ true)

-- the transaction has an end without the work
abbrev pub IsNoPart : World → Tid → WorkId → Type 0
IsNoPart r T W = (end : WasEnded r T) × (is_work W end.works ≡ false)

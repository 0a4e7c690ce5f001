-- What was sent of commits.
use Rattle.jn_base.specs.declared.names.ClientNo.{ClientNo}
use Rattle.jn_base.specs.declared.names.Tid.{Tid}
use Rattle.jn_base.specs.declared.names.WorkId.{WorkId}
use Rattle.jn_msgs.specs.declared.message.Message.TheVariants.{Commit, Outcome}
use Rattle.jn_msgs.specs.declared.message.Outcome.TheVariants.{Committed}
use Rattle.jn_system.specs.WholeSystem.World.{World}
use Rattle.jn_system_reports.specs.BetweenSteps.Sent.{WasSent, HasCommitLine}

-- a work and a client are told of a commit only where it has its line
pub record AreToldAfter (r : World) : Type 0 where
  pub works : (T : Tid) (W : WorkId) → WasSent r (Commit T W) → HasCommitLine r T
  pub clients : (c : ClientNo) (T : Tid) → WasSent r (Outcome c T Committed) → HasCommitLine r T

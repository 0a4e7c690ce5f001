-- What was sent to a work and to a client as of a transaction that is no more, where the transaction is named.
use Rattle.std.specs.Prelude.{◌≡◌, ◌≢◌, ◌⊎◌, ◌<◌, ℕ, Some, None}
use Rattle.jn_base.specs.declared.names.RequestNo.{RequestNo}
use Rattle.jn_base.specs.declared.names.ServerNo.{ServerNo}
use Rattle.jn_base.specs.declared.names.ClientNo.{ClientNo}
use Rattle.jn_base.specs.declared.names.Tid.{Tid}
use Rattle.jn_base.specs.declared.names.WorkId.{WorkId}
use Rattle.jn_msgs.specs.declared.message.Message.TheVariants.{Begun, Drop, Outcome}
use Rattle.jn_msgs.specs.declared.message.Outcome.TheVariants.{NotKnown}
use Rattle.jn_rows.specs.declared.client.Outstanding.{Outstanding}
use Rattle.jn_rows.specs.Stable.{Pick}
use Rattle.jn_rows.specs.Worker.{work_at}
use Rattle.jn_system.specs.WholeSystem.World.{World, Memory}
use Rattle.jn_system_reports.specs.BetweenSteps.Sent.{WasSent, HasCommitLine}
use Rattle.jn_system_reports.specs.BetweenSteps.Parts.{IsNoPart}

-- no pick finds the work, and its server, where it is up, doesn't have it in its table
pub record IsOver (r : World) (W : WorkId) : Type 0 where
  pub found : (c : Pick) → (r.found W.server c).works W ≡ None
  pub table : (m : Memory) → r.memory W.server ≡ Some m → work_at W m.worker ≡ None

-- One of the client's requests began it. The client doesn't wait for that request's answer any more, and has gone on from the
-- transaction.
pub record IsPast (r : World) (c : ClientNo) (T : Tid) : Type 0 where
  pub request : RequestNo
  pub began : WasSent r (Begun c request (Some T))
  pub drawn : request.0 < (r.clients c).next
  pub answered : (o : Outstanding) → (r.clients c).outstanding ≡ Some o → o.request ≢ request
  pub over : (r.clients c).transaction ≢ Some T

-- A Drop goes only to a work that is over, or that isn't in the transaction's end, and a client that is past it alone is
-- told that it isn't known. As messages stay sent, the work is over for good.
pub record AreOfThePast (r : World) : Type 0 where
  pub drops : (T : Tid) (W : WorkId) → HasCommitLine r T → WasSent r (Drop T W) → IsOver r W ⊎ IsNoPart r T W
  pub unknown : (c : ClientNo) (T : Tid) (s : ServerNo) (epoch : ℕ) → HasCommitLine r T → WasSent r (Outcome c T (NotKnown s epoch)) → IsPast r c T

-- Each name of a transaction and of a work is made once.
use Rattle.std.specs.Prelude.{◌≡◌, ◌≤◌, ◌<◌, ℕ, Some}
use Rattle.jn_base.specs.declared.names.RequestNo.{RequestNo}
use Rattle.jn_base.specs.declared.names.ServerNo.{ServerNo}
use Rattle.jn_base.specs.declared.names.ClientNo.{ClientNo}
use Rattle.jn_base.specs.declared.names.Tid.{Tid}
use Rattle.jn_base.specs.declared.names.WorkId.{WorkId}
use Rattle.jn_msgs.specs.declared.message.Message.TheVariants.{Begun, Opened}
use Rattle.jn_rows.specs.declared.client.OpenWork.{OpenWork}
use Rattle.jn_rows.specs.Client.{work_at}
use Rattle.jn_rows.specs.Stable.{Pick}
use Rattle.jn_system.specs.WholeSystem.World.{World, Memory}
use Rattle.jn_system_reports.specs.BetweenSteps.Sent.{WasSent}

-- A name of this epoch and ticket comes before all that its server will make: its epoch is no later than any that may be
-- found there, and while the server is up in it, its ticket is below the next one.
pub record WasMade (r : World) (s : ServerNo) (e t : ℕ) : Type 0 where
  pub epoch : (c : Pick) → e ≤ (r.found s c).epoch
  pub ticket : (m : Memory) → r.memory s ≡ Some m → e ≡ m.tickets.epoch → t < m.tickets.next

pub record AreMadeOnce (r : World) : Type 0 where
  -- a transaction's name answers one request of one client
  pub transactions : (c d : ClientNo) (m n : RequestNo) (T : Tid) → WasSent r (Begun c m (Some T)) → WasSent r (Begun d n (Some T)) → (c ≡ d) × (m ≡ n)
  -- a work's name is of one transaction
  pub works : (c d : ClientNo) (m n : RequestNo) (T U : Tid) (W : WorkId) → WasSent r (Opened c m T (Some W)) → WasSent r (Opened d n U (Some W)) → T ≡ U
  -- no two clients have one transaction, or have one work open in theirs
  pub clients : (c d : ClientNo) (T : Tid) → (r.clients c).transaction ≡ Some T → (r.clients d).transaction ≡ Some T → c ≡ d
  pub openers : (c d : ClientNo) (T U : Tid) (s q : ServerNo) (v x : OpenWork) → (r.clients c).transaction ≡ Some T → (r.clients d).transaction ≡ Some U
      → work_at s (r.clients c).works ≡ Some v → work_at q (r.clients d).works ≡ Some x → v.work ≡ x.work → c ≡ d
  -- and no name will be made again
  pub before : (c : ClientNo) (n : RequestNo) (T : Tid) → WasSent r (Begun c n (Some T)) → WasMade r T.server T.epoch T.ticket
  pub works_before : (c : ClientNo) (n : RequestNo) (T : Tid) (W : WorkId) → WasSent r (Opened c n T (Some W)) → WasMade r W.server W.epoch W.ticket

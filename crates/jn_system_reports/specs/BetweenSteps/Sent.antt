-- What was sent, and what the lines name.
use Rattle.std.specs.Prelude.{◌≡◌, ℕ, true, slice_get, Some}
use Rattle.jn_base.specs.declared.names.Tid.{Tid}
use Rattle.jn_base.specs.declared.names.Party.{Party}
use Rattle.jn_msgs.specs.declared.message.Message.{Message}
use Rattle.jn_system.specs.WholeSystem.World.{World, has_line}

-- it is among the messages ever sent, whoever it is for
pub record WasSent (r : World) (message : Message) : Type 0 where
  pub to : Party
  pub number : ℕ
  pub is : slice_get r.sent number ≡ Some (to, message)

-- the transaction's commit has its line
abbrev pub HasCommitLine : World → Tid → Type 0
HasCommitLine r T = has_line T r.lines ≡ true

-- Names and numbers of requests that are drawn: never more than messages are sent.
use Rattle.std.specs.Prelude.{◌≡◌, ◌≤◌, ◌+◌, ⊤, Bool, true, false, List, length, Some}
use Rattle.jn_base.specs.declared.names.ClientNo.{ClientNo}
use Rattle.jn_base.specs.declared.names.ServerNo.{ServerNo}
use Rattle.jn_base.specs.declared.names.Tickets.{Tickets}
use Rattle.jn_msgs.specs.declared.message.Message.{Message}
use Rattle.jn_msgs.specs.declared.message.Message.TheVariants.{Begin, Open}
use Rattle.jn_rows.specs.Client.{ClientTable, Commanded, Refuses, Sends}
use Rattle.jn_rows.specs.Outcomes.{Sent}
use Rattle.jn_system.specs.WholeSystem.World.{World, Memory}

-- a Begin may draw a transaction's name, and an Open a work's
abbrev pub draws : Message → Bool
draws (Begin client request) = true
draws (Open client request T) = true
draws message = false

-- these tickets are as those, but for names that were drawn since, no more than these messages
pub record AreDrawn (before : Tickets) (sent : List Sent) (after : Tickets) : Type 0 where
  pub server : after.server ≡ before.server
  pub epoch : after.epoch ≡ before.epoch
  pub rises : before.next ≤ after.next
  pub next : after.next ≤ before.next + length sent

-- a command is refused, or draws one number
abbrev pub DrawsOne : ClientTable → Commanded → Type 0
DrawsOne t (Refuses refusal) = ⊤
DrawsOne t (Sends now to message) = now.next ≡ t.next + 1

-- No server has drawn more names than messages were sent, and no client more numbers of requests, which begin with 1.
pub record AreCovered (w : World) : Type 0 where
  pub names : (s : ServerNo) (m : Memory) → w.memory s ≡ Some m → m.tickets.next ≤ length w.sent
  pub requests : (c : ClientNo) → (w.clients c).next ≤ length w.sent + 1

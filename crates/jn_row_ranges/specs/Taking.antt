-- Messages that any server may take, and clients that send only such.
use Rattle.std.specs.Prelude.{◌≤◌, Bool, true, false, ◌&&◌, ⊤, List, [], ◌∷◌, All}
use Rattle.jn_msgs.specs.declared.message.Message.{Message}
use Rattle.jn_msgs.specs.declared.message.Message.TheVariants.{Begin, Open, Op, End, Abort, Thanks}
use Rattle.jn_rows.specs.declared.client.Taken.{Taken}
use Rattle.jn_rows.specs.declared.client.Taken.TheVariants.{Ignored, Send, Told}
use Rattle.jn_rows.specs.Client.{ClientTable, Commanded, Refuses, Sends, again_row}
use Rattle.jn_rows.specs.ClientLaws.{IsClient}
use Rattle.jn_rows.specs.Outcomes.{Sent}
use Rattle.jn_system.specs.WholeSystem.Steps.{sent_now}
use Rattle.jn_msgs.specs.Ranges.{CanBeTaken}

-- ---- messages

-- each of these messages
abbrev pub AllCanBeTaken : List Sent → Type 0
AllCanBeTaken sent = All (λ (x : Sent). CanBeTaken x.1) sent

-- not one that only clients send
abbrev pub is_from_server : Message → Bool
is_from_server (Begin c request) = false
is_from_server (Open c request T) = false
is_from_server (Op c request W number op) = false
is_from_server (End c request T works) = false
is_from_server (Abort c request T works) = false
is_from_server (Thanks c T) = false
is_from_server message = true

abbrev pub are_from_server : List Sent → Bool
are_from_server [] = true
are_from_server (x ∷ sent) = is_from_server x.1 && are_from_server sent

-- ---- clients

-- its works stand at different servers of at most 8, and what it would send once more can be taken
pub record ClientFits (t : ClientTable) : Type 0 where
  pub client : IsClient t
  pub few_servers : t.servers ≤ 8
  pub again : AllCanBeTaken (sent_now (again_row t))

-- a command is refused, or its message can be taken and the client's table fits
abbrev pub CommandFits : Commanded → Type 0
CommandFits (Refuses refusal) = ⊤
CommandFits (Sends t to message) = ClientFits t × CanBeTaken message

-- what a client sends for a message that it takes
abbrev pub sent_for : Taken → List Sent
sent_for Ignored = []
sent_for (Send to message) = (to, message) ∷ []
sent_for (Told line answer) = sent_now answer

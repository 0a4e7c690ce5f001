-- What a server does with each frame of a stream, by its rows and what stands on its pages.
use Rattle.std.specs.Prelude.{◌≡◌, Bool, false, if◌then◌else◌, ℕ, List, [], ◌∷◌, ◌++◌, Option, Some, None}
use Rattle.jn_base.specs.Names.{server_eq}
use Rattle.jn_base.specs.declared.names.ServerNo.{ServerNo}
use Rattle.jn_base.specs.declared.names.Tid.{Tid}
use Rattle.jn_base.specs.declared.names.Party.{Party}
use Rattle.jn_base.specs.declared.names.Party.TheVariants.{Client, Server}
use Rattle.jn_msgs.specs.declared.message.Message.{Message}
use Rattle.jn_records.specs.StablePages.{Counts}
use Rattle.jn_rows.specs.Outcomes.{RowOutcome, Sent}
use Rattle.jn_server.specs.Handling.{left_by_work}
use Rattle.jn_system.specs.WholeSystem.Servers.{server_row, server_step, server_again, server_timeout}
use Rattle.jn_system.specs.WholeSystem.World.{Memory}
use Rattle.jn_wire.specs.Spelling.{frame_bytes}
use Rattle.jn_wire.specs.declared.frame.Body.{Body}
use Rattle.jn_wire.specs.declared.frame.Body.TheVariants as bodies
use Rattle.jn_wire.specs.declared.frame.Framed.{Framed}
use Rattle.jn_worker.specs.Leaving.{left_over}
use Rattle.jn_node.specs.Running.{Running, state_of, beside_at, room_on, IsMade}

abbrev pub row_for : Counts → Running → Message → RowOutcome Memory
row_for g x message = server_row x.memory (state_of g x) (room_on g x) message

abbrev pub step_of : Counts → Running → Option (RowOutcome Memory)
step_of g x = server_step x.memory (state_of g x) (room_on g x)

-- it took a message
abbrev pub IsTaken : ServerNo → Counts → Message → Running → Running → Type 0
IsTaken s g message x y = IsMade s g (row_for g x message) (left_over (state_of g x) (row_for g x message).changes (beside_at g x)) x y

-- ---- what a frame leads to

-- a server, what it has yet to take of what it sent to itself, and what it has sent to others
pub record Desk : Type 0 where
  pub running : Running
  pub own : List Message
  pub sent : List Sent

abbrev pub is_own : ServerNo → Party → Bool
is_own s (Client c) = false
is_own s (Server q) = server_eq q s

abbrev pub to_itself : ServerNo → List Sent → List Message
to_itself s [] = []
to_itself s (x ∷ sent) = if is_own s x.0 then x.1 ∷ to_itself s sent else to_itself s sent

abbrev pub to_others : ServerNo → List Sent → List Sent
to_others s [] = []
to_others s (x ∷ sent) = if is_own s x.0 then to_others s sent else x ∷ to_others s sent

-- then these messages are sent too, each behind those before it
abbrev pub posted : ServerNo → Desk → Running → List Sent → Desk
posted s d y sent = record { running = y; own = d.own ++ to_itself s sent; sent = d.sent ++ to_others s sent }

abbrev pub at_desk : Running → Desk
at_desk x = record { running = x; own = []; sent = [] }

-- the frame itself: a message, a word to send once more what waits, or one that a transaction's work is to give way
pub data Begins (s : ServerNo) (g : Counts) (x : Running) : Body → Desk → Type 0 where
  Takes : (m : Message) (y : Running) → IsTaken s g m x y → Begins s g x (bodies.Message m) (posted s (at_desk x) y (row_for g x m).messages)
  Nudges : Begins s g x bodies.Nudge (posted s (at_desk x) x (server_again x.memory (state_of g x)))
  TimesOut : (t : Tid) → Begins s g x (bodies.Timeout t) (at_desk (record x { memory = server_timeout x.memory t }))

-- what it sent to itself, the oldest first and each before any step; then a step; until nothing is left
pub data Settles (s : ServerNo) (g : Counts) : Desk → Desk → Type 0 where
  Rests : (d : Desk) → d.own ≡ [] → step_of g d.running ≡ None → Settles s g d d
  TakesOwn : (d e : Desk) (m : Message) (own : List Message) (y : Running) → d.own ≡ m ∷ own → IsTaken s g m d.running y
      → Settles s g (posted s (record d { own = own }) y (row_for g d.running m).messages) e → Settles s g d e
  Works : (d e : Desk) (row : RowOutcome Memory) (y : Running) → d.own ≡ [] → step_of g d.running ≡ Some row
      → IsMade s g row (left_by_work (state_of g d.running) row.changes (beside_at g d.running)) d.running y
      → Settles s g (posted s d y row.messages) e → Settles s g d e

-- all that follows from a frame, and what is sent to others by it
pub record ServesFrame (s : ServerNo) (g : Counts) (x : Running) (body : Body) (sent : List Sent) (y : Running) : Type 0 where
  pub first : Desk
  pub last : Desk
  pub begins : Begins s g x body first
  pub settles : Settles s g first last
  pub sent_is : last.sent ≡ sent
  pub running_is : last.running ≡ y

-- frames one after another, with all that is sent to others
pub data ServesFrames (s : ServerNo) (g : Counts) : Running → List Framed → List Sent → Running → Type 0 where
  NoFrame : (x : Running) → ServesFrames s g x [] [] x
  OneMore : (x y z : Running) (f : Framed) (fs : List Framed) (sent more : List Sent) → ServesFrame s g x f.body sent y → ServesFrames s g y fs more z
      → ServesFrames s g x (f ∷ fs) (sent ++ more) z

-- the bytes of what a server sends
abbrev pub sent_bytes : ServerNo → List Sent → List ℕ
sent_bytes s [] = []
sent_bytes s (x ∷ sent) = frame_bytes (record { from = Server s; to = x.0; body = bodies.Message x.1 }) ++ sent_bytes s sent

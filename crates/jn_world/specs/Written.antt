-- How a call of the world goes on from where the written machine stands.
use Rattle.jn_base.specs.declared.names.Party.{Party}
use Rattle.jn_device.specs.Device.{DeviceState}
use Rattle.jn_machine.specs.Chances.{Setup}
use Rattle.jn_machine.specs.Runs.{Moment}
use Rattle.jn_machine.specs.Steps.{most_messages}
use Rattle.jn_machine.specs.Tasks.{Task, when_of}
use Rattle.jn_net.specs.declared.Sent.{Sent as Posted}
use Rattle.jn_report.specs.declared.line.Line.{Line}
use Rattle.jn_report.specs.declared.line.When.{When}
use Rattle.jn_schedule.specs.declared.Event.{Event}
use Rattle.jn_serial.specs.Lines.{has_tid}
use Rattle.jn_store.specs.Store.{StoreView}
use Rattle.jn_world.specs.declared.ended.Ended.{Ended}
use Rattle.jn_world.specs.declared.ended.Ended.TheVariants.{Messages, Epoch, Memory}
use Rattle.jn_world.specs.declared.world.World.{World}
use Rattle.jn_world_refines.specs.Going.{NoMessageLeft, NoEpochLeft, WentOn, WasCut, ActsNext}
use Rattle.jn_world_refines.specs.Stands.{Standing, Stands}
use Rattle.std.specs.Prelude.{length, ⊤, List, Result, Ok, Err, ◌≡◌, ◌++◌, drop, Option, Some, None, ◌≤◌, ◌<◌}

-- what the world has, as it is compared with the machine
abbrev pub standing_of : {S : Type 0} → World S → Standing S
standing_of w = record {
  places = w.places.items;
  clients = w.clients.items;
  net = w.net;
  named = has_tid w.named.names.items;
  commits = length w.named.names.items;
  trace = w.trace;
}

-- The machine went on to where these tasks are left and the world stands there, or the run was cut short there, by the limit that the call's end names.
abbrev pub GoesTo : {S A : Type 0} → (S → StoreView) → (S → DeviceState) → Setup → Moment → List Task → Result A Ended → Standing S → List Line → List Line → Type 0
GoesTo look device x m rest (Ok a) w' lines lines' = WentOn look device x m rest w' lines lines'
GoesTo look device x m rest (Err Messages) w' lines lines' = WasCut x m NoMessageLeft lines lines'
GoesTo look device x m rest (Err (Epoch q)) w' lines lines' = WasCut x m (NoEpochLeft q) lines lines'
GoesTo look device x m rest (Err Memory) w' lines lines' = ⊤

-- A call does this event, in whichever task: from any moment at which the world stands and the next task does the event.
abbrev pub DoesEvent : {S A : Type 0} → (S → StoreView) → (S → DeviceState) → Event → When → Standing S → Result A Ended → Standing S → List Line → List Line → Type 0
DoesEvent look device event when w result w' lines lines' =
    (x : Setup) (m : Moment) (more : List Task) → Stands look device x w m → ActsNext x m event more → when_of m.state ≡ when
    → GoesTo look device x m (more ++ drop 1 m.state.tasks) result w' lines lines'

-- the message is for this party
abbrev pub IsSentTo : Party → Option Posted → Type 0
IsSentTo party None = ⊥
IsSentTo party (Some m) = m.to ≡ party

-- ---- the end of a step

-- It is over so, or one message too many would have been sent, and then no line was added.
abbrev pub EndsStep : {S A : Type 0} → Result A Ended → Standing S → Standing S → List Line → List Line → List Line → Type 0
EndsStep (Ok a) w' now lines wanted lines' = (now ≡ w') × (lines' ≡ wanted) × (length w'.net.sent ≤ most_messages)
EndsStep (Err Messages) w' now lines wanted lines' = (most_messages < length w'.net.sent) × (lines' ≡ lines)
EndsStep (Err (Epoch q)) w' now lines wanted lines' = ⊥
EndsStep (Err Memory) w' now lines wanted lines' = ⊤

-- the same of lines that are kept only where all is sent
abbrev pub EndsPart : {S A : Type 0} → Result A Ended → Standing S → Standing S → List Line → List Line → Type 0
EndsPart (Ok a) w' now wanted lines' = (now ≡ w') × (lines' ≡ wanted) × (length w'.net.sent ≤ most_messages)
EndsPart (Err Messages) w' now wanted lines' = most_messages < length w'.net.sent
EndsPart (Err (Epoch q)) w' now wanted lines' = ⊥
EndsPart (Err Memory) w' now wanted lines' = ⊤

-- How a call of the code goes on from where the machine stands: it does the next tasks, with their lines, or the run is cut short there.
use Rattle.std.specs.Prelude.{◌≡◌, ◌≤◌, ◌<◌, true, List, ◌++◌, length, drop, Some}
use Rattle.jn_base.specs.declared.names.ServerNo.{ServerNo}
use Rattle.jn_device.specs.Device.{DeviceState}
use Rattle.jn_report.specs.declared.line.Line.{Line}
use Rattle.jn_schedule.specs.declared.Event.{Event}
use Rattle.jn_store.specs.Store.{StoreView}
use Rattle.jn_system.specs.WholeSystem.Course.{go_on}
use Rattle.jn_machine.specs.Chances.{Setup, Chance}
use Rattle.jn_machine.specs.Deeds.{is_used_up}
use Rattle.jn_machine.specs.Devices.{rubbish_on}
use Rattle.jn_machine.specs.Events.{acted, deed_of}
use Rattle.jn_machine.specs.Runs.{Moment, Leads, DoesStep}
use Rattle.jn_machine.specs.Steps.{most_messages}
use Rattle.jn_machine.specs.Tasks.{Task, ComesUp, CutShort, next_task, begun}
use Rattle.jn_world_refines.specs.Stands.{Standing, Stands}

-- these lines were added, here and in the machine
pub record IsTold (m last : Moment) (lines lines' : List Line) : Type 0 where
  pub new : List Line
  pub here : lines' ≡ lines ++ new
  pub there : last.state.lines ≡ m.state.lines ++ new

-- The machine went on to where these tasks are left, and the code stands there.
pub record WentOn {S : Type 0} (look : S → StoreView) (device : S → DeviceState) (x : Setup) (m : Moment) (rest : List Task) (w' : Standing S) (lines lines' : List Line) : Type 0 where
  pub last : Moment
  pub leads : Leads x m last
  pub stands : Stands look device x w' last
  pub tasks : last.state.tasks ≡ rest
  pub stage : last.state.stage ≡ m.state.stage
  pub told : IsTold m last lines lines'

-- which limit cuts a run short
pub data Limit : Type 0 where
  -- one message more would be sent than the network carries
  NoMessageLeft : Limit
  -- at the start or at the end this server's restart finds the last epoch
  NoEpochLeft : ServerNo → Limit

-- a step from this moment comes to the limit: by the messages that it would send, or as a restart that finds the last epoch
abbrev pub ComesToLimit : Setup → Moment → Chance → Task → Limit → Type 0
ComesToLimit x m h task NoMessageLeft = most_messages < length (go_on (deed_of x h task m.state).steps (begun task m.state).course).world.sent
ComesToLimit x m h task (NoEpochLeft q) = (task ≡ ComesUp q) × is_used_up h q m.state.course.world ≡ true

-- The machine went on to where it is cut short by this limit.
pub record WasCut (x : Setup) (m : Moment) (limit : Limit) (lines lines' : List Line) : Type 0 where
  pub before : Moment
  pub leads : Leads x m before
  pub last : Moment
  pub step : DoesStep x before last
  pub comes : ComesToLimit x before step.chance step.task limit
  pub stage : last.state.stage ≡ CutShort
  pub told : IsTold m last lines lines'

-- ---- one step

-- The next task does this event, as an event of the schedule, of a settle or of the end, and leaves these tasks before the others.
pub record ActsNext (x : Setup) (m : Moment) (event : Event) (more : List Task) : Type 0 where
  pub task : Task
  pub next : next_task m.state ≡ Some task
  pub deed : (h : Chance) → ((q : ServerNo) → h.rubbish q ≡ rubbish_on x m.devices q) → deed_of x h task m.state ≡ record (acted x h event m.state.callers m.state.course.world) { tasks = more }
  pub begun_is : begun task m.state ≡ record m.state { tasks = drop 1 m.state.tasks }

-- what a step leads to: it is done where its messages can all be sent, and else the run is cut short
pub record IsStepTo {S : Type 0} (look : S → StoreView) (device : S → DeviceState) (x : Setup) (m : Moment) (rest : List Task) (w' : Standing S) (lines lines' : List Line) : Type 0 where
  pub done : length w'.net.sent ≤ most_messages → WentOn look device x m rest w' lines lines'
  pub cut : most_messages < length w'.net.sent → WasCut x m NoMessageLeft lines lines

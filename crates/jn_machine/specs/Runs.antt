-- The steps of a run one after another: with any chances, and with those that its devices give.
use Rattle.std.specs.Prelude.{◌≡◌, Some}
use Rattle.jn_system.specs.WholeSystem.World.{World}
use Rattle.jn_system.specs.WholeSystem.Steps.{run, IsRun}
use Rattle.jn_system.specs.WholeSystem.Course.{Course}
use Rattle.jn_machine.specs.Chances.{Setup, Chance}
use Rattle.jn_machine.specs.Tasks.{Task, State, next_task}
use Rattle.jn_machine.specs.Events.{deed_of}
use Rattle.jn_machine.specs.Steps.{done}
use Rattle.jn_machine.specs.Devices.{Devices, Befalls}

-- any number of such steps, one after another
pub data Steps (A : Type 0) (IsOne : A → A → Type 0) : A → A → Type 0 where
  none : (a : A) → Steps A IsOne a a
  more : (a b c : A) → IsOne a b → Steps A IsOne b c → Steps A IsOne a c

-- ---- with any chances

-- the next task is done, whatever befalls it
pub record MayStep (x : Setup) (s t : State) : Type 0 where
  pub chance : Chance
  pub task : Task
  pub task_is : next_task s ≡ Some task
  pub state_is : t ≡ done x chance task s

abbrev pub MayLead : Setup → State → State → Type 0
MayLead x s t = Steps State (MayStep x) s t

-- ---- with devices

pub record Moment : Type 0 where
  pub state : State
  pub devices : Devices

-- the next task is done, and what befalls it is what the devices do
pub record DoesStep (x : Setup) (a b : Moment) : Type 0 where
  pub chance : Chance
  pub task : Task
  pub task_is : next_task a.state ≡ Some task
  pub state_is : b.state ≡ done x chance task a.state
  pub befalls : Befalls x chance (deed_of x chance task a.state) a.state.course.world a.devices b.devices

abbrev pub Leads : Setup → Moment → Moment → Type 0
Leads x a b = Steps Moment (DoesStep x) a b

-- ---- the whole system

-- the steps so far may come one after another from this world, and lead to the world that there is
pub record IsOnCourse (start : World) (c : Course) : Type 0 where
  pub steps : IsRun c.steps start
  pub world : c.world ≡ run c.steps start

-- What a settle does, in any run.
use Rattle.std.specs.Prelude.{◌≡◌, ℕ, List, Some}
use Rattle.jn_schedule.specs.declared.Event.TheVariants as events
use Rattle.jn_machine.specs.Chances.{Setup, Chance}
use Rattle.jn_machine.specs.Tasks.{Task, Rests, State, next_task}
use Rattle.jn_machine.specs.Devices.{rubbish_on}
use Rattle.jn_machine.specs.Events.{next_in}
use Rattle.jn_machine.specs.Steps.{done}
use Rattle.jn_machine.specs.Runs.{Moment, Leads}
use Rattle.jn_machine.specs.Wrong.{IsAtRest}

-- a settle hands over the message of this number
pub record HandsOver (x : Setup) (k : ℕ) (s t : State) : Type 0 where
  pub chance : Chance
  pub rests : next_task s ≡ Some Rests
  pub is_next : next_in x chance.rubbish s.course ≡ Some (events.Deliver k)
  pub state_is : t ≡ done x chance Rests s

-- between two moments comes one at which these tasks are left, no message waits, and no server that is up has a going work or a rubbish record
pub record ComesToRest (x : Setup) (rest : List Task) (a b : Moment) : Type 0 where
  pub moment : Moment
  pub leads : Leads x a moment
  pub tasks : moment.state.tasks ≡ rest
  pub is_at_rest : IsAtRest x (rubbish_on x moment.devices) moment.state.course
  pub goes_on : Leads x moment b

-- The settles of a run, and how many messages each of them hands over.
use Rattle.std.specs.Prelude.{◌≡◌, ◌≤◌, ◌<◌, ◌⊎◌, ℕ, ◌+◌, ◌-◌, List, [], ◌∷◌, ◌++◌, map, length}
use Rattle.jn_schedule.specs.declared.Event.{Event}
use Rattle.jn_schedule.specs.declared.Event.TheVariants as events
use Rattle.jn_system.specs.WholeSystem.Course.{Course}
use Rattle.jn_system_settling.specs.Settling.Bounds.{deliveries, settle_bound}
use Rattle.jn_machine.specs.Chances.{Setup}
use Rattle.jn_machine.specs.Tasks.{Task, Begins, CountsCommits, CutShort}
use Rattle.jn_machine.specs.Events.{servers_of, settling, ending, printing}
use Rattle.jn_machine.specs.Runs.{Steps, Moment, DoesStep, Leads}

-- ---- where a settle stands in a run

-- a step that comes before these tasks, while more than they is left to do
pub record DoesEarlier (x : Setup) (behind : List Task) (a b : Moment) : Type 0 where
  pub step : DoesStep x a b
  pub earlier : length behind < length a.state.tasks

-- A settle begins at the first moment, that of an event or that of the end, and these tasks come behind it. It has come to the second one.
pub record Settles (x : Setup) (behind : List Task) (a b : Moment) : Type 0 where
  pub begins : a.state.tasks ≡ settling x ++ behind
  pub steps : Steps Moment (DoesEarlier x behind) a b

-- ---- how many messages

-- the messages that were sent and don't wait any more
abbrev pub over : Course → ℕ
over c = length c.world.sent - length c.waiting

-- From one course to another no more messages are handed over than a settle's bound, which is 161 (w + 8 + 640 s) + g, with w messages that wait and g works
-- that go in the first one, and s servers.
pub record IsWithinBound (servers : ℕ) (c now : Course) : Type 0 where
  -- each message that is handed over counts, also one that had been before
  pub handed : deliveries now.steps ≤ deliveries c.steps + settle_bound servers c
  pub no_longer_waiting : over now ≤ over c + settle_bound servers c
  -- and so many are sent, fewer by those that waited
  pub sent : length now.world.sent + length c.waiting ≤ length c.world.sent + settle_bound servers c

-- ---- the settles of a run

-- from a moment on, the settle that begins there is over at a later one, with these tasks left, and the run goes on from there
pub record IsOver (x : Setup) (behind : List Task) (a now : Moment) : Type 0 where
  pub last : Moment
  pub settles : Settles x behind a last
  pub tasks : last.state.tasks ≡ behind
  pub goes_on : Leads x last now

-- it isn't over: it goes on, or the run was cut short in it
pub record IsUnderWay (x : Setup) (behind : List Task) (a now : Moment) : Type 0 where
  pub settles : Settles x behind a now
  pub left : (length behind < length now.state.tasks) ⊎ (now.state.stage ≡ CutShort)

-- a run from one moment to another has a settle with these tasks behind it, from its beginning to its end, and it is within its bound
pub record HasSettle (x : Setup) (start now : Moment) (behind : List Task) : Type 0 where
  pub first : Moment
  pub leads : Leads x start first
  pub is_over : IsOver x behind first now
  pub bound : IsWithinBound x.servers first.state.course is_over.last.state.course

-- each settle of the schedule's events is in the run, and so is that of the end
pub record HasItsSettles (x : Setup) (schedule : List Event) (start now : Moment) : Type 0 where
  pub of_events : (earlier later : List Event) → schedule ≡ earlier ++ events.Settle ∷ later → HasSettle x start now (map Begins later ++ ending x)
  pub of_end : HasSettle x start now (printing (servers_of x) ++ CountsCommits ∷ [])

-- A world of servers that has started and done events, by the clauses of its calls, and the moment of a run at which it is.
use Rattle.std.specs.Prelude.{◌≡◌, ℕ, ◌+◌, Bool, List, [], ◌∷◌, ◌++◌, map, length, drop, slice_get, Some, Result, Ok}
use Rattle.jn_device.specs.Device.{DeviceState}
use Rattle.jn_order.specs.Files.{AllFiles}
use Rattle.jn_recovery.specs.declared.counts.PageCounts.{PageCounts}
use Rattle.jn_report.specs.declared.line.Line.{Line}
use Rattle.jn_schedule.specs.declared.Event.{Event}
use Rattle.jn_store.specs.Store.{StoreView}
use Rattle.jn_headline.specs.Headline.{IsTrueOfBegun}
use Rattle.jn_between.specs.Between.{IsTrueBetween, IsTrueAtEnd}
use Rattle.jn_world_refines.specs.Stands.{Stands}
use Rattle.jn_world.specs.declared.ended.Ended.{Ended}
use Rattle.jn_world.specs.declared.ended.Ended.TheVariants.{Memory}
use Rattle.jn_world.specs.declared.world.World.{World}
use Rattle.jn_world.specs.Written.{standing_of}
use Rattle.jn_events.specs.Written.{Starts, DoesScheduled, IsClosed}
use Rattle.jn_machine.specs.Chances.{Setup}
use Rattle.jn_machine.specs.Devices.{Devices}
use Rattle.jn_machine.specs.Events.{ending}
use Rattle.jn_machine.specs.Runs.{Moment}
use Rattle.jn_machine.specs.Tasks.{Begins, InSchedule}
use Rattle.jn_machine.specs.Whole.{IsWritten}

-- the lines that a call added to these
abbrev pub added : List Line → List Line → List Line
added old lines = drop (length old) lines

-- A world started on these stores and did these events one after another, the first one first, and reported these lines: by what `start` and `event` say of
-- themselves. Each call adds its lines to any that its caller has kept.
pub data HasDone (S : Type 0) (look : S → StoreView) (device : S → DeviceState) (stores : List (S × PageCounts)) (trace : Bool) : List Event → List Line → World S → Type 0 where
  started : (w : World S) (old lines : List Line) → Starts look device stores trace (Ok w) old lines → HasDone S look device stores trace [] (added old lines) w
  did : (events : List Event) (told : List Line) (w : World S) → HasDone S look device stores trace events told w
      → (event : Event) (done : Result (Unit {0}) Ended) (v : World S) (old lines : List Line) → done ≡ Ok tt → DoesScheduled look device (length events + 1) event (standing_of w) done (standing_of v) old lines
      → HasDone S look device stores trace (events ++ event ∷ []) (told ++ added old lines) v

-- The world is at a moment of a run of these events, whatever comes behind them, and its lines are those so far. What holds between any two events
-- holds there: the system is consistent, the report is true of the events that are done, and the pages are as the commits of its lines leave them.
pub record IsReached {S : Type 0} (look : S → StoreView) (device : S → DeviceState) (x : Setup) (files : AllFiles) (images : Devices) (events rest : List Event) (lines : List Line) (w : World S) : Type 0 where
  pub moment : Moment
  pub written : IsWritten x (events ++ rest) images moment
  pub files_are : written.files ≡ files
  pub stands : Stands look device x (standing_of w) moment
  pub tasks : moment.state.tasks ≡ map (λ (e : Event). Begins e) rest ++ ending x
  pub stage : moment.state.stage ≡ InSchedule
  pub lines_are : moment.state.lines ≡ lines
  pub true_between : IsTrueBetween x files events moment

-- ---- where a call ends the run, and at its end

-- one message too many would be sent, or a server has no epoch left
abbrev pub is_limit : Ended → Type 0
is_limit Memory = ⊥
is_limit ended = Unit {0}

-- the lines are true of the events that have begun
pub record IsTrueWhereEnded (files : AllFiles) (events : List Event) (lines : List Line) : Type 0 where
  pub begun : ℕ
  pub true_of_begun : IsTrueOfBegun files events begun lines

-- The world was closed, and gave these stores, and added these lines: by what `close` says of itself.
abbrev pub Gives : {S : Type 0} → (S → StoreView) → (S → DeviceState) → World S → List S → List Line → List Line → Type 0
Gives look device w given old lines = (x : Setup) (m : Moment) → Stands look device x (standing_of w) m → m.state.tasks ≡ ending x → m.state.stage ≡ InSchedule → IsClosed device x m given old lines

-- What holds after the end holds of the whole report, and of what lies on these stores, one of each server.
pub record IsTrueWhereClosed {S : Type 0} (device : S → DeviceState) (x : Setup) (files : AllFiles) (events : List Event) (lines : List Line) (given : List S) : Type 0 where
  pub last : Moment
  pub lines_are : last.state.lines ≡ lines
  pub servers : length given ≡ x.servers
  pub devices : (n : ℕ) (s : S) → slice_get given n ≡ Some s → last.devices (record { 0 = n }) ≡ device s
  pub true_at_end : IsTrueAtEnd x files events last

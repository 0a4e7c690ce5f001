-- How far a run has come, and what the output of its report took of it.
use Rattle.std.specs.Prelude.{◌≡◌, ◌≢◌, ◌≤◌, ℕ, false, List, [], ◌++◌, map, length, slice_get, Some, Result, Ok, Err, is_ok}
use Rattle.jn_device.specs.Device.{DeviceState}
use Rattle.jn_page_state.specs.Recoverable.{IsRecoverable}
use Rattle.jn_base.specs.Counts.{Rose}
use Rattle.jn_recovery.specs.declared.counts.PageCounts.{PageCounts}
use Rattle.jn_recovery.specs.Counts.{counts_by}
use Rattle.jn_store.specs.Store.{StoreView}
use Rattle.jn_schedule.specs.declared.Event.{Event}
use Rattle.jn_report.specs.declared.line.Line.{Line}
use Rattle.jn_writing.specs.Reporting.{Reporting}
use Rattle.jn_machine.specs.Chances.{Setup}
use Rattle.jn_machine.specs.Devices.{Devices}
use Rattle.jn_machine.specs.Events.{ending}
use Rattle.jn_machine.specs.Runs.{Moment}
use Rattle.jn_machine.specs.Tasks.{Begins, InSchedule}
use Rattle.jn_machine.specs.Whole.{IsWritten, IsWhole, IsLimited, IsPartOfRun}
use Rattle.jn_world_refines.specs.Stands.{Stands}
use Rattle.jn_world.specs.declared.ended.Ended.{Ended}
use Rattle.jn_world.specs.declared.ended.Ended.TheVariants as ends
use Rattle.jn_world.specs.declared.world.World.{World}
use Rattle.jn_events.specs.Written.{GivesImage}
use Rattle.jn_world.specs.Written.{standing_of}
use Rattle.jn_run.specs.declared.running.RunFault.{RunFault}
use Rattle.jn_run.specs.declared.running.RunFault.TheVariants as runs

-- ---- the disks

-- a store of the server of this number, with its counts of pages: a restart may begin there, and no fault that was outside is reported
abbrev pub IsStore : {S : Type 0} → (S → StoreView) → ℕ → S × PageCounts → Type 0
IsStore look n x = IsRecoverable (record { 0 = n }) (counts_by x.1) (look x.0) × ((look x.0).told ≡ [])

-- ---- how far a run has come

-- what is run: a schedule, by such servers, from these disks; and the output of its report as it was before
pub record Course (O : Type 0) : Type 0 where
  pub setup : Setup
  pub schedule : List Event
  pub images : Devices
  pub output : O

abbrev pub course_of : {O : Type 0} → Setup → List Event → Devices → O → Course O
course_of x schedule images output = record { setup = x; schedule = schedule; images = images; output = output }

-- a run has come to this moment, and the output took each of its lines
pub record HasTold {O : Type 0} (r : Reporting O) (c : Course O) (m : Moment) (now : O) : Type 0 where
  pub no_fault : r.faults now ≡ r.faults c.output
  pub written : IsWritten c.setup c.schedule c.images m
  pub took : r.took c.output now m.state.lines

-- the world stands there, with these events left
pub record StandsBefore {S : Type 0} (look : S → StoreView) (device : S → DeviceState) (x : Setup) (events : List Event) (w : World S) (m : Moment) : Type 0 where
  pub stands : Stands look device x (standing_of w) m
  pub tasks : m.state.tasks ≡ map (λ (e : Event). Begins e) events ++ ending x
  pub stage : m.state.stage ≡ InSchedule

-- a limit cut it short, and the output took each line
pub record TookLimited {O : Type 0} (r : Reporting O) (c : Course O) (now : O) : Type 0 where
  pub lines : List Line
  pub limited : IsLimited c.setup c.schedule c.images lines
  pub took : r.took c.output now lines

-- it came to some step, and the output took a front of the lines
pub record TookPart {O : Type 0} (r : Reporting O) (c : Course O) (now : O) : Type 0 where
  pub lines : List Line
  pub part : IsPartOfRun c.setup c.schedule c.images lines
  pub took : r.front c.output now lines

pub record ToldTo {O : Type 0} (r : Reporting O) (c : Course O) (Then : Moment → Type 0) (out : O) : Type 0 where
  pub now : Moment
  pub told : HasTold r c now out
  pub there : Then now

-- A run went on to a moment of which this holds; or a limit cut it short, or the output or want of memory cut it off.
pub record Reaches {O A : Type 0} (r : Reporting O) (c : Course O) (Then : A → Moment → Type 0) (answer : Result A RunFault) (now : O) : Type 0 where
  pub count : r.faults c.output ≤ r.faults now
  pub whole : (a : A) → answer ≡ Ok a → ToldTo r c (Then a) now
  pub limit : answer ≡ Err runs.Limit → TookLimited r c now
  pub part : is_ok answer ≡ false → TookPart r c now
  pub rose : answer ≡ Err runs.Write → Rose (r.faults c.output) (r.faults now)
  pub no_fault : answer ≢ Err runs.Write → r.faults now ≡ r.faults c.output

-- ---- the lines of one call

-- what is reported of them: nothing where memory ran out, since the last step may not be whole
abbrev pub lines_kept : {A : Type 0} → Result A Ended → List Line → List Line
lines_kept (Err ends.Memory) lines = []
lines_kept done lines = lines

abbrev pub is_limit : {A : Type 0} → Result A Ended → Type 0
is_limit (Ok a) = ⊥
is_limit (Err ends.Memory) = ⊥
is_limit (Err ended) = Unit {0}

pub record Reported {O A : Type 0} (r : Reporting O) (done : Result A Ended) (lines : List Line) (before : O) (answer : Result A RunFault) (after : O) : Type 0 where
  pub count : r.faults before ≤ r.faults after
  pub whole : (a : A) → answer ≡ Ok a → (done ≡ Ok a) × r.took before after lines
  pub limit : answer ≡ Err runs.Limit → is_limit done × r.took before after lines
  pub part : is_ok answer ≡ false → r.front before after (lines_kept done lines)
  pub rose : answer ≡ Err runs.Write → Rose (r.faults before) (r.faults after)
  pub no_fault : answer ≢ Err runs.Write → r.faults after ≡ r.faults before

-- the last lines of a run that a limit cut short
pub record ReportedLast {O : Type 0} (r : Reporting O) (lines : List Line) (before : O) (answer : RunFault) (after : O) : Type 0 where
  pub count : r.faults before ≤ r.faults after
  pub limit : answer ≡ runs.Limit → r.took before after lines
  pub front : r.front before after lines
  pub rose : answer ≡ runs.Write → Rose (r.faults before) (r.faults after)
  pub no_fault : answer ≢ runs.Write → r.faults after ≡ r.faults before

-- ---- a whole run

-- the end came, this holds of its moment, and the output took each line
pub record TookWhole {O : Type 0} (r : Reporting O) (c : Course O) (Gives : Moment → Type 0) (now : O) : Type 0 where
  pub closing : Devices
  pub lines : List Line
  pub whole : IsWhole c.setup c.schedule c.images closing lines
  pub gives : Gives whole.last
  pub took : r.took c.output now lines

pub record RunsFrom {O A : Type 0} (r : Reporting O) (c : Course O) (Gives : A → Moment → Type 0) (answer : Result A RunFault) (now : O) : Type 0 where
  pub count : r.faults c.output ≤ r.faults now
  pub whole : (a : A) → answer ≡ Ok a → TookWhole r c (Gives a) now
  pub limit : answer ≡ Err runs.Limit → TookLimited r c now
  pub part : is_ok answer ≡ false → TookPart r c now
  pub rose : answer ≡ Err runs.Write → Rose (r.faults c.output) (r.faults now)
  pub no_fault : answer ≢ Err runs.Write → r.faults now ≡ r.faults c.output

-- these stores are left, one of each server, and each is that of an image where the server has nothing but files
pub record AreLeft {S : Type 0} (device : S → DeviceState) (x : Setup) (stores : List S) (m : Moment) : Type 0 where
  pub count : length stores ≡ x.servers
  pub each : (n : ℕ) (s : S) → slice_get stores n ≡ Some s → m.devices (record { 0 = n }) ≡ device s
  pub images : (n : ℕ) (s : S) → slice_get stores n ≡ Some s → GivesImage x m (record { 0 = n }) (device s)

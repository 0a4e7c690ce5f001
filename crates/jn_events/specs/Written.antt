-- How a call of the world goes on from where the written machine stands.
use Rattle.jn_base.specs.declared.names.ServerNo.{ServerNo}
use Rattle.jn_device.specs.Device.{DeviceState}
use Rattle.jn_machine.specs.Chances.{Setup}
use Rattle.jn_machine.specs.Devices.{Devices}
use Rattle.jn_machine.specs.Events.{ending}
use Rattle.jn_machine.specs.Runs.{Moment, Leads}
use Rattle.jn_machine.specs.Tasks.{Stage, CutShort, Task, when_of, Begins, InSchedule, Rests, AtEnd}
use Rattle.jn_machine.specs.Whole.{before, AreImages}
use Rattle.jn_order.specs.Files.{AllFiles}
use Rattle.jn_page_state.specs.Images.{IsImage}
use Rattle.jn_recovery.specs.Counts.{counts_by}
use Rattle.jn_recovery.specs.declared.counts.PageCounts.{PageCounts}
use Rattle.jn_report.specs.declared.line.Line.{Line}
use Rattle.jn_report.specs.declared.line.When.{When}
use Rattle.jn_rows.specs.Stable.{stable}
use Rattle.jn_schedule.specs.declared.Event.{Event, Event as AnEvent}
use Rattle.jn_server.specs.Settled.{IsSettledState}
use Rattle.jn_store.specs.Pairs.{pairs_view}
use Rattle.jn_store.specs.Store.{StoreView}
use Rattle.jn_world.specs.Written.{GoesTo, standing_of}
use Rattle.jn_world.specs.declared.ended.Ended.{Ended}
use Rattle.jn_world.specs.declared.ended.Ended.TheVariants.{Messages, Epoch, Memory}
use Rattle.jn_world.specs.declared.world.World.{World}
use Rattle.jn_world_refines.specs.Going.{NoMessageLeft, NoEpochLeft, WentOn, WasCut, IsTold}
use Rattle.jn_world_refines.specs.Stands.{Standing, Stands}
use Rattle.std.specs.Prelude.{Bool, true, false, ◌≡◌, ◌+◌, List, ◌++◌, Result, ℕ, ◌∷◌, ⊤, Ok, Err, map, length, slice_get, Some, []}

-- whether a run goes on
abbrev pub is_going : Stage → Bool
is_going CutShort = false
is_going stage = true

-- A call does these tasks: from any moment at which the world stands and they are next.
abbrev pub DoesTasks : {S A : Type 0} → (S → StoreView) → (S → DeviceState) → (Setup → List Task) → When → Standing S → Result A Ended → Standing S → List Line → List Line → Type 0
DoesTasks look device tasks when w result w' lines lines' =
    (x : Setup) (m : Moment) (rest : List Task) → Stands look device x w m → m.state.tasks ≡ tasks x ++ rest → is_going m.state.stage ≡ true → when_of m.state ≡ when
    → GoesTo look device x m rest result w' lines lines'

-- A call does this event of the schedule: from any moment at which the world stands, and the event of this number is to begin.
abbrev pub DoesScheduled : {S A : Type 0} → (S → StoreView) → (S → DeviceState) → ℕ → Event → Standing S → Result A Ended → Standing S → List Line → List Line → Type 0
DoesScheduled look device number event w result w' lines lines' =
    (x : Setup) (m : Moment) (rest : List Task) → Stands look device x w m → m.state.tasks ≡ Begins event ∷ rest → m.state.stage ≡ InSchedule → number ≡ m.state.course.world.event + 1
    → GoesTo look device x m rest result w' lines lines'

-- ---- a turn of a rest

-- steps were made, and a rest is still next, or nothing was left to do
abbrev pub GoesTurn : {S : Type 0} → (S → StoreView) → (S → DeviceState) → Setup → Moment → List Task → Result Bool Ended → Standing S → List Line → List Line → Type 0
GoesTurn look device x m rest (Ok true) w' lines lines' = WentOn look device x m (Rests ∷ rest) w' lines lines'
GoesTurn look device x m rest (Ok false) w' lines lines' = WentOn look device x m rest w' lines lines'
GoesTurn look device x m rest (Err Messages) w' lines lines' = WasCut x m NoMessageLeft lines lines'
GoesTurn look device x m rest (Err (Epoch q)) w' lines lines' = WasCut x m (NoEpochLeft q) lines lines'
GoesTurn look device x m rest (Err Memory) w' lines lines' = ⊤

abbrev pub TakesTurn : {S : Type 0} → (S → StoreView) → (S → DeviceState) → When → Standing S → Result Bool Ended → Standing S → List Line → List Line → Type 0
TakesTurn look device when w result w' lines lines' =
    (x : Setup) (m : Moment) (rest : List Task) → Stands look device x w m → m.state.tasks ≡ Rests ∷ rest → is_going m.state.stage ≡ true → when_of m.state ≡ when
    → GoesTurn look device x m rest result w' lines lines'

-- A call made steps of a rest, which is still next.
abbrev pub KeepsOn : {S A : Type 0} → (S → StoreView) → (S → DeviceState) → When → Standing S → Result A Ended → Standing S → List Line → List Line → Type 0
KeepsOn look device when w result w' lines lines' =
    (x : Setup) (m : Moment) (rest : List Task) → Stands look device x w m → m.state.tasks ≡ Rests ∷ rest → is_going m.state.stage ≡ true → when_of m.state ≡ when
    → GoesTo look device x m (Rests ∷ rest) result w' lines lines'

-- ---- the start and the end

-- a world begins as the machine does before a run
abbrev pub StartsAt : {S : Type 0} → (S → StoreView) → (S → DeviceState) → Setup → List AnEvent → Moment → Result (World S) Ended → List Line → List Line → Type 0
StartsAt look device x schedule m (Ok w) lines lines' = WentOn look device x m (map (λ (e : AnEvent). Begins e) schedule ++ ending x) (standing_of w) lines lines'
StartsAt look device x schedule m (Err Messages) lines lines' = WasCut x m NoMessageLeft lines lines'
StartsAt look device x schedule m (Err (Epoch q)) lines lines' = WasCut x m (NoEpochLeft q) lines lines'
StartsAt look device x schedule m (Err Memory) lines lines' = ⊤

-- these are the stores of its servers
pub record AreStoresOf {S : Type 0} (device : S → DeviceState) (x : Setup) (stores : List (S × PageCounts)) (images : Devices) : Type 0 where
  pub servers : length stores ≡ x.servers
  pub counts : (n : ℕ) (s : S × PageCounts) → slice_get stores n ≡ Some s → x.counts (record { 0 = n }) ≡ counts_by s.1
  pub devices : (n : ℕ) (s : S × PageCounts) → slice_get stores n ≡ Some s → images (record { 0 = n }) ≡ device s.0

abbrev pub Starts : {S : Type 0} → (S → StoreView) → (S → DeviceState) → List (S × PageCounts) → Bool → Result (World S) Ended → List Line → List Line → Type 0
Starts look device stores trace result lines lines' =
    (x : Setup) (schedule : List AnEvent) (files : AllFiles) (epochs : ServerNo → ℕ) (images : Devices) → AreStoresOf device x stores images → x.trace ≡ trace → AreImages x files epochs images
    → StartsAt look device x schedule (record { state = before x schedule files epochs; devices = images }) result lines lines'

-- where a server has nothing but files, this device has the pages of a sound image, which holds these files
abbrev pub GivesImage : Setup → Moment → ServerNo → DeviceState → Type 0
GivesImage x m q d = let y = stable (m.state.course.world.found q) in IsSettledState y → IsImage q (x.counts q) y.files (pairs_view d)

-- The end was done, and these stores are left, one of each server.
pub record IsClosed {S : Type 0} (device : S → DeviceState) (x : Setup) (m : Moment) (stores : List S) (lines lines' : List Line) : Type 0 where
  pub last : Moment
  pub leads : Leads x m last
  pub tasks : last.state.tasks ≡ []
  pub stage : last.state.stage ≡ AtEnd
  pub told : IsTold m last lines lines'
  pub servers : length stores ≡ x.servers
  pub devices : (n : ℕ) (s : S) → slice_get stores n ≡ Some s → last.devices (record { 0 = n }) ≡ device s
  pub images : (n : ℕ) (s : S) → slice_get stores n ≡ Some s → GivesImage x last (record { 0 = n }) (device s)

abbrev pub Closes : {S A : Type 0} → (S → DeviceState) → (A → List S) → Setup → Moment → Result A Ended → List Line → List Line → Type 0
Closes device items_of x m (Ok stores) lines lines' = IsClosed device x m (items_of stores) lines lines'
Closes device items_of x m (Err Messages) lines lines' = WasCut x m NoMessageLeft lines lines'
Closes device items_of x m (Err (Epoch q)) lines lines' = WasCut x m (NoEpochLeft q) lines lines'
Closes device items_of x m (Err Memory) lines lines' = ⊤

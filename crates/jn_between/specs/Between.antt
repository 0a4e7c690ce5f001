-- What holds of the moments of a run of the written machine: of the whole system between two steps, and of its report and what lies on
-- its pages between two events and after the end.
use Rattle.std.specs.Prelude.{◌≡◌, ◌<◌, true, List, length, Some, None, is_some}
use Rattle.jn_base.specs.declared.names.ServerNo.{ServerNo}
use Rattle.jn_base.specs.declared.names.LockUnit.{LockUnit}
use Rattle.jn_base.specs.declared.names.Tid.{Tid}
use Rattle.jn_base.specs.declared.names.WorkId.{WorkId}
use Rattle.jn_order.specs.Files.{AllFiles}
use Rattle.jn_device.specs.Device.{DeviceState}
use Rattle.jn_records.specs.StablePages.{Counts, page_count}
use Rattle.jn_store.specs.Pairs.{pairs_view}
use Rattle.jn_schedule.specs.declared.Event.{Event}
use Rattle.jn_report.specs.declared.line.Line.{Line}
use Rattle.jn_serial.specs.Lines.{history_of}
use Rattle.jn_serial.specs.Order.{replay}
use Rattle.jn_rows.specs.Stable.{StableState, Pick, IsUp}
use Rattle.jn_rows.specs.Worker.{WorkerTable, commit_holder}
use Rattle.jn_system.specs.SmallSteps.Held.{file_unit}
use Rattle.jn_page_state.specs.Pages.{found_on}
use Rattle.jn_system.specs.WholeSystem.World.{World, Memory}
use Rattle.jn_system_order.specs.Ordering.Runs.{IsDone}
use Rattle.jn_system_reports.specs.BetweenSteps.Names.{AreMadeOnce}
use Rattle.jn_system_reports.specs.BetweenSteps.Doubt.{IsDownInDoubt}
use Rattle.jn_system_reports.specs.BetweenSteps.Works.{DoWorksStay}
use Rattle.jn_system_reports.specs.BetweenSteps.Commits.{AreToldAfter}
use Rattle.jn_system_reports.specs.BetweenSteps.Drops.{AreOfThePast}
use Rattle.jn_system_reports.specs.BetweenSteps.Answers.{DoAnswersStand}
use Rattle.jn_system_reports.specs.BetweenSteps.Lines.{DoLinesStand}
use Rattle.jn_headline.specs.Headline.{IsOfItsCommits, IsTrueSoFar}
use Rattle.jn_machine.specs.Chances.{Setup}
use Rattle.jn_machine.specs.Devices.{Devices, AreFound}
use Rattle.jn_machine.specs.Runs.{Moment}

-- ---- the whole system

-- No name of a transaction or a work is made twice. Where a transaction's flag may be found and its commit has no line, its coordinator is
-- down. The works of a flag and of a commit stay until they are carried out. No one is told of a commit before its line. Only works that
-- are over are told to drop, of a commit. What works were answered that may yet commit, the commits so far answer. And at a server that is
-- up all picks of halves find the same.
pub record IsConsistent (files : AllFiles) (w : World) : Type 0 where
  pub names : AreMadeOnce w
  pub doubt : IsDownInDoubt w
  pub works : DoWorksStay w
  pub commits : AreToldAfter w
  pub drops : AreOfThePast w
  pub answers : DoAnswersStand files w
  pub up : (q : ServerNo) (m : Memory) → w.memory q ≡ Some m → IsUp (w.found q)

-- ---- what lies on the pages

-- what this pick of halves finds on a server's device
abbrev pub state_on : Counts → DeviceState → Pick → StableState
state_on g d c = found_on g (pairs_view d) c

-- the files that the commits of the lines leave, run one after another
abbrev pub files_told : AllFiles → List Event → List Line → AllFiles
files_told files events lines = replay files events lines (history_of lines)

-- no prepared work holds the unit for commit, and none its file
abbrev pub IsFree : LockUnit → WorkerTable → Type 0
IsFree u works = (commit_holder u works ≡ None) × (commit_holder (file_unit u) works ≡ None)

-- What each pick finds is as in these files: at a server that is up, each file and each block that is free; and at any server each one that
-- no prepared work which the pick finds is still to write, of a transaction whose commit has its line.
pub record AreOnPages (x : Setup) (files : AllFiles) (w : World) (ds : Devices) : Type 0 where
  pub free : (q : ServerNo) (m : Memory) (u : LockUnit) → q.0 < x.servers → w.memory q ≡ Some m → IsFree u m.worker → (c : Pick) → (state_on (x.counts q) (ds q) c).files u ≡ files q u
  pub done : (q : ServerNo) (u : LockUnit) (c : Pick) → q.0 < x.servers → IsDone w (state_on (x.counts q) (ds q) c) u → (state_on (x.counts q) (ds q) c).files u ≡ files q u

-- ---- between two events

-- These events are done, and no other has begun. The report so far is true of them; what its lines report of works that may yet commit stands
-- in the files that the commits so far leave; and so do the pages.
pub record IsTrueBetween (x : Setup) (files : AllFiles) (done : List Event) (m : Moment) : Type 0 where
  pub number : m.state.course.world.event ≡ length done
  pub system : IsConsistent files m.state.course.world
  pub report : IsTrueSoFar files done done m.state.lines
  pub answers : DoLinesStand files done m.state.lines m.state.course.world
  pub pages : AreOnPages x (files_told files done m.state.lines) m.state.course.world m.devices

-- ---- after the end

-- The report is that of its commits. Every server is up and holds nothing for commit, and each pick finds on its pages each file and each
-- block as all commits leave it, and no work and no flag. There are as many pages as its counts say, and the world finds what they have.
pub record IsTrueAtEnd (x : Setup) (files : AllFiles) (schedule : List Event) (m : Moment) : Type 0 where
  pub system : IsConsistent files m.state.course.world
  pub report : IsOfItsCommits files schedule m.state.lines
  pub up : (q : ServerNo) → q.0 < x.servers → is_some (m.state.course.world.memory q) ≡ true
  pub free : (q : ServerNo) (memory : Memory) (u : LockUnit) → m.state.course.world.memory q ≡ Some memory → commit_holder u memory.worker ≡ None
  pub pages : (q : ServerNo) (u : LockUnit) (c : Pick) → q.0 < x.servers → (state_on (x.counts q) (m.devices q) c).files u ≡ files_told files schedule m.state.lines q u
  pub works : (q : ServerNo) (c : Pick) (W : WorkId) → q.0 < x.servers → (state_on (x.counts q) (m.devices q) c).works W ≡ None
  pub flags : (q : ServerNo) (c : Pick) (T : Tid) → q.0 < x.servers → (state_on (x.counts q) (m.devices q) c).flags T ≡ None
  pub found : AreFound x m.state.course.world m.devices
  pub count : (q : ServerNo) → q.0 < x.servers → page_count (x.counts q) ≡ (pairs_view (m.devices q)).count

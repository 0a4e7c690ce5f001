-- What a call of the program leaves, by its status: what is asked for, what a run begins with, what holds of its lines, what is kept, read and written,
-- and each way to end.
use Rattle.std.specs.Prelude.{◌≡◌, ◌≤◌, ◌<◌, ℕ, ◌+◌, false, List, ◌∷◌, [], ◌++◌, length, Option, Some, None, codes, decimal, IfSome}
use Rattle.jn_schedule.specs.declared.Event.{Event}
use Rattle.jn_report.specs.declared.line.Line.{Line}
use Rattle.jn_report.specs.Text.{report_text}
use Rattle.jn_host.specs.Outside.{Contents}
use Rattle.jn_base.specs.Counts.{Rose}
use Rattle.jn_schedule.specs.Grammar.{IsSchedule}
use Rattle.jn_schedule.specs.Faults.{IsFirstFault}
use Rattle.jn_base.specs.declared.names.LockUnit.{LockUnit}
use Rattle.jn_base.specs.declared.names.ServerNo.{ServerNo}
use Rattle.jn_order.specs.Files.{AllFiles, no_files}
use Rattle.jn_records.specs.StablePages.{Counts, root_by}
use Rattle.jn_store.specs.Pairs.{pairs_view}
use Rattle.jn_disks.specs.Disks.{IsNewStore}
use Rattle.jn_image_files.specs.declared.refusal.Refusal.{Refusal}
use Rattle.jn_image_files.specs.Examined.{IsFirstRefused}
use Rattle.jn_image_files.specs.Kept.{Has, IsSaved, image_name, OthersStay}
use Rattle.jn_image_files.specs.Texts.{refusal_text}
use Rattle.jn_options.specs.declared.asked.Command.{Command}
use Rattle.jn_options.specs.declared.asked.Command.TheVariants.{Run, Trial, Node}
use Rattle.jn_options.specs.declared.asked.Geometry.{Geometry}
use Rattle.jn_options.specs.declared.asked.Opening.{Opening}
use Rattle.jn_options.specs.declared.asked.Opening.TheVariants.{New, Images}
use Rattle.jn_options.specs.declared.asked.Options.{Options}
use Rattle.jn_options.specs.declared.asked.Trial.{Trial as ATrial}
use Rattle.jn_gen.specs.Trial.{events_from}
use Rattle.jn_page_state.specs.Pages.{found_on}
use Rattle.jn_headline.specs.Headline.{IsTrueOfBegun, IsOfItsCommits}
use Rattle.jn_system.specs.WholeSystem.World.{AreFilesOf}
use Rattle.jn_rows.specs.Stable.{Pick}
use Rattle.jn_serial.specs.Lines.{history_of}
use Rattle.jn_serial.specs.Order.{replay}
use Rattle.jn_machine.specs.Chances.{Setup}
use Rattle.jn_machine.specs.Devices.{Devices}
use Rattle.jn_machine.specs.Tasks.{CutShort}
use Rattle.jn_machine.specs.Whole.{IsWhole as IsWholeRun, IsPartOfRun}
use Rattle.jn_summary.specs.Summary.{summary_text}
use Rattle.jn_node_run.specs.Outcome.{NodeEnds}
use Rattle.jn_writing.specs.Outside.{SourceState, SinkState, KeeperState, Outside, KeeperFails, Writes, WritesFront, FailsToWrite}
use Rattle.jn_image_files.specs.Opened.{IsOpened}
use Rattle.jn_serving.specs.Input.{most_bytes, IsText}
use Rattle.jn_run.specs.Source.{Gives, GivesSome, FailsToGive}
use Rattle.jn_status.specs.declared.status.Status.{Status}
use Rattle.jn_status.specs.declared.status.Status.TheVariants.{Done, Words, Schedule, Image, Read, Write, Keep, Limit, Memory}

-- ---- what a run begins with

abbrev pub geometry_counts : Geometry → Counts
geometry_counts g = record { pool = g.pool; heads = g.heads; leaves = g.leaves }

-- each server's disk is new: good pages of zeros behind a root of version 2 and epoch 0, with power and no fault
abbrev pub AreNew : Geometry → ℕ → Devices → Type 0
AreNew g servers images = (q : ServerNo) → q.0 < servers → IsNewStore (root_by q (geometry_counts g) 0) (pairs_view (images q))

-- the disks are new, with so many pages, or those of the images of this name
abbrev pub BeginsWith : Opening → Option Contents → Setup → AllFiles → Devices → Type 0
BeginsWith (New g) kept x files images = ((q : ServerNo) → x.counts q ≡ geometry_counts g) × (files ≡ no_files) × AreNew g x.servers images
BeginsWith (Images name) kept x files images = AreFilesOf x.servers files × ((q : ServerNo) → q.0 < x.servers → IsOpened kept name (x.counts q) (files q) q (images q))

-- the servers, their counts of pages, their files and their disks that a run begins with, as the options ask
pub record Opens (options : Options) (kept : Option Contents) : Type 0 where
  pub setup : Setup
  pub files : AllFiles
  pub images : Devices
  pub servers : setup.servers ≡ options.servers
  pub trace : setup.trace ≡ options.trace
  pub disks : BeginsWith options.opening kept setup files images

-- ---- what holds of the lines

-- The disks that are left hold, by every pick of halves, the files that the run began with and the commits that the lines name leave.
abbrev pub LeavesFiles : Setup → AllFiles → List Event → List Line → Devices → Type 0
LeavesFiles x files events lines closing = (q : ServerNo) (u : LockUnit) (c : Pick) → q.0 < x.servers → (found_on (x.counts q) (pairs_view (closing q)) c).files u ≡ replay files events lines (history_of lines) q u

-- The lines are those of a run of the written machine over all events, from these disks to others, and those of its commits.
pub record IsWholeReport (options : Options) (kept : Option Contents) (events : List Event) (lines : List Line) : Type 0 where
  pub opens : Opens options kept
  pub closing : Devices
  pub run : IsWholeRun opens.setup events opens.images closing lines
  pub commits : IsOfItsCommits opens.files events lines
  pub left : LeavesFiles opens.setup opens.files events lines closing

-- the lines of such a run up to some step, true of the events that have begun
pub record IsPart (options : Options) (kept : Option Contents) (events : List Event) (lines : List Line) : Type 0 where
  pub opens : Opens options kept
  pub run : IsPartOfRun opens.setup events opens.images lines
  pub commits : IsTrueOfBegun opens.files events run.now.state.course.world.event lines

-- the same where a limit cut the run short
pub record IsCutShort (options : Options) (kept : Option Contents) (events : List Event) (lines : List Line) : Type 0 where
  pub part : IsPart options kept events lines
  pub stage : part.run.now.state.stage ≡ CutShort

-- ---- what is kept

-- the disks of the first n servers are kept as images of this name and of version 2, and nothing else was changed
pub record AreKept (kept : Option Contents) (name : List ℕ) (n : ℕ) (x : Setup) (closing : Devices) (kept' : Option Contents) : Type 0 where
  pub disks : (q : ServerNo) → q.0 < n → IsSaved kept' name (x.counts q) q (closing q)
  pub others : OthersStay kept name n kept'

-- the disks that a run leaves are kept where that is asked for, and no call failed
abbrev pub Keeps : Option (List ℕ) → Setup → Devices → KeeperState → KeeperState → Type 0
Keeps None x closing before after = after ≡ before
Keeps (Some name) x closing before after = AreKept before.kept name x.servers x closing after.kept × (after.faults ≡ before.faults)

-- or only the first of them, since one couldn't be kept
abbrev pub KeepsFirst : Option (List ℕ) → Setup → Devices → KeeperState → KeeperState → Type 0
KeepsFirst None x closing before after = ⊥
KeepsFirst (Some name) x closing before after = (n : ℕ) × (n < x.servers) × AreKept before.kept name n x closing after.kept

-- ---- what is read

-- the most events of a schedule
abbrev pub most_events : ℕ
most_events = 100000

-- the source had this text, and gave it whole
pub record Reads (text : List ℕ) (before after : SourceState) : Type 0 where
  pub told : IsText before.left text
  pub fits : length text ≤ most_bytes
  pub gave : Gives (length text) before after

-- it had more bytes than a schedule may have, and gave one more than that
pub record HasTooManyBytes (before after : SourceState) : Type 0 where
  pub many : IfSome before.left (λ bytes. most_bytes < length bytes)
  pub gave : Gives (most_bytes + 1) before after

-- this text is a schedule that may be run
pub record Accepted (text : List ℕ) (events : List Event) : Type 0 where
  pub schedule : IsSchedule text events
  pub few : length events ≤ most_events

-- it had a schedule that may be run
pub record ReadsSchedule (before after : SourceState) : Type 0 where
  pub text : List ℕ
  pub reads : Reads text before after
  pub events : List Event
  pub accepted : Accepted text events

-- it had a schedule of too many events
pub record HasTooManyEvents (before after : SourceState) : Type 0 where
  pub text : List ℕ
  pub reads : Reads text before after
  pub events : List Event
  pub schedule : IsSchedule text events
  pub many : most_events < length events

-- ---- the texts that refuse

-- words that are no command
abbrev pub refused_words : List ℕ
refused_words = codes "refused: words" ++ 10 ∷ []

-- a schedule's line is refused, by the number of its fault
abbrev pub refused_line : ℕ → ℕ → List ℕ
refused_line line number = codes "refused: schedule line " ++ decimal line ++ codes " number " ++ decimal number ++ 10 ∷ []

-- ---- the parts of a run that is asked for

-- The source had a schedule, this holds of its events and of the run's lines, and so much of their text was written.
pub record Ran (before after : Outside) (Holds : List Event → List Line → Type 0) (Written : List ℕ → SinkState → SinkState → Type 0) : Type 0 where
  pub read : ReadsSchedule before.source after.source
  pub lines : List Line
  pub holds : Holds read.events lines
  pub written : Written (report_text lines) before.sink after.sink

-- the run was done, and this holds of how its disks are kept
abbrev pub RanWhole : Options → Outside → Outside → (Option (List ℕ) → Setup → Devices → KeeperState → KeeperState → Type 0) → Type 0
RanWhole options before after Saves = Ran before after
    (λ events lines. (w : IsWholeReport options before.keeper.kept events lines) × Saves options.closing w.opens.setup w.closing before.keeper after.keeper) Writes

-- the source's text was refused, and so much of the text that says so was written
pub record RefusedSchedule (before after : Outside) (Written : List ℕ → SinkState → SinkState → Type 0) : Type 0 where
  pub text : List ℕ
  pub reads : Reads text before.source after.source
  pub line : ℕ
  pub number : ℕ
  pub refused : IsFirstFault text line number
  pub written : Written (refused_line line number) before.sink after.sink

-- of the images of this name, which the keeper had so, this is the first that is refused
pub record IsRefusedOf (name : List ℕ) (servers : ℕ) (kept : Option Contents) (r : Refusal) : Type 0 where
  pub found : ℕ → Option (List ℕ)
  pub kept_so : (n : ℕ) → n < servers → Has kept (image_name name n) (found n)
  pub first : IsFirstRefused found servers r

-- of those that the run was to begin with
abbrev pub IsRefusedImage : Options → Option Contents → Refusal → Type 0
IsRefusedImage options kept r = (name : List ℕ) × (options.opening ≡ Images name) × IsRefusedOf name options.servers kept r

-- the source had a schedule, an image was refused, and so much of the text that says so was written
pub record RefusedImage (options : Options) (before after : Outside) (Written : List ℕ → SinkState → SinkState → Type 0) : Type 0 where
  pub read : ReadsSchedule before.source after.source
  pub refusal : Refusal
  pub refused : IsRefusedImage options before.keeper.kept refusal
  pub written : Written (refusal_text refusal) before.sink after.sink

abbrev pub BeginsFromImages : Options → Type 0
BeginsFromImages options = (name : List ℕ) × (options.opening ≡ Images name)

-- ---- each way to end

-- where the words are no command
pub data WordsEnd (before after : SinkState) : Status → Type 0 where
  words_refused : Writes refused_words before after → WordsEnd before after Words
  words_not_written : FailsToWrite refused_words before after → WordsEnd before after Write
  words_no_memory : after ≡ before → WordsEnd before after Memory

-- where they ask for a run
pub data RunEnds (options : Options) (before after : Outside) : Status → Type 0 where
  done : RanWhole options before after Keeps → RunEnds options before after Done
  -- the source failed, or the schedule is too long
  not_read : FailsToGive before.source after.source → after.sink ≡ before.sink → after.keeper ≡ before.keeper → RunEnds options before after Read
  too_many_bytes : HasTooManyBytes before.source after.source → after.sink ≡ before.sink → after.keeper ≡ before.keeper → RunEnds options before after Limit
  too_many_events : HasTooManyEvents before.source after.source → after.sink ≡ before.sink → after.keeper ≡ before.keeper → RunEnds options before after Limit
  -- the schedule is refused
  schedule_refused : RefusedSchedule before after Writes → after.keeper ≡ before.keeper → RunEnds options before after Schedule
  schedule_not_written : RefusedSchedule before after FailsToWrite → after.keeper ≡ before.keeper → RunEnds options before after Write
  -- an image isn't loaded, or is refused
  not_loaded : BeginsFromImages options → ReadsSchedule before.source after.source → after.sink ≡ before.sink → KeeperFails before.keeper after.keeper → RunEnds options before after Keep
  image_refused : RefusedImage options before after Writes → after.keeper ≡ before.keeper → RunEnds options before after Image
  image_not_written : RefusedImage options before after FailsToWrite → after.keeper ≡ before.keeper → RunEnds options before after Write
  -- the run is cut short by a limit, or its report isn't written, or its disks aren't kept
  at_limit : Ran before after (IsCutShort options before.keeper.kept) Writes → after.keeper ≡ before.keeper → RunEnds options before after Limit
  not_written : Ran before after (IsPart options before.keeper.kept) FailsToWrite → after.keeper ≡ before.keeper → RunEnds options before after Write
  not_saved : RanWhole options before after KeepsFirst → Rose before.keeper.faults after.keeper.faults → RunEnds options before after Keep
  -- memory runs out before the run, in it, or while its disks are kept
  no_memory : GivesSome before.source after.source → after.sink ≡ before.sink → after.keeper ≡ before.keeper → RunEnds options before after Memory
  no_memory_inside : Ran before after (IsPart options before.keeper.kept) WritesFront → after.keeper ≡ before.keeper → RunEnds options before after Memory
  no_memory_saving : RanWhole options before after KeepsFirst → after.keeper.faults ≡ before.keeper.faults → RunEnds options before after Memory

-- ---- the same of a trial

-- two servers, each as one that a run has without options
abbrev pub trial_options : Options
trial_options = record { servers = 2; opening = New (record { pool = 32; heads = 16; leaves = 128 }); closing = None; trace = false }

-- The lines are those of a whole run of the events that the seed gives, and this holds of the one line that sums them up.
pub record RanTrial (trial : ATrial) (kept : Option Contents) (Holds : List ℕ → Type 0) : Type 0 where
  pub lines : List Line
  pub whole : IsWholeReport trial_options kept (events_from trial.seed trial.events) lines
  pub told : Holds (summary_text trial.seed trial.events lines)

-- a limit cut the run of these events short
pub record TrialToLimit (trial : ATrial) (kept : Option Contents) : Type 0 where
  pub lines : List Line
  pub cut : IsCutShort trial_options kept (events_from trial.seed trial.events) lines

-- where a limit cuts it short or memory runs out, nothing is reported of it
pub data TrialEnds (trial : ATrial) (kept : Option Contents) (before after : SinkState) : Status → Type 0 where
  trial_done : RanTrial trial kept (λ text. Writes text before after) → TrialEnds trial kept before after Done
  trial_not_written : RanTrial trial kept (λ text. FailsToWrite text before after) → TrialEnds trial kept before after Write
  trial_at_limit : TrialToLimit trial kept → after ≡ before → TrialEnds trial kept before after Limit
  trial_no_memory : after ≡ before → TrialEnds trial kept before after Memory

-- ---- what a call leaves, by the command that its words are

-- nothing was read; what the keeper keeps, and how often it failed, are as before
pub record IsUntouched (before after : Outside) : Type 0 where
  pub source : after.source ≡ before.source
  pub keeper : after.keeper ≡ before.keeper

abbrev pub OutcomeOf : Option Command → Outside → Outside → Status → Type 0
OutcomeOf None before after status = IsUntouched before after × WordsEnd before.sink after.sink status
OutcomeOf (Some (Run options)) before after status = RunEnds options before after status
OutcomeOf (Some (Trial trial)) before after status = IsUntouched before after × TrialEnds trial before.keeper.kept before.sink after.sink status
OutcomeOf (Some (Node node)) before after status = NodeEnds node before after status

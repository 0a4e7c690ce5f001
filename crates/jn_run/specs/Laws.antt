-- What follows from what a call leaves: which counts rise, when the keeper stays as it was, and that what can be done is done.
use Rattle.std.specs.Prelude.{◌≡◌, ◌≢◌, ◌≤◌, ◌<◌, ℕ, List, length, Option, Some, None}
use Rattle.jn_host.specs.Outside.{Contents}
use Rattle.jn_base.specs.Counts.{Rose}
use Rattle.jn_image_files.specs.Examined.{IsAccepted}
use Rattle.jn_image_files.specs.Kept.{image_name}
use Rattle.jn_options.specs.declared.asked.Command.{Command}
use Rattle.jn_options.specs.declared.asked.Command.TheVariants.{Run, Trial}
use Rattle.jn_options.specs.declared.asked.Geometry.{Geometry}
use Rattle.jn_options.specs.declared.asked.Opening.{Opening}
use Rattle.jn_options.specs.declared.asked.Opening.TheVariants.{New, Images}
use Rattle.jn_options.specs.declared.asked.Options.{Options}
use Rattle.jn_options.specs.declared.asked.Trial.{Trial as ATrial}
use Rattle.jn_report.specs.Text.{report_text}
use Rattle.jn_report.specs.declared.line.Line.{Line}
use Rattle.jn_schedule.specs.declared.Event.{Event}
use Rattle.jn_run.specs.Outcome.{Accepted, IsCutShort, IsWholeReport, OutcomeOf, RanTrial, TrialToLimit}
use Rattle.jn_writing.specs.Outside.{NoneFails, Outside, Writes}
use Rattle.jn_serving.specs.Input.{most_bytes}
use Rattle.jn_status.specs.declared.status.Status.{Status}
use Rattle.jn_status.specs.declared.status.Status.TheVariants as statuses

-- ---- what stays as it was

-- the count of the source rises with status 5 alone, that of the sink with 6 alone, that of the keeper with 7 alone
pub record OnlyItsCountRises (before after : Outside) (status : Status) : Type 0 where
  pub source : status ≢ statuses.Read → after.source.faults ≡ before.source.faults
  pub sink : status ≢ statuses.Write → after.sink.faults ≡ before.sink.faults
  pub keeper : status ≢ statuses.Keep → after.keeper.faults ≡ before.keeper.faults

abbrev pub CountsTellTheStatus : Type 0
CountsTellTheStatus = (asked : Option Command) (before after : Outside) (status : Status) → OutcomeOf asked before after status → OnlyItsCountRises before after status

-- a run that neither begins with images nor leaves any leaves the keeper as it was, whatever its status
abbrev pub KeeperIsLeftAlone : Type 0
KeeperIsLeftAlone = (options : Options) (g : Geometry) (before after : Outside) (status : Status) → options.opening ≡ New g → options.closing ≡ None → OutcomeOf (Some (Run options)) before after status → after.keeper ≡ before.keeper

-- ---- what can be done is done

-- where the run is to begin with images, the keeper tells what it has, and has a sound one of each server
abbrev pub HasImages : Opening → ℕ → Option Contents → Type 0
HasImages (New g) servers kept = Unit {0}
HasImages (Images name) servers kept = (holds : Contents) × (kept ≡ Some holds) × ((n : ℕ) → n < servers → IsAccepted (record { 0 = n }) (holds (image_name name n)))

-- the source tells what it has, which is a schedule of these events that may be run
pub record CanRun (options : Options) (events : List Event) (before : Outside) : Type 0 where
  pub text : List ℕ
  pub told : before.source.left ≡ Some text
  pub fits : length text ≤ most_bytes
  pub accepted : Accepted text events
  pub images : HasImages options.opening options.servers before.keeper.kept

-- the run of these events was done and its report taken, or a limit cut it short, or memory ran out
pub data RunCompletes (options : Options) (events : List Event) (before after : Outside) : Status → Type 0 where
  run_done : (lines : List Line) → IsWholeReport options before.keeper.kept events lines → Writes (report_text lines) before.sink after.sink → RunCompletes options events before after statuses.Done
  run_at_limit : (lines : List Line) → IsCutShort options before.keeper.kept events lines → Writes (report_text lines) before.sink after.sink → RunCompletes options events before after statuses.Limit
  run_out_of_memory : RunCompletes options events before after statuses.Memory

abbrev pub RunsComplete : Type 0
RunsComplete = (options : Options) (events : List Event) (before after : Outside) (status : Status) → CanRun options events before → NoneFails before after → OutcomeOf (Some (Run options)) before after status → RunCompletes options events before after status

-- the same of a trial, of which nothing is asked
pub data TrialCompletes (trial : ATrial) (before after : Outside) : Status → Type 0 where
  trial_whole : RanTrial trial before.keeper.kept (λ text. Writes text before.sink after.sink) → TrialCompletes trial before after statuses.Done
  trial_cut_short : TrialToLimit trial before.keeper.kept → TrialCompletes trial before after statuses.Limit
  trial_out_of_memory : TrialCompletes trial before after statuses.Memory

abbrev pub TrialsComplete : Type 0
TrialsComplete = (trial : ATrial) (before after : Outside) (status : Status) → NoneFails before after → OutcomeOf (Some (Trial trial)) before after status → TrialCompletes trial before after status

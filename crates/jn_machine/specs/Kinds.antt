-- In which order lines stand, which commits they count, and why a task is refused.
use Rattle.std.specs.Prelude.{ℕ, ◌+◌, Bool, true, not, ◌&&◌, nat_eq, List, [], ◌∷◌, ◌++◌, length, if◌then◌else◌, Option, Some, None}
use Rattle.std.specs.List.{list_all}
use Rattle.jn_schedule.specs.declared.Event.{Event}
use Rattle.jn_schedule.specs.declared.Event.TheVariants as events
use Rattle.jn_report.specs.declared.line.EventRefusal.{EventRefusal}
use Rattle.jn_report.specs.declared.line.EventRefusal.TheVariants.{TooManyArmed, EpochsUsedUp}
use Rattle.jn_report.specs.declared.line.When.{When}
use Rattle.jn_report.specs.declared.line.Text.{Text}
use Rattle.jn_report.specs.declared.line.Text.TheVariants as says
use Rattle.jn_report.specs.declared.line.Line.{Line}
use Rattle.jn_serial.specs.Lines.{is_before, history_of}
use Rattle.jn_system.specs.WholeSystem.World.{World}
use Rattle.jn_machine.specs.Chances.{Setup, Chance, allowed}
use Rattle.jn_machine.specs.Tasks.{Task, Begins, Meets, Acts}
use Rattle.jn_machine.specs.Deeds.{is_used_up}
use Rattle.jn_machine.specs.Refusals.{refusal_of}
use Rattle.jn_report.specs.Kinds.{no_message}

-- ---- lines of messages

abbrev pub are_quiet : List Line → Bool
are_quiet lines = list_all (λ (l : Line). no_message l.text) lines

-- ---- the order of lines

-- none of these lines stands at an earlier event
abbrev pub none_before : When → List Line → Bool
none_before when lines = list_all (λ (l : Line). not (is_before l.when when)) lines

-- no line stands at an earlier event than one before it
abbrev pub are_in_order : List Line → Bool
are_in_order [] = true
are_in_order (l ∷ lines) = none_before l.when lines && are_in_order lines

-- ---- commits that are counted

abbrev pub counts_right : List Line → Text → Bool
counts_right before (says.Commits n) = nat_eq n (length (history_of before))
counts_right before text = true

-- each line that counts commits counts those of the lines before it
abbrev pub count_right : List Line → List Line → Bool
count_right before [] = true
count_right before (l ∷ lines) = counts_right before l.text && count_right (before ++ l ∷ []) lines

-- ---- refusals

-- why an event is refused while it is done
abbrev pub refused_while : Chance → Event → World → Option EventRefusal
refused_while h (events.Arm q n kind) w = if allowed h.found then None else Some TooManyArmed
refused_while h (events.Restart q) w = if is_used_up h q w then Some EpochsUsedUp else None
refused_while h event w = None

abbrev pub or_else : Option EventRefusal → Option EventRefusal → Option EventRefusal
or_else None later = later
or_else (Some refusal) later = Some refusal

-- why a task is refused
abbrev pub cause_of : Setup → Chance → Task → World → Option EventRefusal
cause_of x h (Meets event) w = or_else (refusal_of x w event) (refused_while h event w)
cause_of x h (Acts event) w = refused_while h event w
cause_of x h task w = None

-- ---- events that are left

-- how many events have yet to begin
abbrev pub events_left : List Task → ℕ
events_left [] = 0
events_left (Begins event ∷ tasks) = events_left tasks + 1
events_left (task ∷ tasks) = events_left tasks

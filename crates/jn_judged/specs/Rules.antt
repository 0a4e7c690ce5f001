-- When a line of a report breaks a rule that needs no files: outcomes (12), causes (13), and answers that follow their commands (14).
use Rattle.std.specs.Prelude.{ℕ, zero, suc, ◌+◌, Bool, false, not, ◌&&◌, ◌||◌, nat_eq, if◌then◌else◌, List, [], ◌∷◌, ◌++◌, Option, Some, None}
use Rattle.std.specs.List.{list_any}
use Rattle.jn_base.specs.declared.names.Tid.{Tid}
use Rattle.jn_schedule.specs.declared.Event.{Event}
use Rattle.jn_report.specs.declared.line.When.{When}
use Rattle.jn_report.specs.declared.line.When.TheVariants.{Event as AtEvent, End}
use Rattle.jn_report.specs.declared.line.Text.{Text}
use Rattle.jn_report.specs.declared.line.Text.TheVariants as says
use Rattle.jn_report.specs.declared.line.Line.{Line}
use Rattle.jn_report.specs.Kinds.{commit_in, is_answer, is_own_refusal, answer_in}
use Rattle.jn_serial.specs.Lines.{has_tid, history_of, lines_at, event_at, count_lines}
use Rattle.jn_serial.specs.Caused.{is_caused}
use Rattle.jn_serial.specs.Follows.{Outstanding, nothing_asked, after_event, after_one, after_answers, fits, own_in_place}

-- whether a line breaks a rule, by the lines before it and those behind it
abbrev pub Rule : Type 0
Rule = List Line → Line → List Line → Bool

-- ---- outcomes

-- the transaction that a text reports aborted or broken
abbrev pub failed_in : Text → List Tid
failed_in (says.Aborted c j t cause) = t ∷ []
failed_in (says.Broke s t u by) = t ∷ []
failed_in _ = []

abbrev pub failed_of : List Line → List Tid
failed_of [] = []
failed_of (l ∷ ls) = failed_in l.text ++ failed_of ls

-- the transaction whose commit a text acknowledges
abbrev pub acknowledged_in : Text → List Tid
acknowledged_in (says.Committed c j t) = t ∷ []
acknowledged_in _ = []

-- Of two lines that exclude each other the later one is at fault: a commit that was named before, or that was reported aborted or
-- broken before; a transaction reported aborted or broken that was named before. So is an acknowledged commit that wasn't named before.
abbrev pub breaks_outcomes : Rule
breaks_outcomes before l after =
    list_any (λ t. has_tid (history_of before) t || has_tid (failed_of before) t) (commit_in l.text)
    || (list_any (λ t. has_tid (history_of before) t) (failed_in l.text)
    || list_any (λ t. not (has_tid (history_of before) t)) (acknowledged_in l.text))

-- ---- causes

-- an abort has no cause before it, or a stop or a refused fault is one more than the events that can have given it
abbrev pub breaks_causes : List Event → Rule
breaks_causes events before l after = not (is_caused events (before ++ l ∷ []) l.when l.text)

-- ---- answers that follow

-- what is outstanding behind the first n of these events and their lines; the first event has this number
abbrev pub outstanding_behind : ℕ → Outstanding → ℕ → List Event → List Line → Outstanding
outstanding_behind zero out number events lines = out
outstanding_behind (suc n) out number [] lines = out
outstanding_behind (suc n) out number (e ∷ es) lines =
    outstanding_behind n (after_one out number e (lines_at (AtEvent number) lines)) (number + 1) es lines

-- what is outstanding as the lines of this event begin, once its own command is given
abbrev pub outstanding_at : List Event → List Line → ℕ → Event → Outstanding
outstanding_at events lines zero e = nothing_asked
outstanding_at events lines (suc n) e =
    after_event (outstanding_behind n nothing_asked 1 events lines) (suc n) e (lines_at (AtEvent (suc n)) lines)

-- An answer in an event, behind these lines of the event. A refusal by the client itself is of the event's own command, and the first
-- one in the event. Any other answer answers what is outstanding then.
abbrev pub fits_event : Outstanding → ℕ → Event → List Line → Text → Bool
fits_event out number e here text = if is_own_refusal text then own_in_place number e text && nat_eq (count_lines is_own_refusal here) 0
    else fits (after_answers out here) (answer_in text) text

-- there is such an event
abbrev pub fits_number : List Event → List Line → ℕ → List Line → Text → Option Event → Bool
fits_number events lines number here text None = false
fits_number events lines number here text (Some e) = fits_event (outstanding_at events lines number e) number e here text

-- no answer stands at the end
abbrev pub fits_when : List Event → List Line → List Line → Text → When → Bool
fits_when events lines before text (AtEvent i) = fits_number events lines i (lines_at (AtEvent i) before) text (event_at events i)
fits_when events lines before text End = false

-- The lines behind count too: a command that its client refuses later in its event is never outstanding.
abbrev pub breaks_following : List Event → Rule
breaks_following events before l after = is_answer l.text && not (fits_when events (before ++ l ∷ after) before l.text l.when)

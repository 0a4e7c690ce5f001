-- The lines of a report by the event that they stand at, and the events by their numbers.
use Rattle.std.specs.Prelude.{ℕ, zero, suc, Bool, true, false, nat_eq, nat_lt, List, [], ◌∷◌, Option, Some, None, ◌++◌, filter, count_by}
use Rattle.std.specs.List.{list_any}
use Rattle.jn_base.specs.declared.names.Tid.{Tid}
use Rattle.jn_base.specs.Names.{tid_eq}
use Rattle.jn_schedule.specs.declared.Event.{Event}
use Rattle.jn_report.specs.declared.line.When.{When}
use Rattle.jn_report.specs.declared.line.When.TheVariants.{Event as AtEvent, End}
use Rattle.jn_report.specs.declared.line.Text.{Text}
use Rattle.jn_report.specs.declared.line.Line.{Line}
use Rattle.jn_report.specs.Kinds.{commit_in}

abbrev pub when_eq : When → When → Bool
when_eq (AtEvent i) (AtEvent j) = nat_eq i j
when_eq End End = true
when_eq _ _ = false

abbrev pub is_before : When → When → Bool
is_before (AtEvent i) (AtEvent j) = nat_lt i j
is_before (AtEvent i) End = true
is_before End _ = false

-- the lines of one event
abbrev pub lines_at : When → List Line → List Line
lines_at w lines = filter (λ (l : Line). when_eq l.when w) lines

-- the lines of earlier events
abbrev pub lines_before : When → List Line → List Line
lines_before w lines = filter (λ (l : Line). is_before l.when w) lines

-- whether some line says this
abbrev pub says : (Text → Bool) → List Line → Bool
says test lines = list_any (λ (l : Line). test l.text) lines

-- how many lines say this
abbrev pub count_lines : (Text → Bool) → List Line → ℕ
count_lines test lines = count_by (λ (l : Line). test l.text) lines

-- the event of a number, from 1
abbrev pub event_at : List Event → ℕ → Option Event
event_at [] n = None
event_at (e ∷ es) zero = None
event_at (e ∷ es) (suc zero) = Some e
event_at (e ∷ es) (suc (suc n)) = event_at es (suc n)

abbrev pub has_tid : List Tid → Tid → Bool
has_tid ts t = list_any (λ u. tid_eq u t) ts

-- the transactions that a report names as committed, in order
abbrev pub history_of : List Line → List Tid
history_of [] = []
history_of (l ∷ ls) = commit_in l.text ++ history_of ls

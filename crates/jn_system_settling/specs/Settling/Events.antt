-- A run as its events, and the lines of its report, each with the number of its event.
use Rattle.std.specs.Prelude.{ℕ, List, [], ◌∷◌, ◌++◌, drop, length, map}
use Rattle.jn_report.specs.declared.line.Text.{Text}
use Rattle.jn_report.specs.declared.line.Line.{Line}
use Rattle.jn_report.specs.declared.line.When.TheVariants as when
use Rattle.jn_system.specs.WholeSystem.World.{World}
use Rattle.jn_system.specs.WholeSystem.Steps.{Step, NextEvent, IsRun}
use Rattle.jn_system.specs.WholeSystem.Course.{Course, go_on}
use Rattle.jn_system.specs.WholeSystem.Settle.{Chances, settled}

pub data Event : Type 0 where
  -- these steps, none for a fault that waits for its call
  Does : List Step → Event
  -- everything settles
  Settles : Chances → Event

-- an event of so many servers
abbrev pub after_event : ℕ → Event → Course → Course
after_event servers (Does steps) c = go_on steps c
after_event servers (Settles chances) c = settled servers chances c

abbrev pub line : ℕ → Text → Line
line event text = record { when = when.Event event; text = text }

-- what the second world has reported that the first one hadn't
abbrev pub newly_told : World → World → List Line
newly_told before now = map (line now.event) (drop (length before.lines) now.lines)

pub record Told : Type 0 where
  pub course : Course
  pub report : List Line

abbrev pub told_more : Course → Course → List Line → Told
told_more before now report = record { course = now; report = report ++ newly_told before.world now.world }

-- each event begins by its number
abbrev pub after_events : ℕ → List Event → Told → Told
after_events servers [] t = t
after_events servers (event ∷ events) t = after_events servers events (told_more t.course (after_event servers event (go_on (NextEvent ∷ []) t.course)) t.report)

abbrev pub told_by : ℕ → List Event → Course → Told
told_by servers events c = after_events servers events (record { course = c; report = [] })

-- each step of each event may come in its turn
abbrev pub AreSteps : ℕ → List Event → Course → Type 0
AreSteps servers [] c = Unit {0}
AreSteps servers (Does steps ∷ events) c = IsRun steps (go_on (NextEvent ∷ []) c).world × AreSteps servers events (go_on steps (go_on (NextEvent ∷ []) c))
AreSteps servers (Settles chances ∷ events) c = AreSteps servers events (settled servers chances (go_on (NextEvent ∷ []) c))

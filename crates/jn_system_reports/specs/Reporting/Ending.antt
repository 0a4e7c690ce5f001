-- The end of a run: the servers come up once more, the world settles, and each server's files are printed.
use Rattle.std.specs.Prelude.{◌≡◌, ℕ, ◌+◌, Bool, true, false, List, [], ◌∷◌, ◌++◌, length, map}
use Rattle.std.specs.List.{list_all}
use Rattle.jn_base.specs.declared.names.ServerNo.{ServerNo}
use Rattle.jn_base.specs.declared.names.Tid.{Tid}
use Rattle.jn_base.specs.declared.names.WorkId.{WorkId}
use Rattle.jn_order.specs.Files.{AllFiles}
use Rattle.jn_report.specs.declared.line.When.TheVariants.{End}
use Rattle.jn_report.specs.declared.line.Text.{Text}
use Rattle.jn_report.specs.declared.line.Text.TheVariants.{Commits}
use Rattle.jn_report.specs.declared.line.Line.{Line}
use Rattle.jn_serial.specs.Lines.{history_of}
use Rattle.jn_rows.specs.Stable.{Pick}
use Rattle.jn_system.specs.WholeSystem.World.{World, opening, servers_from}
use Rattle.jn_system.specs.WholeSystem.Steps.{Step, Dismiss, Crash, Restart, CloseClients, Deliver, Work, Nudge, Again, after, run, IsRun}
use Rattle.jn_system.specs.WholeSystem.Printing.{Printed}
use Rattle.jn_system.specs.WholeSystem.PrintedLines.{text_printed, IsPrinted}
use Rattle.jn_system_reports.specs.Reporting.Reported.{Does, Item, told_by, world_of, lines_of, IsReported}

-- what a restart finds, and the names of the works and flags in it
pub record Comeback : Type 0 where
  pub pick : Pick
  pub works : List WorkId
  pub tids : List Tid

-- how each server comes up, what is done to settle, and what each server prints
pub record Ending : Type 0 where
  pub comebacks : List Comeback
  pub settling : List Step
  pub prints : List (List Printed)

-- ---- its steps

abbrev pub restarts_from : ℕ → List Comeback → List Step
restarts_from first [] = []
restarts_from first (x ∷ xs) = Restart (record { 0 = first }) x.pick x.works x.tids ∷ restarts_from (first + 1) xs

-- the clients are dismissed, each server that is up goes down, all are restarted and count each outcome as thanked, and the world settles
abbrev pub steps_at_end : ℕ → Ending → List Step
steps_at_end servers e = Dismiss ∷ map Crash (servers_from 0 servers) ++ restarts_from 0 e.comebacks ++ map CloseClients (servers_from 0 servers) ++ e.settling

abbrev pub world_at_end : ℕ → Ending → World → World
world_at_end servers e w = run (steps_at_end servers e) w

-- a step of a settle, in which nothing is stopped
abbrev pub settles : Step → Bool
settles (Deliver k room) = true
settles (Work s room) = true
settles (Nudge s) = true
settles (Again c) = true
settles step = false

abbrev pub ArePrinted : ℕ → World → List (List Printed) → Type 0
ArePrinted first w [] = Unit {0}
ArePrinted first w (prints ∷ more) = IsPrinted (record { 0 = first }) w prints × ArePrinted (first + 1) w more

-- each server comes up and prints what is there
pub record IsEnding (servers : ℕ) (e : Ending) (w : World) : Type 0 where
  pub steps : IsRun (steps_at_end servers e) w
  pub all_up : length e.comebacks ≡ servers
  pub settling : list_all settles e.settling ≡ true
  pub all_print : length e.prints ≡ servers
  pub prints : ArePrinted 0 (world_at_end servers e w) e.prints

-- ---- its lines

abbrev pub told_by_steps : List Step → World → List Text
told_by_steps [] w = []
told_by_steps (step ∷ steps) w = told_by (Does step) w ++ told_by_steps steps (after step w)

abbrev pub texts_from : ℕ → List (List Printed) → List Text
texts_from first [] = []
texts_from first (prints ∷ more) = map (text_printed (record { 0 = first })) prints ++ texts_from (first + 1) more

abbrev pub at_end : List Text → List Line
at_end texts = map (λ (text : Text). record { when = End; text = text }) texts

-- the last line counts the commits that the lines name
abbrev pub counted : List Line → List Line
counted lines = lines ++ at_end (Commits (length (history_of lines)) ∷ [])

-- the lines of a run with its end
abbrev pub lines_to_end : ℕ → List Item → Ending → World → List Line
lines_to_end servers items e w = counted (lines_of items w ++ at_end (told_by_steps (steps_at_end servers e) (world_of items w) ++ texts_from 0 e.prints))

-- ---- a whole run

-- from its opening to its end
pub record IsWholeRun (servers : ℕ) (files : AllFiles) (epochs : ServerNo → ℕ) (items : List Item) (e : Ending) : Type 0 where
  pub reported : IsReported items (opening servers files epochs)
  pub ending : IsEnding servers e (world_of items (opening servers files epochs))

abbrev pub all_lines : ℕ → AllFiles → (ServerNo → ℕ) → List Item → Ending → List Line
all_lines servers files epochs items e = lines_to_end servers items e (opening servers files epochs)

-- A run that is cut off in its end.
use Rattle.std.specs.Prelude.{◌≡◌, Bool, true, false, List, ◌∷◌, ◌++◌}
use Rattle.std.specs.List.{list_all}
use Rattle.jn_report.specs.declared.line.Text.{Text}
use Rattle.jn_report.specs.declared.line.Line.{Line}
use Rattle.jn_system.specs.WholeSystem.World.{World}
use Rattle.jn_system.specs.WholeSystem.Steps.{Step, NextEvent, Tell, StopDelivery, StopWork, StopRestart, Dismiss, IsRun}
use Rattle.jn_system_reports.specs.Reporting.Reported.{Item, lines_of, world_of}
use Rattle.jn_system_reports.specs.Reporting.Ending.{told_by_steps, at_end}
use Rattle.jn_report.specs.Kinds.{is_print}

-- neither the beginning of an event, a command nor a stop
abbrev pub is_of_end : Step → Bool
is_of_end NextEvent = false
is_of_end (Tell c command) = false
is_of_end (StopDelivery k room made) = false
is_of_end (StopWork s room made) = false
is_of_end (StopRestart s raised) = false
is_of_end step = true

-- how far an end came: its steps once the clients were dismissed, and what was printed
pub record CutEnd : Type 0 where
  pub steps : List Step
  pub printed : List Text

-- the steps come to where it is cut off; of what is printed nothing is asked but that it is printed
pub record IsCutEnd (e : CutEnd) (w : World) : Type 0 where
  pub steps : IsRun (Dismiss ∷ e.steps) w
  pub of_end : list_all is_of_end e.steps ≡ true
  pub printed : list_all is_print e.printed ≡ true

-- the lines of a run up to where its end is cut off
abbrev pub cut_lines : List Item → CutEnd → World → List Line
cut_lines items e w = lines_of items w ++ at_end (told_by_steps (Dismiss ∷ e.steps) (world_of items w) ++ e.printed)

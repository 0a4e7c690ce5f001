-- What holds of the report of a run, of a whole one and of one that is cut off anywhere.
use Rattle.std.specs.Prelude.{◌≡◌, ◌<◌, ℕ, ◌+◌, not, List, [], ◌∷◌, ◌++◌, length, filter}
use Rattle.jn_order.specs.Files.{AllFiles}
use Rattle.jn_schedule.specs.declared.Event.{Event}
use Rattle.jn_report.specs.declared.line.When.TheVariants.{Event as AtEvent}
use Rattle.jn_report.specs.declared.line.Line.{Line}
use Rattle.jn_serial.specs.Lines.{lines_at}
use Rattle.jn_serial.specs.Order.{Agrees}
use Rattle.jn_serial.specs.Shown.{ShownSoFar, ShownAtEnd}
use Rattle.jn_serial.specs.Told.{Told}
use Rattle.jn_serial.specs.Caused.{Caused}
use Rattle.jn_serial.specs.Follows.{Follows}
use Rattle.jn_aside.specs.Aside.{is_show, plain}

-- What committed transactions are answered, and what these shows print, is what the commits leave, one after another; outcomes are reported as they are; each
-- abort, stop and refused fault has its cause; each answer is its command's.
pub record IsTrueSoFar (files : AllFiles) (events shows : List Event) (lines : List Line) : Type 0 where
  pub agrees : Agrees files events lines
  pub shown : ShownSoFar files shows lines
  pub told : Told lines
  pub caused : Caused events lines
  pub follows : Follows events lines

-- so of a whole run, and its end shows what all commits leave
pub record IsOfItsCommits (files : AllFiles) (events : List Event) (lines : List Line) : Type 0 where
  pub so_far : IsTrueSoFar files events events lines
  pub at_end : ShownAtEnd files events lines

-- but for the shows
abbrev pub but_shows : List Event → List Event
but_shows events = filter (λ (e : Event). not (is_show e)) events

-- A run has begun so many events of its schedule, of the last one perhaps with no line yet but those aside. Of a show that has begun and reported nothing yet
-- nothing is said.
pub record IsTrueOfBegun (files : AllFiles) (schedule : List Event) (count : ℕ) (lines : List Line) : Type 0 where
  pub told_of : List Event
  pub silent : List Event
  pub rest : List Event
  pub events : told_of ++ silent ++ rest ≡ schedule
  pub one : length silent < 2
  pub begun : length told_of + length silent ≡ count
  pub untold : (e : Event) → silent ≡ e ∷ [] → plain (lines_at (AtEvent count) lines) ≡ []
  pub so_far : IsTrueSoFar files (told_of ++ silent) (told_of ++ but_shows silent) lines

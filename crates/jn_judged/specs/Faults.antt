-- The faults of a report: which line is at fault, and by which rule. Lines count from 1, and rules are 10 to 14.
use Rattle.std.specs.Prelude.{◌≡◌, ◌≤◌, ◌<◌, ◌+◌, ◌⊎◌, ℕ, true, false, not, List, [], ◌∷◌, ◌++◌, length, filter, Some, is_some}
use Rattle.jn_base.specs.declared.names.ServerNo.{ServerNo}
use Rattle.jn_base.specs.declared.names.FileNo.{FileNo}
use Rattle.jn_base.specs.declared.names.BlockNo.{BlockNo}
use Rattle.jn_base.specs.declared.names.LockUnit.TheVariants.{File, Block}
use Rattle.jn_order.specs.Files.{AllFiles}
use Rattle.jn_schedule.specs.declared.Event.{Event}
use Rattle.jn_schedule.specs.declared.Event.TheVariants.{Show}
use Rattle.jn_report.specs.declared.line.When.{When}
use Rattle.jn_report.specs.declared.line.When.TheVariants.{Event as AtEvent, End}
use Rattle.jn_report.specs.declared.line.Line.{Line}
use Rattle.jn_report.specs.declared.line.Text.TheVariants.{Commits}
use Rattle.jn_serial.specs.Lines.{is_before, lines_at, says, event_at, history_of}
use Rattle.jn_serial.specs.Order.{Agrees}
use Rattle.jn_serial.specs.Shown.{Shown as ShowsAll, accounts_file, accounts_block, prints_file}
use Rattle.jn_serial.specs.Told.{Told as IsTold}
use Rattle.jn_serial.specs.Caused.{Caused as IsCaused}
use Rattle.jn_serial.specs.Follows.{Follows as DoFollow}
use Rattle.jn_judged.specs.Rules.{breaks_outcomes, breaks_causes, breaks_following}
use Rattle.jn_judged.specs.FileRules.{breaks_order, breaks_shows, has_printed, files_when}

-- a file of the server, or a block of a file that is printed, is there, and no line prints it or shows it as locked
pub data LeavesOut (files : AllFiles) (s : ServerNo) (here : List Line) : Type 0 where
  OfFile : (f : FileNo) → is_some (files s (File f)) ≡ true → says (accounts_file s f) here ≡ false → LeavesOut files s here
  OfBlock : (f : FileNo) (p : BlockNo) → is_some (files s (Block f p)) ≡ true → says (prints_file s f) here ≡ true → says (accounts_block s f p) here ≡ false → LeavesOut files s here

-- a show of this server that printed, or the end, which shows every server
pub data Shows (events : List Event) (lines : List Line) : When → ServerNo → Type 0 where
  ByEvent : (i : ℕ) (s : ServerNo) → event_at events i ≡ Some (Show s) → has_printed events lines (AtEvent i) ≡ true → Shows events lines (AtEvent i) s
  AtTheEnd : (s : ServerNo) → Shows events lines End s

-- how many lines stand at this event or before
abbrev pub lines_up_to : When → List Line → ℕ
lines_up_to w lines = length (filter (λ (l : Line). not (is_before w l.when)) lines)

-- a line, between those before it and those behind it, breaks the rule of this number
pub data Breaks (files : AllFiles) (events : List Event) (before : List Line) (l : Line) (after : List Line) : ℕ → Type 0 where
  BreaksOrder : breaks_order files events before l after ≡ true → Breaks files events before l after 10
  BreaksShows : breaks_shows files events before l after ≡ true → Breaks files events before l after 11
  BreaksOutcomes : breaks_outcomes before l after ≡ true → Breaks files events before l after 12
  BreaksCauses : breaks_causes events before l after ≡ true → Breaks files events before l after 13
  BreaksFollowing : breaks_following events before l after ≡ true → Breaks files events before l after 14

-- The line of this number is at fault by this rule. Of what a show or the end leaves out it is the line behind that event's last one,
-- or where the event has none, the first line of a later event. At the end it is one past the last.
pub data IsFault (files : AllFiles) (events : List Event) (lines : List Line) : ℕ → ℕ → Type 0 where
  InLine : (before : List Line) (l : Line) (after : List Line) (rule : ℕ) → lines ≡ before ++ l ∷ after → Breaks files events before l after rule → IsFault files events lines (length before + 1) rule
  LeftOut : (w : When) (s : ServerNo) → Shows events lines w s → LeavesOut (files_when files events lines w) s (lines_at w lines) → IsFault files events lines (lines_up_to w lines + 1) 11

-- the least line at fault, and its least rule
pub record IsLeastFault (files : AllFiles) (events : List Event) (lines : List Line) (line rule : ℕ) : Type 0 where
  pub fault : IsFault files events lines line rule
  pub least : (line' rule' : ℕ) → IsFault files events lines line' rule' → (line < line') ⊎ ((line ≡ line') × (rule ≤ rule'))

-- no line is at fault by this rule
abbrev pub Keeps : AllFiles → List Event → List Line → ℕ → Type 0
Keeps files events lines rule = (line : ℕ) → IsFault files events lines line rule → ⊥

abbrev pub IsFaultless : AllFiles → List Event → List Line → Type 0
IsFaultless files events lines = (line rule : ℕ) → IsFault files events lines line rule → ⊥

-- ---- what that says of the whole report

-- a last line that counts the commits counts them right
abbrev pub CountsCommits : List Line → Type 0
CountsCommits lines = (before : List Line) (l : Line) (n : ℕ) → lines ≡ before ++ l ∷ [] → l.text ≡ Commits n → n ≡ length (history_of lines)

-- the report is that of its commits
pub record KeepsAll (files : AllFiles) (events : List Event) (lines : List Line) : Type 0 where
  pub agrees : Agrees files events lines
  pub shown : ShowsAll files events lines
  pub told : IsTold lines
  pub caused : IsCaused events lines
  pub follows : DoFollow events lines
  pub counts : CountsCommits lines

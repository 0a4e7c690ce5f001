-- What a report shows of the files.
use Rattle.std.specs.Prelude.{◌≡◌, ℕ, Bool, true, false, ◌&&◌, List, [], ◌∷◌, Some, None, is_some}
use Rattle.jn_base.specs.declared.names.ServerNo.{ServerNo}
use Rattle.jn_base.specs.declared.names.FileNo.{FileNo}
use Rattle.jn_base.specs.declared.names.BlockNo.{BlockNo}
use Rattle.jn_base.specs.declared.names.Tid.{Tid}
use Rattle.jn_base.specs.declared.names.LockUnit.TheVariants.{File, Block}
use Rattle.jn_base.specs.Names.{server_eq, file_eq, block_eq}
use Rattle.jn_order.specs.Files.{AllFiles}
use Rattle.jn_schedule.specs.declared.Event.{Event}
use Rattle.jn_schedule.specs.declared.Event.TheVariants.{Show}
use Rattle.jn_report.specs.declared.line.When.TheVariants.{Event as AtEvent, End}
use Rattle.jn_report.specs.declared.line.Text.{Text}
use Rattle.jn_report.specs.declared.line.Text.TheVariants as says
use Rattle.jn_report.specs.declared.line.Line.{Line}
use Rattle.jn_serial.specs.Lines.{lines_at, lines_before, says, event_at, history_of}
use Rattle.jn_serial.specs.Order.{replay, replay_operations}
use Rattle.jn_report.specs.Kinds.{is_locked, is_no_show}

-- a line that prints a file or a page prints what is there
abbrev pub IsAsIn : AllFiles → Text → Type 0
IsAsIn files (says.File s f) = is_some (files s (File f)) ≡ true
IsAsIn files (says.Page s f p bytes) = files s (Block f p) ≡ Some bytes
IsAsIn files _ = Unit {0}

abbrev pub AllAsIn : AllFiles → List Line → Type 0
AllAsIn files [] = Unit {0}
AllAsIn files (l ∷ ls) = IsAsIn files l.text × AllAsIn files ls

abbrev pub prints_file : ServerNo → FileNo → Text → Bool
prints_file s f (says.File t g) = server_eq t s && file_eq g f
prints_file s f _ = false

-- the file is printed, or shown as locked
abbrev pub accounts_file : ServerNo → FileNo → Text → Bool
accounts_file s f (says.File t g) = server_eq t s && file_eq g f
accounts_file s f (says.Locked t (File g) by) = server_eq t s && file_eq g f
accounts_file s f _ = false

-- the block is printed, or shown as locked
abbrev pub accounts_block : ServerNo → FileNo → BlockNo → Text → Bool
accounts_block s f p (says.Page t g q bytes) = server_eq t s && (file_eq g f && block_eq q p)
accounts_block s f p (says.Locked t (Block g q) by) = server_eq t s && (file_eq g f && block_eq q p)
accounts_block s f p _ = false

-- these lines print the files of a server, but for what they show as locked
pub record ShowsFiles (files : AllFiles) (s : ServerNo) (lines : List Line) : Type 0 where
  pub printed : AllAsIn files lines
  pub no_other_file : (f : FileNo) → says (accounts_file s f) lines ≡ false → files s (File f) ≡ None
  pub no_other_block : (f : FileNo) (p : BlockNo) → says (prints_file s f) lines ≡ true → says (accounts_block s f p) lines ≡ false → files s (Block f p) ≡ None

-- each show that printed shows the files after the commits before it, by what a history of commits leaves
abbrev pub ShownSoFarBy : (List Tid → AllFiles) → List Event → List Line → Type 0
ShownSoFarBy replayed events lines =
    (i : ℕ) (s : ServerNo) → event_at events i ≡ Some (Show s) → says is_no_show (lines_at (AtEvent i) lines) ≡ false
    → ShowsFiles (replayed (history_of (lines_before (AtEvent i) lines))) s (lines_at (AtEvent i) lines)

-- the end shows the files of every server after all commits, and nothing locked
pub record ShownAtEndBy (replayed : List Tid → AllFiles) (lines : List Line) : Type 0 where
  pub all : (s : ServerNo) → ShowsFiles (replayed (history_of lines)) s (lines_at End lines)
  pub unlocked : says is_locked (lines_at End lines) ≡ false

pub record ShownBy (replayed : List Tid → AllFiles) (events : List Event) (lines : List Line) : Type 0 where
  pub so_far : ShownSoFarBy replayed events lines
  pub at_end : ShownAtEndBy replayed lines

-- so it is where a history leaves what its transactions do to these files
abbrev pub ShownSoFar : AllFiles → List Event → List Line → Type 0
ShownSoFar files events lines = ShownSoFarBy (replay files events lines) events lines

abbrev pub ShownAtEnd : AllFiles → List Event → List Line → Type 0
ShownAtEnd files events lines = ShownAtEndBy (replay files events lines) lines

abbrev pub Shown : AllFiles → List Event → List Line → Type 0
Shown files events lines = ShownBy (replay files events lines) events lines

-- and operation by operation
abbrev pub OperationsShownSoFar : AllFiles → List Event → List Line → Type 0
OperationsShownSoFar files events lines = ShownSoFarBy (replay_operations files events lines) events lines

abbrev pub OperationsShownAtEnd : AllFiles → List Event → List Line → Type 0
OperationsShownAtEnd files events lines = ShownAtEndBy (replay_operations files events lines) lines

abbrev pub OperationsShown : AllFiles → List Event → List Line → Type 0
OperationsShown files events lines = ShownBy (replay_operations files events lines) events lines

-- Whether the stored files are what some lines print, by going through lists.
use Rattle.std.specs.Prelude.{◌≡◌, ℕ, ◌+◌, Bool, true, false, ◌&&◌, ◌||◌, not, List, [], ◌∷◌, Option, Some, None}
use Rattle.std.specs.List.{list_all}
use Rattle.jn_base.specs.declared.names.ServerNo.{ServerNo}
use Rattle.jn_base.specs.declared.names.FileNo.{FileNo}
use Rattle.jn_base.specs.Names.{server_eq}
use Rattle.jn_order.specs.Files.{AllFiles}
use Rattle.jn_schedule.specs.declared.Event.{Event}
use Rattle.jn_schedule.specs.declared.Event.TheVariants.{Show}
use Rattle.jn_report.specs.declared.line.When.TheVariants.{Event as AtEvent}
use Rattle.jn_report.specs.declared.line.Text.{Text}
use Rattle.jn_report.specs.declared.line.Text.TheVariants as says
use Rattle.jn_report.specs.declared.line.Line.{Line}
use Rattle.jn_replay.specs.declared.files.StoredBlock.{StoredBlock}
use Rattle.jn_replay.specs.declared.files.StoredFile.{StoredFile}
use Rattle.jn_replay.specs.Stored.{stored_file}
use Rattle.jn_serial.specs.Lines.{lines_at, lines_before, says, history_of}
use Rattle.jn_serial.specs.Order.{replay}
use Rattle.jn_serial.specs.Shown.{accounts_file, accounts_block, ShowsFiles}
use Rattle.jn_report.specs.Kinds.{is_no_show}

-- a stored file of the server is printed or locked
abbrev pub file_accounted : ServerNo → List Line → StoredFile → Bool
file_accounted s lines x = not (server_eq x.server s) || says (accounts_file s x.file) lines

abbrev pub block_accounted : ServerNo → FileNo → List Line → StoredBlock → Bool
block_accounted s f lines b = says (accounts_block s f b.block) lines

abbrev pub blocks_accounted : ServerNo → FileNo → List Line → Option StoredFile → Bool
blocks_accounted s f lines None = true
blocks_accounted s f lines (Some x) = list_all (block_accounted s f lines) x.blocks.items

-- where a line prints a file of the server, each stored block of it is printed or locked
abbrev pub line_accounted : List StoredFile → ServerNo → List Line → Text → Bool
line_accounted stored s lines (says.File t g) = not (server_eq t s) || blocks_accounted s g lines (stored_file s g stored)
line_accounted stored s lines _ = true

-- the lines leave out nothing that is stored at the server
abbrev pub is_accounted : List StoredFile → List Line → ServerNo → Bool
is_accounted stored lines s = list_all (file_accounted s lines) stored && list_all (λ (l : Line). line_accounted stored s lines l.text) lines

-- a show that printed shows the server's files after the commits before it
abbrev pub ShowsServer : AllFiles → List Event → List Line → ℕ → ServerNo → Type 0
ShowsServer files events lines number s =
    says is_no_show (lines_at (AtEvent number) lines) ≡ false
    → ShowsFiles (replay files events lines (history_of (lines_before (AtEvent number) lines))) s (lines_at (AtEvent number) lines)

abbrev pub ShowsEvent : AllFiles → List Event → List Line → ℕ → Event → Type 0
ShowsEvent files events lines number (Show s) = ShowsServer files events lines number s
ShowsEvent files events lines number _ = Unit {0}

abbrev pub ShowsFrom : AllFiles → List Event → List Line → ℕ → List Event → Type 0
ShowsFrom files events lines number [] = Unit {0}
ShowsFrom files events lines number (e ∷ es) = ShowsEvent files events lines number e × ShowsFrom files events lines (number + 1) es

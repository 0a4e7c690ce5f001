-- What a show prints, in any run.
use Rattle.std.specs.Prelude.{◌≡◌, Bool, true, filter, List, [], ◌∷◌, ◌++◌, map, Option, Some, is_some}
use Rattle.std.specs.List.{list_any}
use Rattle.jn_base.specs.declared.names.ServerNo.{ServerNo}
use Rattle.jn_base.specs.declared.names.FileNo.{FileNo}
use Rattle.jn_base.specs.declared.names.BlockNo.{BlockNo}
use Rattle.jn_base.specs.declared.names.LockUnit.{LockUnit}
use Rattle.jn_base.specs.declared.names.LockUnit.TheVariants.{File, Block}
use Rattle.jn_locks.specs.Locks.{unit_before}
use Rattle.jn_base.specs.Names.{unit_eq}
use Rattle.jn_report.specs.declared.line.Line.{Line}
use Rattle.jn_system.specs.WholeSystem.World.{Memory}
use Rattle.jn_system.specs.WholeSystem.Steps.{are_rising}
use Rattle.jn_system.specs.WholeSystem.Printing.{Printed, FileThere, PageStored, UnitLocked}
use Rattle.jn_system.specs.WholeSystem.PrintedLines.{text_printed, prints_of}
use Rattle.jn_machine.specs.Chances.{Setup}
use Rattle.jn_machine.specs.Tasks.{when_of, begun}
use Rattle.jn_report.specs.Lines.{lines_at}
use Rattle.jn_machine.specs.Runs.{Moment, DoesStep}
use Rattle.jn_report.specs.Kinds.{is_print as is_printed}

abbrev pub printed_lines : List Line → List Line
printed_lines lines = filter (λ (l : Line). is_printed l.text) lines

-- the file or block that is printed, or of which it is reported who holds it
abbrev pub unit_printed : Printed → LockUnit
unit_printed (FileThere f) = File f
unit_printed (PageStored f p bytes) = Block f p
unit_printed (UnitLocked u T) = u

abbrev pub prints_unit : LockUnit → List Printed → Bool
prints_unit u prints = list_any (λ (y : Printed). unit_eq (unit_printed y) u) prints

-- each is what there is to print of its file or block: no other bytes, and none is locked that no work holds for commit
abbrev pub AreThere : (LockUnit → Option Printed) → List Printed → Type 0
AreThere there [] = Unit {0}
AreThere there (y ∷ prints) = (there (unit_printed y) ≡ Some y) × AreThere there prints

-- Where this is there to print, that is what is printed.
pub record PrintsAll (there : LockUnit → Option Printed) (prints : List Printed) : Type 0 where
  -- each file and block once, the files rising, and each file before its blocks
  pub rising : are_rising unit_before (map unit_printed prints) ≡ true
  pub each : AreThere there prints
  -- and nothing is left out: no file, and no block of a file that is printed
  pub files : (f : FileNo) → is_some (there (File f)) ≡ true → prints_unit (File f) prints ≡ true
  pub blocks : (f : FileNo) (p : BlockNo) → there (File f) ≡ Some (FileThere f) → is_some (there (Block f p)) ≡ true → prints_unit (Block f p) prints ≡ true

-- a step's lines of files are these: what a server has to print that is up as it begins
pub record Shows (x : Setup) (q : ServerNo) (a b : Moment) (d : DoesStep x a b) : Type 0 where
  pub memory : Memory
  pub up : a.state.course.world.memory q ≡ Some memory
  pub prints : List Printed
  pub all : PrintsAll (prints_of q a.state.course.world memory) prints
  pub lines : printed_lines b.state.lines ≡ printed_lines a.state.lines ++ lines_at (when_of (begun d.task a.state)) (map (text_printed q) prints)

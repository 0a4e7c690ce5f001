-- What a show of a server prints, and as which lines.
use Rattle.std.specs.Prelude.{◌≡◌, List, Option, Some}
use Rattle.jn_base.specs.declared.names.ServerNo.{ServerNo}
use Rattle.jn_base.specs.declared.names.LockUnit.{LockUnit}
use Rattle.jn_report.specs.declared.line.Text.{Text}
use Rattle.jn_report.specs.declared.line.Text.TheVariants as says
use Rattle.jn_rows.specs.Stable.{stable}
use Rattle.jn_system.specs.WholeSystem.World.{World, Memory}
use Rattle.jn_system.specs.WholeSystem.Printing.{Printed, FileThere, PageStored, UnitLocked, prints_in, ArePrints}

abbrev pub text_printed : ServerNo → Printed → Text
text_printed s (FileThere f) = says.File s f
text_printed s (PageStored f p bytes) = says.Page s f p bytes
text_printed s (UnitLocked u T) = says.Locked s u T

-- what a server that remembers this has to print of each unit
abbrev pub prints_of : ServerNo → World → Memory → LockUnit → Option Printed
prints_of s w m = prints_in m.worker (stable (w.found s)).files

-- A server that is up prints its files and blocks, and who holds them.
pub record IsPrinted (s : ServerNo) (w : World) (prints : List Printed) : Type 0 where
  pub memory : Memory
  pub up : w.memory s ≡ Some memory
  pub prints_are : ArePrints (prints_of s w memory) prints

-- What a server that is up has to print, and what a show of it prints, in any run.
use Rattle.std.specs.Prelude.{◌≡◌, ◌<◌, true, List, Some, is_some}
use Rattle.jn_base.specs.declared.names.BlockNo.{BlockNo}
use Rattle.jn_base.specs.declared.names.FileNo.{FileNo}
use Rattle.jn_base.specs.declared.names.ServerNo.{ServerNo}
use Rattle.jn_base.specs.declared.names.LockUnit.TheVariants.{Block}
use Rattle.jn_base.specs.Limits.{most_blocks}
use Rattle.jn_system.specs.WholeSystem.Printing.{Printed, ArePrints}
use Rattle.jn_system.specs.WholeSystem.World.{World, Memory}
use Rattle.jn_system.specs.WholeSystem.PrintedLines.{prints_of}

-- each block of which there is something to print is one of a file's
abbrev pub ArePrintsInRange : World → Type 0
ArePrintsInRange w = (q : ServerNo) (memory : Memory) → w.memory q ≡ Some memory → (f : FileNo) (b : BlockNo) → is_some (prints_of q w memory (Block f b)) ≡ true → b.0 < most_blocks

-- The list is what there is to print of the server, file by file and block by block, and each block is one of a file's.
pub record ShowsInRange (w : World) (q : ServerNo) (prints : List Printed) : Type 0 where
  pub memory : Memory
  pub up : w.memory q ≡ Some memory
  pub are : ArePrints (prints_of q w memory) prints
  pub below : (f : FileNo) (b : BlockNo) → is_some (prints_of q w memory (Block f b)) ≡ true → b.0 < most_blocks

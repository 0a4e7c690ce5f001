-- What a show prints of a server's files: each file, and after it each of its blocks, as it is there, or who holds it for commit.
use Rattle.std.specs.Prelude.{◌≡◌, ℕ, Bool, nat_lt, List, [], ◌∷◌, ◌++◌, Option, Some, None}
use Rattle.jn_base.specs.declared.names.FileNo.{FileNo}
use Rattle.jn_base.specs.declared.names.BlockNo.{BlockNo}
use Rattle.jn_base.specs.declared.names.Tid.{Tid}
use Rattle.jn_base.specs.declared.names.LockUnit.{LockUnit}
use Rattle.jn_base.specs.declared.names.LockUnit.TheVariants.{File, Block}
use Rattle.jn_base.specs.Names.{file_eq, block_eq}
use Rattle.jn_order.specs.Files.{Files}
use Rattle.jn_rows.specs.Worker.{WorkerTable, commit_holder}
use Rattle.jn_system.specs.WholeSystem.Steps.{AreNames}

-- what is printed of one file or block
pub data Printed : Type 0 where
  FileThere : FileNo → Printed
  PageStored : FileNo → BlockNo → List ℕ → Printed
  UnitLocked : LockUnit → Tid → Printed

-- the transaction that holds the unit for commit, or else what is there
abbrev pub print_unit : LockUnit → Option Tid → Option (List ℕ) → Option Printed
print_unit u (Some T) content = Some (UnitLocked u T)
print_unit (File f) None (Some content) = Some (FileThere f)
print_unit (Block f p) None (Some bytes) = Some (PageStored f p bytes)
print_unit u None None = None

-- what there is to print of each unit, where the worker has these works and these files are stored
abbrev pub prints_in : WorkerTable → Files → LockUnit → Option Printed
prints_in t files u = print_unit u (commit_holder u t) (files u)

abbrev pub print_one : Option Printed → List Printed
print_one None = []
print_one (Some x) = x ∷ []

-- the blocks of these numbers
abbrev pub print_blocks : (LockUnit → Option Printed) → FileNo → List BlockNo → List Printed
print_blocks prints f [] = []
print_blocks prints f (p ∷ ps) = print_one (prints (Block f p)) ++ print_blocks prints f ps

-- a file that is there has its blocks after it, and one that is locked stands alone
abbrev pub print_file : Option Printed → List Printed → List Printed
print_file (Some (FileThere f)) blocks = FileThere f ∷ blocks
print_file other blocks = print_one other

-- the files of these numbers
abbrev pub print_files : (LockUnit → Option Printed) → (FileNo → List BlockNo) → List FileNo → List Printed
print_files prints blocks [] = []
print_files prints blocks (f ∷ fs) = print_file (prints (File f)) (print_blocks prints f (blocks f)) ++ print_files prints blocks fs

abbrev pub file_before : FileNo → FileNo → Bool
file_before f g = nat_lt f.0 g.0

abbrev pub block_before : BlockNo → BlockNo → Bool
block_before p q = nat_lt p.0 q.0

-- The files of which there is something to print, each once and in rising order, and so the blocks of each file that is there.
pub record ArePrints (prints_of : LockUnit → Option Printed) (prints : List Printed) : Type 0 where
  pub files : List FileNo
  pub blocks : FileNo → List BlockNo
  pub are_files : AreNames file_eq file_before (λ f. prints_of (File f)) files
  pub are_blocks : (f : FileNo) → prints_of (File f) ≡ Some (FileThere f) → AreNames block_eq block_before (λ p. prints_of (Block f p)) (blocks f)
  pub printed : prints ≡ print_files prints_of blocks files

-- A piece of a show: what it reports, and which blocks it reads.
use Rattle.std.specs.Prelude.{◌≡◌, ◌≤◌, ◌+◌, ◌*◌, ⊤, ℕ, Bool, true, false, List, [], ◌∷◌, ◌++◌, map, Option, Some}
use Rattle.jn_base.specs.declared.names.FileNo.{FileNo}
use Rattle.jn_base.specs.declared.names.BlockNo.{BlockNo}
use Rattle.jn_base.specs.declared.names.LockUnit.{LockUnit}
use Rattle.jn_base.specs.declared.names.LockUnit.TheVariants.{File, Block}
use Rattle.jn_base.specs.Names.{file_eq, unit_eq, block_eq}
use Rattle.jn_storage.specs.Listing.{IsListing}
use Rattle.jn_storage.specs.Storage.{StorageLater, is_stored}
use Rattle.jn_storage.specs.Calls.{state}
use Rattle.jn_rows.specs.Stable.{Unchanged}
use Rattle.jn_store.specs.Store.{IsStop}
use Rattle.jn_store.specs.DeviceCalls.{cleaned_get_calls}
use Rattle.jn_system.specs.WholeSystem.Printing.{Printed, prints_in, print_file, print_blocks, FileThere, block_before}
use Rattle.jn_server.specs.declared.show.Shown.{Shown}
use Rattle.jn_base.specs.declared.fault.CallFault.{CallFault}
use Rattle.jn_base.specs.declared.fault.CallFault.TheVariants.{Stopped, Memory as NoMemory}
use Rattle.jn_server.specs.Seen.{ServerView, IsServer}
use Rattle.jn_server.specs.Showing.{print_of}
use Rattle.jn_system.specs.WholeSystem.Steps.{AreNames}

-- ---- units

abbrev pub one_if : Bool → ℕ
one_if true = 1
one_if false = 0

-- how many units pass a test
abbrev pub count_of : (LockUnit → Bool) → List LockUnit → ℕ
count_of test [] = 0
count_of test (u ∷ us) = one_if (test u) + count_of test us

-- this unit alone, and the blocks of a file
abbrev pub is_at : LockUnit → LockUnit → Bool
is_at u x = unit_eq x u

abbrev pub is_of : FileNo → LockUnit → Bool
is_of f (File g) = false
is_of f (Block g p) = file_eq g f

-- ---- what there is to print

abbrev pub to_print : ServerView → LockUnit → Option Printed
to_print v = prints_in v.worker.table (state v.storage).files

-- ---- what a piece does

-- It reads stored blocks that pass, each once, and changes nothing but the counts of the device.
pub record LooksOver (test : LockUnit → Bool) (v w : ServerView) : Type 0 where
  pub found : Unchanged (state v.storage) w.storage.found
  pub later : StorageLater v.storage w.storage
  pub calls : (blocks : List LockUnit) → IsListing unit_eq (is_stored (state v.storage).files) blocks → w.storage.store.calls ≤ v.storage.store.calls + cleaned_get_calls * count_of test blocks
  pub tables : w ≡ record v { storage = w.storage }

-- it has reported this at the list's end
pub record TellsPiece (test : LockUnit → Bool) (v : ServerView) (old : List Shown) (prints : List Printed) (w : ServerView) (new : List Shown) : Type 0 where
  pub looks : LooksOver test v w
  pub told : map print_of new ≡ map print_of old ++ prints
  pub accounts : w.storage.accounts ≡ v.storage.accounts
  pub serves : IsServer w
  pub no_stop : w.storage.store.stops ≡ v.storage.store.stops

-- it has reported each block of a file of which there is something to print, in rising order
pub record TellsBlocks (v : ServerView) (f : FileNo) (old : List Shown) (w : ServerView) (new : List Shown) : Type 0 where
  pub blocks : List BlockNo
  pub are : AreNames block_eq block_before (λ p. to_print v (Block f p)) blocks
  pub tells : TellsPiece (is_of f) v old (print_blocks (to_print v) f blocks) w new

-- it has reported a file: where it is there and isn't locked, with its blocks behind it
pub record TellsFile (v : ServerView) (f : FileNo) (old : List Shown) (w : ServerView) (new : List Shown) : Type 0 where
  pub blocks : List BlockNo
  pub are : to_print v (File f) ≡ Some (FileThere f) → AreNames block_eq block_before (λ p. to_print v (Block f p)) blocks
  pub tells : TellsPiece (is_of f) v old (print_file (to_print v (File f)) (print_blocks (to_print v) f blocks)) w new

pub record IsPieceCut (test : LockUnit → Bool) (v w : ServerView) : Type 0 where
  pub looks : LooksOver test v w
  pub stop : IsStop v.storage.store w.storage.store

abbrev pub CutsPiece : CallFault → (LockUnit → Bool) → ServerView → ServerView → Type 0
CutsPiece Stopped test v w = IsPieceCut test v w
CutsPiece NoMemory test v w = ⊤

-- The units that a work holds: those that it has read, and for commit those that its intentions write.
use Rattle.std.specs.Prelude.{◌≡◌, ◌⊎◌, true, List, is_some}
use Rattle.jn_lock_rows.specs.Matching.{commit_units}
use Rattle.jn_base.specs.declared.names.LockUnit.{LockUnit}
use Rattle.jn_base.specs.declared.names.LockUnit.TheVariants.{File, Block}
use Rattle.jn_records.specs.declared.intention.Intention.{Intention}
use Rattle.jn_records.specs.NetLists.{list_change}
use Rattle.jn_locks.specs.Locks.{is_unit}

abbrev pub HoldsForCommit : List Intention → LockUnit → Type 0
HoldsForCommit list u = is_unit (commit_units list) u ≡ true

abbrev pub HasRead : List LockUnit → LockUnit → Type 0
HasRead reads u = is_unit reads u ≡ true

-- the register changes when the list is carried out
abbrev pub Writes : List Intention → LockUnit → Type 0
Writes list u = is_some (list_change list u) ≡ true

-- a unit's file
abbrev pub file_unit : LockUnit → LockUnit
file_unit (File f) = File f
file_unit (Block f p) = File f

-- the file of each unit that is read or written is read too
abbrev pub ReadsFiles : List Intention → List LockUnit → Type 0
ReadsFiles list reads = (u : LockUnit) → HasRead reads u ⊎ HoldsForCommit list u → HasRead reads (file_unit u)

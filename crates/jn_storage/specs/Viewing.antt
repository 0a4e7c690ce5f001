-- Stored files seen through a list that isn't prepared yet.
use Rattle.std.specs.Prelude.{◌≡◌, ℕ, Bool, true, false, not, ◌&&◌, List, is_some, Result, Ok, Err, is_ok}
use Rattle.jn_store.specs.DeviceCalls.{cleaned_get_calls}
use Rattle.jn_base.specs.declared.device.Stopped.{Stopped}
use Rattle.jn_base.specs.declared.names.BlockNo.{BlockNo}
use Rattle.jn_base.specs.declared.names.FileNo.{FileNo}
use Rattle.jn_base.specs.declared.names.LockUnit.TheVariants.{Block}
use Rattle.jn_base.specs.declared.op.Answer.{Answer}
use Rattle.jn_base.specs.declared.op.Op.{Op}
use Rattle.jn_base.specs.declared.op.Op.TheVariants.{Read}
use Rattle.jn_order.specs.Files.{Files, change, answer_to, or_else, zeros}
use Rattle.jn_records.specs.declared.intention.Intention.{Intention}
use Rattle.jn_records.specs.NetLists.{list_change}
use Rattle.jn_rows.specs.Stable.{Unchanged}
use Rattle.jn_base.specs.declared.fault.CallFault.{CallFault}
use Rattle.jn_base.specs.declared.fault.CallFault.TheVariants.{Stopped as Stops}
use Rattle.jn_storage.specs.Storage.{StorageView}
use Rattle.jn_storage.specs.Calls.{state, Called}

-- whether it is a read of a stored block of which the list says nothing
abbrev pub reads_stored : List Intention → Op → Files → Bool
reads_stored list (Read f p) files = not (is_some (list_change list (Block f p))) && is_some (files (Block f p))
reads_stored list _ files = false

-- whether the device had power
abbrev pub served : {A : Type 0} → Result A CallFault → Bool
served (Err Stops) = false
served _ = true

-- The answer of the files with the list carried out; the device is asked for such a block alone. Where there is no memory
-- for the answer, the storage is as after it.
pub record Viewed (list : List Intention) (v : StorageView) (op : Op) (answer : Result Answer CallFault) (w : StorageView) : Type 0 where
  pub answered : (a : Answer) → answer ≡ Ok a → a ≡ answer_to op (change (list_change list) (state v).files)
  pub called : Called v cleaned_get_calls (served answer) w
  pub unchanged : Unchanged (state v) w.found
  pub same : served answer ≡ true → w.accounts ≡ v.accounts
  pub others : reads_stored list op (state v).files ≡ false → (served answer ≡ true) × (w ≡ v)

-- a stored block, or zeros where none is stored and the device isn't asked
pub record ReadOrZeros (v : StorageView) (f : FileNo) (p : BlockNo) (answer : Result (List ℕ) Stopped) (w : StorageView) : Type 0 where
  pub found : (block : List ℕ) → answer ≡ Ok block → block ≡ or_else ((state v).files (Block f p)) zeros
  pub called : Called v cleaned_get_calls (is_ok answer) w
  pub unchanged : Unchanged (state v) w.found
  pub same : is_ok answer ≡ true → w.accounts ≡ v.accounts
  pub others : is_some ((state v).files (Block f p)) ≡ false → (is_ok answer ≡ true) × (w ≡ v)

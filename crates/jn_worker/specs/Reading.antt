-- An operation whose answer is a stored block.
use Rattle.std.specs.Prelude.{◌≡◌, ◌+◌, ℕ, Bool, true, false, not, nat_eq, ◌&&◌, Option, Some, None, is_some}
use Rattle.jn_base.specs.declared.names.OperationNo.{OperationNo}
use Rattle.jn_store.specs.DeviceCalls.{cleaned_get_calls}
use Rattle.jn_base.specs.declared.names.Tid.{Tid}
use Rattle.jn_base.specs.declared.names.WorkId.{WorkId}
use Rattle.jn_base.specs.declared.op.Answer.{Answer}
use Rattle.jn_base.specs.declared.op.Op.{Op}
use Rattle.jn_order.specs.Files.{answer_to, change}
use Rattle.jn_records.specs.NetLists.{list_change, answered}
use Rattle.jn_msgs.specs.Collected.{Collected}
use Rattle.jn_rows.specs.declared.worker.Work.{Work}
use Rattle.jn_rows.specs.declared.worker.Phase.{Phase}
use Rattle.jn_rows.specs.declared.worker.Phase.TheVariants.{Active}
use Rattle.jn_rows.specs.declared.worker.ActiveWork.{ActiveWork}
use Rattle.jn_rows.specs.Stable.{Unchanged}
use Rattle.jn_rows.specs.Worker.{WorkerTable, wants_of, is_fit, refusal_of}
use Rattle.jn_storage.specs.Storage.{StorageView}
use Rattle.jn_storage.specs.Calls.{state, Called}
use Rattle.jn_storage.specs.Viewing.{reads_stored}
use Rattle.jn_worker.specs.Fitting.{WorkerView}
use Rattle.jn_worker.specs.Calls.{Settles, told_of}

-- what an operation of an active work is answered
abbrev pub answer_now : ActiveWork → Op → StorageView → Answer
answer_now a op v = answer_to op (change (list_change a.list) (state v).files)

-- the answer is the stored block, or zeros where none is stored
abbrev pub is_unknown : ActiveWork → Op → StorageView → Type 0
is_unknown a op v = answer_now a op v ≡ answered None op (state v).files

-- T's active work has done an operation whose answer isn't known beforehand, or was refused it; this is answered
pub record ReadSettles (t : WorkerView) (v : StorageView) (T : Tid) (W : WorkId) (a : ActiveWork) (op : Op) (told : Answer) (before : Collected) (u : WorkerView) (after : Collected) : Type 0 where
  pub refusal : Option Answer
  pub settles : Settles t T W a op (answer_now a op v) refusal before u after
  pub answer : told ≡ told_of (answer_now a op v) refusal

-- a call that changes nothing of the storage, and asks the device only so
pub record OnlyReads (asks : Bool) (v : StorageView) (ok : Bool) (w : StorageView) : Type 0 where
  pub called : Called v cleaned_get_calls ok w
  pub unchanged : Unchanged (state v) w.found
  pub same : ok ≡ true → w.accounts ≡ v.accounts
  pub quiet : asks ≡ false → w ≡ v

-- whether the next operation of an active work asks the device: it reads a stored block, and is granted
abbrev pub asks_now : WorkerTable → StorageView → WorkId → ActiveWork → Op → Bool
asks_now t v W a op = reads_stored a.list op (state v).files && not (is_some (refusal_of t W a op (answer_now a op v) (wants_of op (is_fit (answer_now a op v)))))

abbrev pub asks_in : WorkerTable → StorageView → WorkId → OperationNo → Op → Phase → Bool
asks_in t v W number op (Active a) = nat_eq number.0 (a.last + 1) && asks_now t v W a op
asks_in t v W number op phase = false

-- whether an operation asks the device
abbrev pub asks_for : WorkerTable → StorageView → WorkId → OperationNo → Op → Option Work → Bool
asks_for t v W number op None = false
asks_for t v W number op (Some w) = asks_in t v W number op w.phase

-- What a worker's rows never do.
use Rattle.std.specs.Prelude.{◌≡◌, ◌≢◌, ◌⊎◌, ◌+◌, ℕ, true, [], ◌∷◌, Some, None}
use Rattle.jn_base.specs.declared.names.OperationNo.{OperationNo}
use Rattle.jn_base.specs.declared.names.RequestNo.{RequestNo}
use Rattle.jn_base.specs.declared.names.ClientNo.{ClientNo}
use Rattle.jn_base.specs.declared.names.Party.TheVariants.{Client}
use Rattle.jn_base.specs.declared.names.Tickets.{Tickets}
use Rattle.jn_base.specs.declared.names.Tid.{Tid}
use Rattle.jn_base.specs.declared.names.WorkId.{WorkId}
use Rattle.jn_base.specs.declared.op.Answer.{Answer}
use Rattle.jn_base.specs.declared.op.Op.{Op as AnyOp}
use Rattle.jn_msgs.specs.declared.message.Message.{Message}
use Rattle.jn_msgs.specs.declared.message.Message.TheVariants as messages
use Rattle.jn_rows.specs.declared.worker.ActiveWork.{ActiveWork}
use Rattle.jn_rows.specs.declared.worker.Work.{Work}
use Rattle.jn_rows.specs.Outcomes.{RowOutcome}
use Rattle.jn_rows.specs.Worker.{WorkerTable, WorkStorage, work_at, worker_row, timeout_row}
use Rattle.jn_lock_rows.specs.Calls.{IsActive}
use Rattle.jn_lock_rows.specs.Matching.{are_rising}
use Rattle.jn_worker.specs.Fitting.{is_stored}

-- each prepared work stays as it is, with what it read and wrote, or is live no more
abbrev pub PreparedStay : WorkerTable → WorkerTable → Type 0
PreparedStay t u = (W : WorkId) (w : Work) → work_at W t ≡ Some w → is_stored w.phase ≡ true → (work_at W u ≡ Some w) ⊎ (work_at W u ≡ None)

-- no message breaks a prepared work or makes it active again
abbrev pub MessagesKeepPrepared : Type 0
MessagesKeepPrepared = (t : WorkerTable) (s : WorkStorage) (k : Tickets) (m : Message) → are_rising t ≡ true → PreparedStay t (worker_row t s k m).table

-- nor does a timeout
abbrev pub TimeoutsKeepPrepared : Type 0
TimeoutsKeepPrepared = (t u : WorkerTable) (T : Tid) → are_rising t ≡ true → timeout_row t T ≡ Some u → PreparedStay t u

-- nothing is done; the client is told the active work's kept answer again where the number is that of its last operation
pub record SaysAgain (t : WorkerTable) (k : Tickets) (c : ClientNo) (request : RequestNo) (a : ActiveWork) (number : OperationNo) (row : RowOutcome WorkerTable) : Type 0 where
  pub table : row.table ≡ t
  pub changes : row.changes ≡ []
  pub tickets : row.tickets ≡ k
  pub again : (answer : Answer) → number.0 ≡ a.last → a.kept ≡ Some answer → row.messages ≡ (Client c, messages.Answer c request answer) ∷ []
  pub silent : number.0 ≢ a.last → row.messages ≡ []

-- an operation of an active work that isn't its next one
abbrev pub OldOperationsDoNothing : Type 0
OldOperationsDoNothing = (t : WorkerTable) (s : WorkStorage) (k : Tickets) (c : ClientNo) (request : RequestNo) (W : WorkId) (number : OperationNo) (op : AnyOp) (T : Tid) (a : ActiveWork) → IsActive t T W a → number.0 ≢ a.last + 1
    → SaysAgain t k c request a number (worker_row t s k (messages.Op c request W number op))

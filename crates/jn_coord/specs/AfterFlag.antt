-- A commit is told once its flag is put.
use Rattle.std.specs.Prelude.{◌≡◌, ◌⊎◌, Bool, true, false, ◌||◌, is_some}
use Rattle.std.specs.List.{list_any}
use Rattle.jn_base.specs.declared.names.Tid.{Tid}
use Rattle.jn_base.specs.Names.{tid_eq}
use Rattle.jn_msgs.specs.declared.message.Message.{Message}
use Rattle.jn_msgs.specs.declared.message.Message.TheVariants as messages
use Rattle.jn_msgs.specs.declared.message.Outcome.TheVariants as outcomes
use Rattle.jn_msgs.specs.declared.message.Note.{Note}
use Rattle.jn_msgs.specs.declared.message.Note.TheVariants as notes
use Rattle.jn_rows.specs.Stable.{Change, AddFlag}
use Rattle.jn_rows.specs.Outcomes.{RowOutcome, Sent}
use Rattle.jn_rows.specs.Coordinator.{CoordinatorTable}
use Rattle.jn_coord.specs.Calls.{committed_at}

-- a message that tells a work or a client that this transaction committed
abbrev pub is_commit_of : Tid → Message → Bool
is_commit_of T (messages.Commit U W) = tid_eq U T
is_commit_of T (messages.Outcome c U outcomes.Committed) = tid_eq U T
is_commit_of T m = false

abbrev pub notes_commit_of : Tid → Note → Bool
notes_commit_of T (notes.Commit U) = tid_eq U T
notes_commit_of T n = false

abbrev pub tells_commit : Tid → RowOutcome CoordinatorTable → Bool
tells_commit T row = list_any (λ (s : Sent). is_commit_of T s.1) row.messages || list_any (notes_commit_of T) row.notes

abbrev pub is_flag_of : Tid → Change → Bool
is_flag_of T (AddFlag flag) = tid_eq flag.tid T
is_flag_of T step = false

-- a row that tells that a transaction committed puts its flag, or it stands as committed in the table before the row
abbrev pub FollowsFlag : CoordinatorTable → RowOutcome CoordinatorTable → Type 0
FollowsFlag t row = (T : Tid) → tells_commit T row ≡ true → (list_any (is_flag_of T) row.changes ≡ true) ⊎ (is_some (committed_at T t.transactions) ≡ true)

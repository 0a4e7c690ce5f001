-- A client without calls does what its table does.
use Rattle.std.proofs.Common.{◌≡◌, inl, inr, ℕ, None, refl}
use Rattle.std.specs.Prelude.{false, is_some}
use Rattle.std.proofs.lemmas.Bool.{cases_Bool}
use Rattle.jn_base.specs.declared.op.Command.{Command}
use Rattle.jn_base.specs.declared.op.Command.TheVariants.{Begin, Open, Do, End, Abort}
use Rattle.jn_msgs.specs.declared.message.Message.{Message}
use Rattle.jn_msgs.specs.declared.message.Message.TheVariants as messages
use Rattle.jn_rows.specs.declared.client.Taken.{Taken as TableTaken}
use Rattle.jn_rows.specs.Client.{ClientTable, Commanded, Refuses, Sends, command_row, take_row}
use Rattle.jn_calls.specs.declared.order.Order.TheVariants as orders
use Rattle.jn_callers.specs.Callers.{of_table, ordered, order_row, with_table, take_call_row, as_table}
use Rattle.jn_callers.specs.Laws.{by_table}

plain-row : (t : ClientTable) (row : Commanded) → ordered (of_table t) false false None row ≡ by_table row
plain-row t (Refuses refusal) = refl
plain-row t (Sends now to m) = refl

pub plain-order : (t : ClientTable) (j : ℕ) (command : Command) → order_row (of_table t) j (orders.Command command) ≡ by_table (command_row t j command)
plain-order t j (Begin s) = plain-row t (command_row t j (Begin s))
plain-order t j (Open s) = plain-row t (command_row t j (Open s))
plain-order t j (Do s op) = plain-row t (command_row t j (Do s op))
plain-order t j End = plain-row t (command_row t j End)
plain-order t j Abort = plain-row t (command_row t j Abort)

plain-table : (t : ClientTable) (row : ClientTable × TableTaken) → with_table (of_table t) row ≡ (of_table row.0, as_table row.1)
plain-table t row = elim (cases_Bool (is_some row.0.outstanding)) [
  | inl h ↦ rw h refl
  | inr h ↦ rw h refl
]

pub plain-message : (t : ClientTable) (m : Message) → take_call_row (of_table t) m ≡ (of_table (take_row t m).0, as_table (take_row t m).1)
plain-message t (messages.Answer client request a) = plain-table t (take_row t (messages.Answer client request a))
plain-message t (messages.Begin client request) = plain-table t (take_row t (messages.Begin client request))
plain-message t m = plain-table t (take_row t m)

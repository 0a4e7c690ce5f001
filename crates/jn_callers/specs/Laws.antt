-- What holds of a client that calls from its first table on.
use Rattle.std.specs.Prelude.{◌≡◌, ℕ, Bool, true, false, not, nat_lt, ◌&&◌, ◌||◌, Option, Some, None, is_some}
use Rattle.jn_base.specs.declared.names.ServerNo.{ServerNo}
use Rattle.jn_base.specs.declared.op.Command.{Command}
use Rattle.jn_base.specs.declared.op.Command.TheVariants.{Do}
use Rattle.jn_base.specs.Names.{server_eq}
use Rattle.jn_msgs.specs.declared.message.Message.TheVariants as messages
use Rattle.jn_rows.specs.declared.client.Outstanding.{Outstanding}
use Rattle.jn_rows.specs.Client.{ClientTable, Commanded, Refuses, Sends, work_at}
use Rattle.jn_rows.specs.ClientLaws.{IsClient}
use Rattle.jn_calls.specs.Turns.{left}
use Rattle.jn_callers.specs.declared.doing.Doing.{Doing}
use Rattle.jn_callers.specs.declared.taken.Taken.{Taken}
use Rattle.jn_callers.specs.declared.taken.Taken.TheVariants.{Send}
use Rattle.jn_callers.specs.Callers.{Caller, Ordered, Refused, Sent, of_table}

abbrev pub is_done_at : ServerNo → Command → Bool
is_done_at s (Do other op) = server_eq s other
is_done_at s command = false

-- the client waits for an operation at this server
abbrev pub waits_at : ServerNo → Option Outstanding → Bool
waits_at s None = false
waits_at s (Some o) = is_done_at s o.command

-- a client in a call waits for an operation at the call's server, where its transaction has a work
abbrev pub may_be_doing : ClientTable → Option Doing → Bool
may_be_doing t None = true
may_be_doing t (Some d) = waits_at d.server t.outstanding && (nat_lt d.server.0 t.servers && (is_some t.transaction && is_some (work_at d.server t.works)))

pub record IsCaller (c : Caller) : Type 0 where
  pub table : IsClient c.table
  pub doing : may_be_doing c.table c.doing ≡ true
  -- only a transaction is spoiled
  pub spoiled : (not c.spoiled || is_some c.table.transaction) ≡ true

-- the client after an order, or as it was where that is refused
abbrev pub after_order : Ordered → Caller → Caller
after_order (Refused refusal) c = c
after_order (Sent now to m) c = now

abbrev pub is_ordered : Ordered → Bool
is_ordered (Refused refusal) = false
is_ordered (Sent now to m) = true

abbrev pub is_sent : Commanded → Bool
is_sent (Refuses refusal) = false
is_sent (Sends t to m) = true

-- what the table does with a command, as that of a client without calls
abbrev pub by_table : Commanded → Ordered
by_table (Refuses refusal) = Refused refusal
by_table (Sends t to m) = Sent (of_table t) to m

-- how many operations the call under way may still ask behind the one that it has asked
abbrev pub still : Option Doing → ℕ
still None = 0
still (Some d) = left d.state

-- how many operations are sent
abbrev pub operations_sent : Taken → ℕ
operations_sent (Send to (messages.Op client request work number op)) = 1
operations_sent taken = 0

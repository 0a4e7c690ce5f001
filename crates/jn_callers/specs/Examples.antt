-- A client in a call, by which rows are checked by computing them.
use Rattle.std.specs.Prelude.{ℕ, Bool, false, [], ◌∷◌, Option, Some, None}
use Rattle.jn_base.specs.declared.names.ServerNo.{ServerNo}
use Rattle.jn_base.specs.declared.names.Party.TheVariants.{Server}
use Rattle.jn_base.specs.declared.op.Op.{Op}
use Rattle.jn_base.specs.declared.op.Op.TheVariants.{Write}
use Rattle.jn_base.specs.declared.op.Command.{Command}
use Rattle.jn_base.specs.declared.op.Command.TheVariants.{Do}
use Rattle.jn_base.specs.declared.call.ByteCommand.{ByteCommand}
use Rattle.jn_base.specs.declared.call.ByteCommand.TheVariants.{WriteBytes}
use Rattle.jn_base.specs.declared.call.Call.{Call}
use Rattle.jn_base.specs.declared.call.Call.TheVariants.{OfBytes}
use Rattle.jn_base.specs.Names.{request_of, operation_of}
use Rattle.jn_msgs.specs.declared.message.Message.{Message}
use Rattle.jn_msgs.specs.declared.message.Message.TheVariants as messages
use Rattle.jn_rows.specs.declared.client.Outstanding.{Outstanding}
use Rattle.jn_rows.specs.Client.{ClientTable}
use Rattle.jn_rows.specs.Examples.{tid, work, client, file, block}
use Rattle.jn_bytes.specs.declared.stage.Stage.{Stage}
use Rattle.jn_calls.specs.declared.state.CallState.TheVariants as states
use Rattle.jn_callers.specs.declared.doing.Doing.{Doing}
use Rattle.jn_callers.specs.Callers.{Caller}

abbrev pub server : ℕ → ServerNo
server n = record { 0 = n }

-- a client of two servers in a transaction, which has drawn so many requests before and asked so many operations of its work at server 0
abbrev pub table : ℕ → ℕ → Option Outstanding → ClientTable
table next last waits = record {
  client = client;
  servers = 2;
  next = next;
  transaction = Some (tid 1);
  works = (record { work = work 5; last = last }) ∷ [];
  outstanding = waits;
}

abbrev pub idle_caller : Bool → Caller
idle_caller spoiled = record { table = table 5 3 None; doing = None; spoiled = spoiled }

-- the message that asks an operation, and the command that event 7 gave
abbrev pub asking : ℕ → ℕ → Op → Message
asking request number op = messages.Op client (request_of request) (work 5) (operation_of number) op

abbrev pub asked : ℕ → Command → Message → Outstanding
asked request command m = record { event = 7; request = request_of request; command = command; to = Server (server 0); message = m }

-- a write of one byte at the first place of file 7, and one behind the last place
abbrev pub first_byte : ByteCommand
first_byte = WriteBytes (file 7) 0 (98 ∷ [])

abbrev pub too_far : Call
too_far = OfBytes (WriteBytes (file 7) 1128512 (98 ∷ []))

-- what it writes last, to block 1 and then to block 0
abbrev pub put_byte : Op
put_byte = Write (file 7) (block 1) (98 ∷ [])

abbrev pub put_length : Op
put_length = Write (file 7) (block 0) (74 ∷ [])

abbrev pub doing : Stage → Bool → Doing
doing stage wrote = record { server = server 0; state = states.OfBytes (record { call = first_byte; waits = Some stage }); wrote = wrote }

-- a client that waits for an operation of this write, asked by its request 4
abbrev pub in_call : Op → Stage → Bool → Caller
in_call op stage wrote = record { table = table 5 3 (Some (asked 4 (Do (server 0) op) (asking 4 3 op))); doing = Some (doing stage wrote); spoiled = false }

-- the same where the next one is asked
abbrev pub in_call_on : Op → Stage → Bool → Caller
in_call_on op stage wrote = record { table = table 6 4 (Some (asked 5 (Do (server 0) op) (asking 5 4 op))); doing = Some (doing stage wrote); spoiled = false }

-- A short transaction, step by step: it makes a file and writes a byte to it. The call reads blocks 0 and 1, and writes
-- blocks 1 and 0.
use Rattle.std.specs.Prelude.{List, [], ◌∷◌, ◌++◌}
use Rattle.jn_base.specs.declared.names.ServerNo.{ServerNo}
use Rattle.jn_base.specs.declared.names.FileNo.{FileNo}
use Rattle.jn_base.specs.declared.op.Op.TheVariants.{Create}
use Rattle.jn_base.specs.declared.op.Answer.TheVariants as answers
use Rattle.jn_order.specs.Files.{zeros}
use Rattle.jn_base.specs.declared.call.ByteCommand.TheVariants.{WriteBytes}
use Rattle.jn_base.specs.declared.call.Call.{Call}
use Rattle.jn_base.specs.declared.call.Call.TheVariants.{OfBytes}
use Rattle.jn_bytes.specs.declared.next.Next.TheVariants.{Did}
use Rattle.jn_calls.specs.declared.reply.Reply.TheVariants as replies
use Rattle.jn_calls.specs.Calls.{Fits}
use Rattle.jn_replay.specs.declared.replied.Replied.{Replied}
use Rattle.jn_serial.specs.Order.{as_replied}
use Rattle.jn_unfolding.specs.Unfolding.{replied_call}
use Rattle.jn_unfolding.specs.Logs.{LogStep, Asks, Calls, Hears, GivesUp}

abbrev pub first_server : ServerNo
first_server = record { 0 = 0 }

abbrev pub file_7 : FileNo
file_7 = record { 0 = 7 }

abbrev pub one_byte : Call
one_byte = OfBytes (WriteBytes file_7 0 (1 ∷ []))

-- until block 1 is written
abbrev pub block_written : Fits one_byte → List LogStep
block_written fits = Asks first_server (Create file_7) ∷ Hears answers.Did ∷ Calls first_server one_byte fits ∷ Hears (answers.Read zeros) ∷ Hears (answers.Read zeros) ∷ Hears answers.Did ∷ []

abbrev pub all_written : Fits one_byte → List LogStep
all_written fits = block_written fits ++ Hears answers.Did ∷ []

abbrev pub cut_short : Fits one_byte → List LogStep
cut_short fits = block_written fits ++ GivesUp ∷ []

abbrev pub two_done : List Replied
two_done = as_replied (record { server = first_server; op = Create file_7; answer = answers.Did }) ∷ replied_call first_server one_byte (replies.OfBytes Did) ∷ []

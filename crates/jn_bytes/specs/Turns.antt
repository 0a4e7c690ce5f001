-- A call takes operations on blocks one after another: what it asks next, by the answers so far.
use Rattle.std.specs.Prelude.{ℕ, ◌+◌, ◌-◌, ◌/◌, ◌%◌, ◌++◌, nat_eq, nat_lt, List, [], ◌∷◌, length, take, drop, min, Option, Some, None, if◌then◌else◌}
use Rattle.jn_base.specs.declared.names.FileNo.{FileNo}
use Rattle.jn_base.specs.declared.op.Op.{Op}
use Rattle.jn_base.specs.declared.op.Op.TheVariants.{Read, Write}
use Rattle.jn_base.specs.declared.op.Answer.{Answer}
use Rattle.jn_base.specs.declared.op.Answer.TheVariants as answers
use Rattle.jn_order.specs.Files.{zeros}
use Rattle.jn_base.specs.declared.call.ByteCommand.{ByteCommand}
use Rattle.jn_base.specs.declared.call.ByteCommand.TheVariants.{ReadBytes, WriteBytes}
use Rattle.jn_bytes.specs.declared.next.Next.{Next}
use Rattle.jn_bytes.specs.declared.next.Next.TheVariants.{Send, Done, Did, Refused}
use Rattle.jn_bytes.specs.declared.next.ByteRefusal.TheVariants.{Operation, NotBytes, PastEnd}
use Rattle.jn_bytes.specs.declared.stage.Stage.{Stage}
use Rattle.jn_bytes.specs.declared.stage.Stage.TheVariants as stages
use Rattle.jn_bytes.specs.declared.stage.Turn.{Turn}
use Rattle.jn_bytes.specs.declared.stage.Turn.TheVariants.{Sends, Over}
use Rattle.jn_base.specs.Limits.{block_size}
use Rattle.jn_bytes.specs.ByteFiles.{length_block, length_in, sized}
use Rattle.jn_bytes.specs.Calls.{file_of_call}

abbrev pub read_op : FileNo → ℕ → Op
read_op f p = Read f (record { 0 = p })

abbrev pub write_op : FileNo → ℕ → List ℕ → Op
write_op f p bytes = Write f (record { 0 = p }) bytes

-- the block of a byte, and its place there
abbrev pub block_at : ℕ → ℕ
block_at offset = offset / block_size + 1

abbrev pub place_in_block : ℕ → ℕ
place_in_block offset = offset % block_size

abbrev pub first_turn : ByteCommand → Turn
first_turn call = Sends (read_op (file_of_call call) 0) stages.Length

-- where block 0 isn't of the format the call is over
abbrev pub with_length : Option ℕ → (ℕ → Turn) → Turn
with_length None turn = Over (Refused NotBytes)
with_length (Some n) turn = turn n

-- ---- a read

-- `left` bytes are still wanted behind those so far, from this place of block p on
abbrev pub read_from : FileNo → ℕ → ℕ → ℕ → List ℕ → Turn
read_from f p from left bytes = if nat_eq left 0 then Over (Done bytes) else Sends (read_op f p) (stages.Block p from left bytes)

-- of a file with n bytes
abbrev pub read_of : FileNo → ℕ → ℕ → ℕ → Turn
read_of f offset count n = read_from f (block_at offset) (place_in_block offset) (min count (n - offset)) []

-- ---- a write

-- bytes put into a block from this place on
abbrev pub filled : ℕ → List ℕ → List ℕ → List ℕ
filled from bytes old = take from old ++ bytes ++ drop (from + length bytes) old

-- what goes into the first block, and what into the second
abbrev pub first_part : ℕ → List ℕ → List ℕ
first_part offset bytes = take (block_size - place_in_block offset) bytes

abbrev pub second_part : ℕ → List ℕ → List ℕ
second_part offset bytes = drop (block_size - place_in_block offset) bytes

-- one write after another
abbrev pub write_all : List Op → Turn
write_all [] = Over Did
write_all (op ∷ ops) = Sends op (stages.Write ops)

-- block 0 is written last, where there are more than n bytes then
abbrev pub grown : FileNo → ℕ → ℕ → List Op
grown f n end = if nat_lt n end then write_op f 0 (length_block end) ∷ [] else []

-- what is to be in the first block is known
abbrev pub with_first : FileNo → ℕ → List ℕ → ℕ → List ℕ → Turn
with_first f offset bytes n first =
    if nat_eq (length (second_part offset bytes)) 0
    then write_all (write_op f (block_at offset) first ∷ grown f n (offset + length bytes))
    else Sends (read_op f (block_at offset + 1)) (stages.Second n first)

-- and in the second one
abbrev pub with_second : FileNo → ℕ → List ℕ → ℕ → List ℕ → List ℕ → Turn
with_second f offset bytes n first second =
    write_all (write_op f (block_at offset) first ∷ write_op f (block_at offset + 1) second ∷ grown f n (offset + length bytes))

-- to a file with n bytes: a block that is covered whole isn't read
abbrev pub write_of : FileNo → ℕ → List ℕ → ℕ → Turn
write_of f offset bytes n =
    if nat_lt n offset then Over (Refused (PastEnd n))
    else (if nat_eq (length bytes) 0 then Over Did
    else (if nat_eq (length (first_part offset bytes)) block_size then with_first f offset bytes n (first_part offset bytes)
    else Sends (read_op f (block_at offset)) (stages.First n)))

-- ---- every turn

-- by the block that was read
abbrev pub go_on : ByteCommand → Stage → List ℕ → Turn
go_on (ReadBytes f offset count) stages.Length b = with_length (length_in b) (λ n. read_of f offset count n)
go_on (ReadBytes f offset count) (stages.Block p from left bytes) b = read_from f (p + 1) 0 (left - (block_size - from)) (bytes ++ take left (drop from b))
go_on (WriteBytes f offset bytes) stages.Length b = with_length (length_in b) (λ n. write_of f offset bytes n)
go_on (WriteBytes f offset bytes) (stages.First n) b = with_first f offset bytes n (filled (place_in_block offset) (first_part offset bytes) b)
go_on (WriteBytes f offset bytes) (stages.Second n first) b = with_second f offset bytes n first (filled 0 (second_part offset bytes) b)
go_on (WriteBytes f offset bytes) (stages.Write ops) b = write_all ops
-- no call comes to a stage of the other kind
go_on call stage b = Over (Refused NotBytes)

-- what an answer gives of a block, if it refuses nothing: that of a write gives nothing, which counts as zeros
abbrev pub block_given : Answer → Option (List ℕ)
block_given answers.Did = Some (sized zeros)
block_given (answers.Read b) = Some (sized b)
block_given refusal = None

abbrev pub turn_by : ByteCommand → Stage → Answer → Option (List ℕ) → Turn
turn_by call stage answer (Some b) = go_on call stage b
turn_by call stage answer None = Over (Refused (Operation answer))

-- an operation that is refused ends the call
abbrev pub turn : ByteCommand → Stage → Answer → Turn
turn call stage answer = turn_by call stage answer (block_given answer)

-- ---- a call under way

-- which call, and which answer it waits for
pub record Calling : Type 0 where
  pub call : ByteCommand
  pub waits : Option Stage

-- before its first turn
abbrev pub begun : ByteCommand → Calling
begun call = record { call = call; waits = None }

-- without an answer that is waited for the call begins anew
abbrev pub turn_from : ByteCommand → Option Stage → Option Answer → Turn
turn_from call (Some stage) (Some answer) = turn call stage answer
turn_from call _ _ = first_turn call

abbrev pub turn_after : Calling → Option Answer → Turn
turn_after c answer = turn_from c.call c.waits answer

abbrev pub next_of : Turn → Next
next_of (Sends op stage) = Send op
next_of (Over next) = next

abbrev pub waits_after : Turn → Option Stage
waits_after (Sends op stage) = Some stage
waits_after (Over next) = None

abbrev pub waiting : Calling → Turn → Calling
waiting c t = record c { waits = waits_after t }

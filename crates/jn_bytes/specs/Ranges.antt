-- Which calls are made, which stages they come to, and which operations they ask.
use Rattle.std.specs.Prelude.{◌≡◌, ◌≤◌, ◌<◌, ⊤, ◌+◌, ◌*◌, ◌-◌, List, [], ◌∷◌, length, Option, Some, None}
use Rattle.jn_base.specs.declared.op.Op.{Op}
use Rattle.jn_base.specs.Ops.{block_of}
use Rattle.jn_order.specs.Files.{file_of}
use Rattle.jn_base.specs.declared.call.ByteCommand.{ByteCommand}
use Rattle.jn_base.specs.declared.call.ByteCommand.TheVariants.{ReadBytes, WriteBytes}
use Rattle.jn_bytes.specs.declared.next.Next.{Next}
use Rattle.jn_bytes.specs.declared.next.Next.TheVariants.{Send}
use Rattle.jn_bytes.specs.declared.stage.Stage.{Stage}
use Rattle.jn_bytes.specs.declared.stage.Stage.TheVariants as stages
use Rattle.jn_base.specs.Limits.{block_size, most_file_bytes, most_blocks}
use Rattle.jn_bytes.specs.Calls.{file_of_call}
use Rattle.jn_bytes.specs.Turns.{second_part}

-- a write is of a block's bytes at most, which end where a file can end
abbrev pub Fits : ByteCommand → Type 0
Fits (ReadBytes f offset count) = ⊤
Fits (WriteBytes f offset bytes) = (length bytes ≤ block_size) × (offset + length bytes ≤ most_file_bytes)

-- an operation is of the call's file, and of a block that there can be
abbrev pub IsOfCall : ByteCommand → Op → Type 0
IsOfCall call op = (file_of op ≡ file_of_call call) × ((block_of op).0 < most_blocks)

abbrev pub AreOfCall : ByteCommand → List Op → Type 0
AreOfCall call [] = ⊤
AreOfCall call (op ∷ ops) = IsOfCall call op × AreOfCall call ops

-- the stages that a call comes to
abbrev pub StageFits : ByteCommand → Stage → Type 0
StageFits call stages.Length = ⊤
StageFits (ReadBytes f offset count) (stages.Block p from left bytes) = (1 ≤ p) × (from < block_size) × (1 ≤ left) × (block_size * (p - 1) + (from + left) ≤ most_file_bytes)
StageFits (WriteBytes f offset bytes) (stages.First n) = 1 ≤ length bytes
StageFits (WriteBytes f offset bytes) (stages.Second n first) = 1 ≤ length (second_part offset bytes)
StageFits (WriteBytes f offset bytes) (stages.Write ops) = AreOfCall (WriteBytes f offset bytes) ops
StageFits call stage = ⊥

abbrev pub WaitFits : ByteCommand → Option Stage → Type 0
WaitFits call None = ⊤
WaitFits call (Some stage) = StageFits call stage

-- what is sent is of the call
abbrev pub SendsOfCall : ByteCommand → Next → Type 0
SendsOfCall call (Send op) = IsOfCall call op
SendsOfCall call next = ⊤

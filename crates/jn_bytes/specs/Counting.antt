-- How many operations a call takes.
use Rattle.std.specs.Prelude.{ℕ, ◌+◌, ◌-◌, ◌*◌, ◌/◌, Bool, true, false, nat_eq, List, [], ◌∷◌, length, if◌then◌else◌}
use Rattle.jn_base.specs.declared.op.Answer.{Answer}
use Rattle.jn_base.specs.declared.call.ByteCommand.{ByteCommand}
use Rattle.jn_base.specs.declared.call.ByteCommand.TheVariants.{ReadBytes, WriteBytes}
use Rattle.jn_bytes.specs.declared.stage.Stage.{Stage}
use Rattle.jn_bytes.specs.declared.stage.Stage.TheVariants as stages
use Rattle.jn_bytes.specs.declared.stage.Turn.{Turn}
use Rattle.jn_bytes.specs.declared.stage.Turn.TheVariants.{Sends, Over}
use Rattle.jn_base.specs.Limits.{block_size}
use Rattle.jn_bytes.specs.Turns.{place_in_block, second_part, first_turn, turn}

-- how many blocks n bytes are in, of which the first has this place in its block
abbrev pub blocks_of : ℕ → ℕ → ℕ
blocks_of from n = (from + n + (block_size - 1)) / block_size

-- how many blocks a write touches at most
abbrev pub blocks_touched : ℕ → List ℕ → ℕ
blocks_touched offset bytes = if nat_eq (length (second_part offset bytes)) 0 then 1 else 2

-- how many operations a call may ask behind the one that it has asked: a write reads the blocks that it touches, and
-- writes them and block 0
abbrev pub left_behind : ByteCommand → Stage → ℕ
left_behind (ReadBytes f offset count) stages.Length = blocks_of (place_in_block offset) count
left_behind (ReadBytes f offset count) (stages.Block p from left bytes) = blocks_of from left - 1
left_behind (WriteBytes f offset bytes) stages.Length = if nat_eq (length bytes) 0 then 0 else 1 + 2 * blocks_touched offset bytes
left_behind (WriteBytes f offset bytes) (stages.First n) = 2 * blocks_touched offset bytes
left_behind (WriteBytes f offset bytes) (stages.Second n first) = 3
left_behind (WriteBytes f offset bytes) (stages.Write ops) = length ops
left_behind call stage = 0

-- and from a turn on
abbrev pub left_from : ByteCommand → Turn → ℕ
left_from call (Sends op stage) = 1 + left_behind call stage
left_from call (Over next) = 0

-- and in all
abbrev pub most_operations : ByteCommand → ℕ
most_operations call = left_from call (first_turn call)

-- where a call is by these answers to its operations, whoever gave them
abbrev pub turn_behind : ByteCommand → Turn → List Answer → Turn
turn_behind call (Over next) heard = Over next
turn_behind call (Sends op stage) [] = Sends op stage
turn_behind call (Sends op stage) (a ∷ heard) = turn_behind call (turn call stage a) heard

abbrev pub is_over : Turn → Bool
is_over (Sends op stage) = false
is_over (Over next) = true

-- A call takes operations one after another: what it asks next, by the answers so far.
use Rattle.std.specs.Prelude.{◌≡◌, ◌<◌, ⊤, ℕ, ◌+◌, ◌-◌, Bool, true, false, ◌&&◌, ◌++◌, nat_lt, List, [], ◌∷◌, Option, Some, None, Result, Ok, Err, if◌then◌else◌}
use Rattle.jn_base.specs.declared.names.FileNo.{FileNo}
use Rattle.jn_base.specs.declared.op.Op.{Op}
use Rattle.jn_base.specs.declared.op.Op.TheVariants.{Read, Write}
use Rattle.jn_base.specs.declared.op.Answer.{Answer}
use Rattle.jn_base.specs.declared.op.Answer.TheVariants as answers
use Rattle.jn_order.specs.Files.{is_did, zeros}
use Rattle.jn_order.specs.Answers.{Answered}
use Rattle.jn_names.specs.declared.entry.Entry.{Entry}
use Rattle.jn_base.specs.declared.call.NameCommand.{NameCommand}
use Rattle.jn_base.specs.declared.call.NameCommand.TheVariants as calls
use Rattle.jn_names.specs.declared.next.NameNext.{NameNext}
use Rattle.jn_names.specs.declared.next.NameNext.TheVariants.{Send, Did, Names, Refused}
use Rattle.jn_names.specs.declared.next.NameRefusal.TheVariants.{Operation, NotDirectory}
use Rattle.jn_names.specs.declared.turn.Stage.{Stage}
use Rattle.jn_names.specs.declared.turn.Stage.TheVariants as stages
use Rattle.jn_names.specs.declared.turn.Turn.{Turn}
use Rattle.jn_names.specs.declared.turn.Turn.TheVariants.{Sends, Over}
use Rattle.jn_names.specs.Names.{buckets, bucket_of}
use Rattle.jn_names.specs.Buckets.{Slot, bucket_in, bucket_bytes}
use Rattle.jn_names.specs.Calls.{directory_of, name_of, made_at, entries_of, ascending}

abbrev pub read_bucket : FileNo → ℕ → Op
read_bucket d k = Read d (record { 0 = k })

-- the next bucket is read, or there is none
abbrev pub ask_each : FileNo → ℕ → List Entry → Turn
ask_each d k es = if nat_lt k buckets then Sends (read_bucket d k) (stages.Each k es) else Over (Names (ascending es))

abbrev pub first_turn : NameCommand → Turn
first_turn (calls.Names d) = ask_each d 0 []
first_turn command = Sends (read_bucket (directory_of command) (bucket_of (name_of command))) stages.Bucket

abbrev pub write_made : NameCommand → Result (List Slot) NameNext → Turn
write_made command (Ok slots) = Sends (Write (directory_of command) (record { 0 = bucket_of (name_of command) }) (bucket_bytes slots)) stages.Write
write_made command (Err reply) = Over reply

abbrev pub add_each : FileNo → ℕ → List Entry → Option (List Slot) → Turn
add_each d k es None = Over (Refused NotDirectory)
add_each d k es (Some slots) = ask_each d (k + 1) (es ++ entries_of slots)

-- by the block that was read
abbrev pub go_on : NameCommand → Stage → List ℕ → Turn
go_on command stages.Bucket block = write_made command (made_at command (bucket_in (bucket_of (name_of command)) block))
go_on command (stages.Each k es) block = add_each (directory_of command) k es (bucket_in k block)
go_on command stages.Write block = Over Did

-- an answer that isn't one to what was asked counts as a block of zeros
abbrev pub turn : NameCommand → Stage → Answer → Turn
turn command stage answers.Did = go_on command stage zeros
turn command stage (answers.Read block) = go_on command stage block
turn command stage refusal = Over (Refused (Operation refusal))

-- ---- a call and what it waits for

-- a bucket that is read is one of a directory's
abbrev pub StageFits : Stage → Type 0
StageFits (stages.Each k es) = k < buckets
StageFits stage = ⊤

abbrev pub TurnFits : Turn → Type 0
TurnFits (Sends op stage) = StageFits stage
TurnFits (Over reply) = ⊤

abbrev pub WaitsFits : Option Stage → Type 0
WaitsFits None = ⊤
WaitsFits (Some stage) = StageFits stage

-- `waits` is none before the first turn and after the last
pub record Calling : Type 0 where
  pub command : NameCommand
  pub waits : Option Stage

abbrev pub begun : NameCommand → Calling
begun command = record { command = command; waits = None }

abbrev pub turn_of : NameCommand → Option Stage → Option Answer → Turn
turn_of command (Some stage) (Some answer) = turn command stage answer
turn_of command _ _ = first_turn command

-- what is given out in a turn, and what the call then waits for
abbrev pub given : Turn → NameNext × Option Stage
given (Sends op stage) = (Send op, Some stage)
given (Over reply) = (reply, None)

-- ---- a whole call

abbrev pub is_write : Op → Bool
is_write (Write f p bytes) = true
is_write _ = false

-- it changes files, and was done
abbrev pub has_written : Answered → Bool
has_written s = is_write s.op && is_did s.answer

-- from this turn on the call asks these operations, is answered so, and is over with this reply
abbrev pub GoesOn : NameCommand → Turn → List Answered → NameNext → Type 0
GoesOn command (Over last) [] reply = last ≡ reply
GoesOn command (Over last) (s ∷ more) reply = ⊥
GoesOn command (Sends op stage) [] reply = ⊥
GoesOn command (Sends op stage) (s ∷ more) reply = (s.op ≡ op) × GoesOn command (turn command stage s.answer) more reply

abbrev pub IsExchange : NameCommand → List Answered → NameNext → Type 0
IsExchange command os reply = GoesOn command (first_turn command) os reply

-- ---- how many operations a call takes

-- the writes of a call
abbrev pub writes_of : NameCommand → ℕ
writes_of (calls.Bind d name file) = 1
writes_of (calls.Unbind d name) = 1
writes_of (calls.Find d name) = 0
writes_of (calls.Names d) = 0

-- how many operations a call may ask behind the one that it has asked
abbrev pub left_behind : NameCommand → Stage → ℕ
left_behind command stages.Bucket = writes_of command
left_behind command (stages.Each k es) = 31 - k
left_behind command stages.Write = 0

-- and from a turn on
abbrev pub left_from : NameCommand → Turn → ℕ
left_from command (Sends op stage) = 1 + left_behind command stage
left_from command (Over reply) = 0

-- and in all
abbrev pub most_operations : NameCommand → ℕ
most_operations (calls.Names d) = 32
most_operations command = 1 + writes_of command

-- where a call stands by these answers to its operations, whoever gave them
abbrev pub turn_behind : NameCommand → Turn → List Answer → Turn
turn_behind command (Over reply) heard = Over reply
turn_behind command (Sends op stage) [] = Sends op stage
turn_behind command (Sends op stage) (a ∷ heard) = turn_behind command (turn command stage a) heard

abbrev pub is_over : Turn → Bool
is_over (Sends op stage) = false
is_over (Over reply) = true

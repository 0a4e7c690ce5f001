-- A call takes operations one after another: what it asks next, by the answers so far, and how many operations it may still ask.
use Rattle.std.specs.Prelude.{◌≡◌, ⊤, ℕ, ◌+◌, List, [], ◌∷◌, Option, Some, None}
use Rattle.jn_base.specs.declared.op.Op.{Op}
use Rattle.jn_base.specs.declared.op.Answer.{Answer}
use Rattle.jn_base.specs.declared.call.ByteCommand.{ByteCommand}
use Rattle.jn_base.specs.declared.call.NameCommand.{NameCommand}
use Rattle.jn_base.specs.declared.call.NameCommand.TheVariants.{Names}
use Rattle.jn_base.specs.declared.call.Call.{Call}
use Rattle.jn_base.specs.declared.call.Call.TheVariants.{OfBytes, OfNames}
use Rattle.jn_base.specs.Ops.{BlockInRange}
use Rattle.jn_order.specs.Answers.{Answered}
use Rattle.jn_bytes.specs.declared.next.Next.{Next as ByteNext}
use Rattle.jn_bytes.specs.declared.next.Next.TheVariants as byte_nexts
use Rattle.jn_bytes.specs.declared.stage.Stage.{Stage as ByteStage}
use Rattle.jn_bytes.specs.declared.stage.Stage.TheVariants.{Length}
use Rattle.jn_bytes.specs.declared.stage.Turn.{Turn as ByteTurn}
use Rattle.jn_bytes.specs.declared.stage.Turn.TheVariants as byte_turns
use Rattle.jn_bytes.specs.Calls.{file_of_call}
use Rattle.jn_bytes.specs.Turns.{Calling as ByteCalling, read_op, turn_after}
use Rattle.jn_bytes.specs.Ranges.{Fits as BytesFit, WaitFits}
use Rattle.jn_bytes.specs.Counting.{left_behind as bytes_left, most_operations as most_of_bytes}
use Rattle.jn_names.specs.declared.next.NameNext.{NameNext}
use Rattle.jn_names.specs.declared.next.NameNext.TheVariants as name_nexts
use Rattle.jn_names.specs.declared.turn.Stage.{Stage as NameStage}
use Rattle.jn_names.specs.declared.turn.Stage.TheVariants.{Bucket, Each}
use Rattle.jn_names.specs.declared.turn.Turn.{Turn as NameTurn}
use Rattle.jn_names.specs.declared.turn.Turn.TheVariants as name_turns
use Rattle.jn_names.specs.Names.{bucket_of}
use Rattle.jn_names.specs.Calls.{Named, directory_of, name_of}
use Rattle.jn_names.specs.Turns.{Calling as NameCalling, WaitsFits, read_bucket, turn_of, left_behind as names_left, most_operations as most_of_names}
use Rattle.jn_calls.specs.declared.reply.Reply.{Reply}
use Rattle.jn_calls.specs.declared.reply.Reply.TheVariants as replies
use Rattle.jn_calls.specs.declared.reply.CallNext.{CallNext}
use Rattle.jn_calls.specs.declared.reply.CallNext.TheVariants as nexts
use Rattle.jn_calls.specs.declared.state.CallState.{CallState}
use Rattle.jn_calls.specs.declared.state.CallState.TheVariants as states

-- the operation that a call begins with
abbrev pub first_op : Call → Op
first_op (OfBytes command) = read_op (file_of_call command) 0
first_op (OfNames command) = read_bucket (directory_of command) (bucket_of (name_of command))

-- the call once that is asked
abbrev pub begun : Call → CallState
begun (OfBytes command) = states.OfBytes (record { call = command; waits = Some Length })
begun (OfNames (Names d)) = states.OfNames (record { command = Names d; waits = Some (Each 0 []) })
begun (OfNames command) = states.OfNames (record { command = command; waits = Some Bucket })

-- what a call does at an answer: it asks an operation and goes on so, or it is over with a reply
pub data Turn : Type 0 where
  Asks : Op → CallState → Turn
  Over : Reply → Turn

abbrev pub of_bytes : ByteCalling → ByteTurn → Turn
of_bytes c (byte_turns.Sends op stage) = Asks op (states.OfBytes (record c { waits = Some stage }))
of_bytes c (byte_turns.Over next) = Over (replies.OfBytes next)

abbrev pub of_names : NameCalling → NameTurn → Turn
of_names c (name_turns.Sends op stage) = Asks op (states.OfNames (record c { waits = Some stage }))
of_names c (name_turns.Over next) = Over (replies.OfNames next)

abbrev pub turn : CallState → Answer → Turn
turn (states.OfBytes c) answer = of_bytes c (turn_after c (Some answer))
turn (states.OfNames c) answer = of_names c (turn_of c.command c.waits (Some answer))

-- what a call of one kind does next, as a call of either
abbrev pub next_of_bytes : ByteNext → CallNext
next_of_bytes (byte_nexts.Send op) = nexts.Send op
next_of_bytes next = nexts.Over (replies.OfBytes next)

abbrev pub next_of_names : NameNext → CallNext
next_of_names (name_nexts.Send op) = nexts.Send op
next_of_names next = nexts.Over (replies.OfNames next)

-- a call that is over waits for nothing
abbrev pub ended : CallState → CallState
ended (states.OfBytes c) = states.OfBytes (record c { waits = None })
ended (states.OfNames c) = states.OfNames (record c { waits = None })

-- what is given out in a turn, and the call then
abbrev pub given : CallState → Turn → CallNext × CallState
given state (Asks op next) = (nexts.Send op, next)
given state (Over reply) = (nexts.Over reply, ended state)

-- ---- a whole call

-- from this turn on the call asks these operations, is answered so, and is over with this reply
abbrev pub GoesOn : Turn → List Answered → Reply → Type 0
GoesOn (Over last) [] reply = last ≡ reply
GoesOn (Asks op state) (a ∷ more) reply = (a.op ≡ op) × GoesOn (turn state a.answer) more reply
GoesOn _ _ reply = ⊥

-- these are the operations of a call, from its first one to its last
abbrev pub IsExchange : Call → List Answered → Reply → Type 0
IsExchange call os reply = GoesOn (Asks (first_op call) (begun call)) os reply

-- ---- how many operations a call takes

-- a call that waits for nothing begins anew
abbrev pub left_of_bytes : ByteCommand → Option ByteStage → ℕ
left_of_bytes command None = most_of_bytes command
left_of_bytes command (Some stage) = bytes_left command stage

abbrev pub left_of_names : NameCommand → Option NameStage → ℕ
left_of_names command None = most_of_names command
left_of_names command (Some stage) = names_left command stage

-- how many operations a call may ask behind the one that it has asked
abbrev pub left : CallState → ℕ
left (states.OfBytes c) = left_of_bytes c.call c.waits
left (states.OfNames c) = left_of_names c.command c.waits

-- and from a turn on
abbrev pub left_from : Turn → ℕ
left_from (Asks op state) = 1 + left state
left_from (Over reply) = 0

-- ---- which operations a call asks

-- where a call that fits can be
abbrev pub StateFits : CallState → Type 0
StateFits (states.OfBytes c) = BytesFit c.call × WaitFits c.call c.waits
StateFits (states.OfNames c) = Named c.command × WaitsFits c.waits

-- it asks for a block that a file can have
abbrev pub TurnFits : Turn → Type 0
TurnFits (Asks op state) = BlockInRange op × StateFits state
TurnFits (Over reply) = ⊤

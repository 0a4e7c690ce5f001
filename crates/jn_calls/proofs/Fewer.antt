-- Each answer leaves a call fewer operations to ask.
use Rattle.std.proofs.Common.{ℕ, suc, ◌+◌, ◌-◌, ◌≤◌, List, [], ◌∷◌, length, Option, Some, None, arith}
use Rattle.jn_base.specs.declared.names.FileNo.{FileNo}
use Rattle.jn_base.specs.declared.op.Answer.{Answer}
use Rattle.jn_base.specs.declared.call.ByteCommand.TheVariants.{ReadBytes, WriteBytes}
use Rattle.jn_base.specs.declared.call.NameCommand.{NameCommand}
use Rattle.jn_base.specs.declared.call.NameCommand.TheVariants as commands
use Rattle.jn_base.specs.declared.call.Call.{Call}
use Rattle.jn_base.specs.declared.call.Call.TheVariants.{OfBytes, OfNames}
use Rattle.jn_order.specs.Answers.{Answered}
use Rattle.jn_bytes.specs.declared.stage.Stage.{Stage as ByteStage}
use Rattle.jn_bytes.specs.declared.stage.Turn.{Turn as ByteTurn}
use Rattle.jn_bytes.specs.declared.stage.Turn.TheVariants as byte_turns
use Rattle.jn_bytes.specs.Turns.{Calling as ByteCalling, first_turn as first_of_bytes, turn as turn_of_bytes, turn_from}
use Rattle.jn_bytes.specs.Counting.{left_from as bytes_left_from}
use Rattle.jn_bytes.proofs.Ending.{falls as bytes-fall, read-most, write-most}
use Rattle.jn_names.specs.declared.turn.Stage.{Stage as NameStage}
use Rattle.jn_names.specs.declared.turn.Turn.{Turn as NameTurn}
use Rattle.jn_names.specs.declared.turn.Turn.TheVariants as name_turns
use Rattle.jn_names.specs.Turns.{Calling as NameCalling, first_turn as first_of_names, turn as turn_of_names, turn_of, left_from as names_left_from}
use Rattle.jn_names.proofs.Ending.{falls as names-fall, begins as names-begin}
use Rattle.jn_calls.specs.declared.reply.Reply.{Reply}
use Rattle.jn_calls.specs.declared.state.CallState.{CallState}
use Rattle.jn_calls.specs.declared.state.CallState.TheVariants as states
use Rattle.jn_calls.specs.Turns.{Turn, Asks, Over, first_op, begun, of_bytes, of_names, turn, GoesOn, IsExchange, left_of_bytes, left_of_names, left, left_from}

left-of-bytes : (c : ByteCalling) (t : ByteTurn) (n : ℕ) → bytes_left_from c.call t ≤ n → left_from (of_bytes c t) ≤ n
left-of-bytes c (byte_turns.Sends op stage) n h = h
left-of-bytes c (byte_turns.Over next) n h = h

left-of-names : (c : NameCalling) (t : NameTurn) (n : ℕ) → names_left_from c.command t ≤ n → left_from (of_names c t) ≤ n
left-of-names c (name_turns.Sends op stage) n h = h
left-of-names c (name_turns.Over next) n h = h

itself : (n : ℕ) → n ≤ n
itself n = omega arith

bytes-turn : (c : ByteCalling) (w : Option ByteStage) (answer : Answer) → left_from (of_bytes c (turn_from c.call w (Some answer))) ≤ left_of_bytes c.call w
bytes-turn c None answer = left-of-bytes c (first_of_bytes c.call) (left_of_bytes c.call None) (itself (left_of_bytes c.call None))
bytes-turn c (Some stage) answer = left-of-bytes c (turn_of_bytes c.call stage answer) (left_of_bytes c.call (Some stage)) (bytes-fall c.call stage answer)

names-turn : (c : NameCalling) (w : Option NameStage) (answer : Answer) → left_from (of_names c (turn_of c.command w (Some answer))) ≤ left_of_names c.command w
names-turn c None answer = left-of-names c (first_of_names c.command) (left_of_names c.command None) (names-begin c.command)
names-turn c (Some stage) answer = left-of-names c (turn_of_names c.command stage answer) (left_of_names c.command (Some stage)) (names-fall c.command stage answer)

pub falls : (state : CallState) (answer : Answer) → left_from (turn state answer) ≤ left state
falls (states.OfBytes c) answer = bytes-turn c c.waits answer
falls (states.OfNames c) answer = names-turn c c.waits answer

asked : (t : Turn) (os : List Answered) (reply : Reply) → GoesOn t os reply → length os ≤ left_from t
asked (Over last) [] reply h = omega arith
asked (Over last) (a ∷ more) reply h = absurd h
asked (Asks op state) [] reply h = absurd h
asked (Asks op state) (a ∷ more) reply h =
    let f = falls state a.answer in
    let m = asked (turn state a.answer) more reply h.1 in
    let z : suc (length more) ≤ 1 + left state = omega (arith, f, m) in z

pub few : (call : Call) (os : List Answered) (reply : Reply) → IsExchange call os reply → length os ≤ 1 + left (begun call)
few call os reply h = asked (Asks (first_op call) (begun call)) os reply h

less : (n m : ℕ) → 1 + n ≤ 1 + m → n ≤ m
less n m h = omega (arith, h)

pub read-few : (f : FileNo) (offset count : ℕ) → count ≤ 4480 → left (begun (OfBytes (ReadBytes f offset count))) ≤ 11
read-few f offset count l = less (left (begun (OfBytes (ReadBytes f offset count)))) 11 (read-most f offset count l)

pub write-few : (f : FileNo) (offset : ℕ) (bytes : List ℕ) → left (begun (OfBytes (WriteBytes f offset bytes))) ≤ 5
write-few f offset bytes = less (left (begun (OfBytes (WriteBytes f offset bytes)))) 5 (write-most f offset bytes)

pub names-few : (command : NameCommand) → left (begun (OfNames command)) ≤ 31
names-few (commands.Bind d name file) = let z : 1 ≤ 31 = omega arith in z
names-few (commands.Unbind d name) = let z : 1 ≤ 31 = omega arith in z
names-few (commands.Find d name) = let z : 0 ≤ 31 = omega arith in z
names-few (commands.Names d) = let z : 31 - 0 ≤ 31 = omega arith in z

-- A call has its end, whatever its operations are answered.
use Rattle.std.proofs.Common.{◌≡◌, ℕ, ◌+◌, ◌-◌, ◌≤◌, ◌<◌, true, List, [], ◌∷◌, ◌++◌, length, suc, Option, Some, None, Result, Ok, Err, inl, inr, refl, arith}
use Rattle.std.specs.Prelude.{nat_lt}
use Rattle.std.proofs.lemmas.Bool.{cases_Bool, ltb-true}
use Rattle.jn_base.specs.declared.names.FileNo.{FileNo}
use Rattle.jn_base.specs.declared.op.Answer.{Answer}
use Rattle.jn_base.specs.declared.op.Answer.TheVariants as answers
unfoldable use Rattle.jn_order.specs.Files.{zeros}
use Rattle.jn_order.specs.Answers.{Answered}
use Rattle.jn_names.specs.declared.entry.Entry.{Entry}
use Rattle.jn_base.specs.declared.call.NameCommand.{NameCommand}
use Rattle.jn_base.specs.declared.call.NameCommand.TheVariants as calls
use Rattle.jn_names.specs.declared.next.NameNext.{NameNext}
use Rattle.jn_names.specs.declared.turn.Stage.{Stage}
use Rattle.jn_names.specs.declared.turn.Stage.TheVariants as stages
use Rattle.jn_names.specs.declared.turn.Turn.{Turn}
use Rattle.jn_names.specs.declared.turn.Turn.TheVariants.{Sends, Over}
use Rattle.jn_names.specs.Names.{bucket_of}
unfoldable use Rattle.jn_names.specs.Names.{buckets}
use Rattle.jn_names.specs.Buckets.{Slot}
unfoldable use Rattle.jn_names.specs.Buckets.{bucket_in}
use Rattle.jn_names.specs.Calls.{directory_of, name_of, made_at, entries_of}
use Rattle.jn_names.specs.Turns.{ask_each, first_turn, write_made, add_each, go_on, turn, GoesOn, writes_of, left_behind, left_from, most_operations, turn_behind, is_over}

one-write : (command : NameCommand) (r : Result (List Slot) NameNext) → left_from command (write_made command r) ≤ 1
one-write command (Ok slots) = omega arith
one-write command (Err reply) = omega arith

by-bucket : (command : NameCommand) (o : Option (List Slot)) → left_from command (write_made command (made_at command o)) ≤ writes_of command
by-bucket (calls.Bind d name file) o = one-write (calls.Bind d name file) (made_at (calls.Bind d name file) o)
by-bucket (calls.Unbind d name) o = one-write (calls.Unbind d name) (made_at (calls.Unbind d name) o)
by-bucket (calls.Find d name) None = omega arith
by-bucket (calls.Find d name) (Some slots) = omega arith
by-bucket (calls.Names d) None = omega arith
by-bucket (calls.Names d) (Some slots) = omega arith

below-all : (k : ℕ) → k < buckets → k < 32
unfolding buckets
below-all k h = h

each-bucket : (command : NameCommand) (d : FileNo) (k : ℕ) (es : List Entry) → left_from command (ask_each d k es) ≤ 32 - k
each-bucket command d k es = elim (cases_Bool (nat_lt k buckets)) [
  | inl m ↦ (let below = below-all k (ltb-true k buckets m) in let z : 1 + (31 - k) ≤ 32 - k = omega (arith, below) in rw m z)
  | inr m ↦ (let z : 0 ≤ 32 - k = omega arith in rw m z)
]

by-each : (command : NameCommand) (d : FileNo) (k : ℕ) (es : List Entry) (o : Option (List Slot)) → left_from command (add_each d k es o) ≤ 31 - k
by-each command d k es None = omega arith
by-each command d k es (Some slots) = let h = each-bucket command d (k + 1) (es ++ entries_of slots) in omega (arith, h)

by-block : (command : NameCommand) (stage : Stage) (block : List ℕ) → left_from command (go_on command stage block) ≤ left_behind command stage
by-block command stages.Bucket block = by-bucket command (bucket_in (bucket_of (name_of command)) block)
by-block command (stages.Each k es) block = by-each command (directory_of command) k es (bucket_in k block)
by-block command stages.Write block = omega arith

-- each answer leaves fewer operations
pub falls : (command : NameCommand) (stage : Stage) (answer : Answer) → left_from command (turn command stage answer) ≤ left_behind command stage
falls command stage answers.Did = by-block command stage zeros
falls command stage (answers.Read block) = by-block command stage block
falls command stage answers.NoFile = omega arith
falls command stage answers.Exists = omega arith
falls command stage (answers.Locked u t) = omega arith
falls command stage answers.TooManyReads = omega arith
falls command stage answers.TooManyWrites = omega arith
falls command stage (answers.Broken u t) = omega arith
falls command stage (answers.Lost then' now) = omega arith
falls command stage answers.Closing = omega arith

pub begins : (command : NameCommand) → left_from command (first_turn command) ≤ most_operations command
unfolding buckets
begins (calls.Bind d name file) = let z : 1 + 1 ≤ 1 + 1 = omega arith in z
begins (calls.Unbind d name) = let z : 1 + 1 ≤ 1 + 1 = omega arith in z
begins (calls.Find d name) = let z : 1 + 0 ≤ 1 + 0 = omega arith in z
begins (calls.Names d) = let z : 1 + (31 - 0) ≤ 32 = omega arith in z

over : (command : NameCommand) (t : Turn) (given : List Answer) → left_from command t ≤ length given → is_over (turn_behind command t given) ≡ true
over command (Over reply) given h = refl
over command (Sends op stage) [] h = let g : 1 + left_behind command stage ≤ 0 = h in absurd (omega (arith, g))
over command (Sends op stage) (a ∷ given) h =
    let f = falls command stage a in
    let g : 1 + left_behind command stage ≤ suc (length given) = h in
    over command (turn command stage a) given (omega (arith, f, g))

pub ends : (command : NameCommand) (given : List Answer) → most_operations command ≤ length given → is_over (turn_behind command (first_turn command) given) ≡ true
ends command given h = let b = begins command in over command (first_turn command) given (omega (arith, b, h))

asked : (command : NameCommand) (t : Turn) (os : List Answered) (reply : NameNext) → GoesOn command t os reply → length os ≤ left_from command t
asked command (Over last) [] reply h = omega arith
asked command (Over last) (s ∷ more) reply h = absurd h
asked command (Sends op stage) [] reply h = absurd h
asked command (Sends op stage) (s ∷ more) reply h =
    let f = falls command stage s.answer in
    let m = asked command (turn command stage s.answer) more reply h.1 in
    let z : suc (length more) ≤ 1 + left_behind command stage = omega (arith, f, m) in z

pub few : (command : NameCommand) (os : List Answered) (reply : NameNext) → GoesOn command (first_turn command) os reply → length os ≤ most_operations command
few command os reply h = let b = begins command in let a = asked command (first_turn command) os reply h in omega (arith, a, b)

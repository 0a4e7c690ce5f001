-- Which operations a call asks, and with what it ends: never with one more operation.
use Rattle.std.proofs.Common.{ℕ, ◌+◌, ◌%◌, ◌<◌, ◌++◌, inl, inr, List, [], ◌∷◌, length, Option, Some, None, Err, arith}
use Rattle.std.specs.Prelude.{⊤, nat_eq, nat_lt, sum}
use Rattle.std.proofs.lemmas.Bool.{cases_Bool, ltb-true}
use Rattle.std.proofs.lemmas.Nat.{mod_below}
use Rattle.jn_base.specs.declared.names.FileNo.{FileNo}
use Rattle.jn_base.specs.declared.op.Op.{Op}
use Rattle.jn_base.specs.declared.op.Answer.{Answer}
use Rattle.jn_base.specs.declared.op.Answer.TheVariants as answers
use Rattle.jn_base.specs.declared.call.ByteCommand.{ByteCommand}
use Rattle.jn_base.specs.declared.call.ByteCommand.TheVariants.{ReadBytes, WriteBytes}
use Rattle.jn_base.specs.declared.call.NameCommand.{NameCommand}
use Rattle.jn_base.specs.declared.call.NameCommand.TheVariants as commands
use Rattle.jn_base.specs.declared.call.Call.{Call}
use Rattle.jn_base.specs.declared.call.Call.TheVariants.{OfBytes, OfNames}
use Rattle.jn_base.specs.Limits.{most_blocks}
use Rattle.jn_base.specs.Ops.{BlockInRange}
unfoldable use Rattle.jn_order.specs.Files.{zeros}
use Rattle.jn_bytes.specs.declared.next.Next.TheVariants as byte_nexts
use Rattle.jn_bytes.specs.declared.stage.Stage.{Stage as ByteStage}
use Rattle.jn_bytes.specs.declared.stage.Stage.TheVariants as byte_stages
use Rattle.jn_bytes.specs.declared.stage.Turn.{Turn as ByteTurn}
use Rattle.jn_bytes.specs.declared.stage.Turn.TheVariants as byte_turns
use Rattle.jn_bytes.specs.Turns.{Calling as ByteCalling, first_turn as first_of_bytes, turn as turn_of_bytes, turn_from, turn_by, go_on as bytes_go_on, block_given, with_length, read_from, read_of, write_of, with_first, write_all, first_part, second_part, filled, place_in_block}
use Rattle.jn_bytes.specs.Ranges.{Fits as BytesFit, WaitFits}
use Rattle.jn_bytes.proofs.Ranges.{TurnFits as BytesTurnFits, first_fits, turn_fits}
unfoldable use Rattle.jn_bytes.specs.ByteFiles.{length_in}
use Rattle.jn_names.specs.declared.entry.Entry.{Entry}
use Rattle.jn_names.specs.declared.next.NameNext.TheVariants as name_nexts
use Rattle.jn_names.specs.declared.next.NameRefusal.{NameRefusal}
use Rattle.jn_names.specs.declared.next.NameRefusal.TheVariants.{BucketFull, NoName}
use Rattle.jn_names.specs.declared.turn.Stage.{Stage as NameStage}
use Rattle.jn_names.specs.declared.turn.Stage.TheVariants as name_stages
use Rattle.jn_names.specs.declared.turn.Turn.{Turn as NameTurn}
use Rattle.jn_names.specs.declared.turn.Turn.TheVariants as name_turns
unfoldable use Rattle.jn_names.specs.Names.{buckets}
use Rattle.jn_names.specs.Names.{bucket_of}
use Rattle.jn_names.specs.Buckets.{Slot, find_in, bound_in, unbound_in}
unfoldable use Rattle.jn_names.specs.Buckets.{bucket_in}
use Rattle.jn_names.specs.Calls.{Named, directory_of, name_of, found, or_refused, made_at, entries_of}
use Rattle.jn_names.specs.Turns.{Calling as NameCalling, TurnFits as NamesTurnFits, first_turn as first_of_names, turn as turn_of_names, turn_of, ask_each, add_each, write_made, go_on as names_go_on}
use Rattle.jn_names.proofs.Fitting.{turn-fits as names-turn-fits, first-fits as names-first-fits}
use Rattle.jn_calls.specs.declared.state.CallState.{CallState}
use Rattle.jn_calls.specs.declared.state.CallState.TheVariants as states
use Rattle.jn_calls.specs.Calls.{Fits}
use Rattle.jn_calls.specs.Turns.{first_op, begun, of_bytes, of_names, turn, StateFits, TurnFits}

-- ---- a call on bytes ends with no operation

abbrev pub EndsBytes : ByteTurn → Type 0
EndsBytes (byte_turns.Sends op stage) = ⊤
EndsBytes (byte_turns.Over (byte_nexts.Send op)) = ⊥
EndsBytes (byte_turns.Over next) = ⊤

reads-end : (f : FileNo) (p from left : ℕ) (bytes : List ℕ) → EndsBytes (read_from f p from left bytes)
reads-end f p from left bytes = elim (cases_Bool (nat_eq left 0)) [
  | inl h ↦ rw h tt
  | inr h ↦ rw h tt
]

writes-end : (ops : List Op) → EndsBytes (write_all ops)
writes-end [] = tt
writes-end (op ∷ ops) = tt

first-ends : (f : FileNo) (offset : ℕ) (bytes : List ℕ) (n : ℕ) (first : List ℕ) → EndsBytes (with_first f offset bytes n first)
first-ends f offset bytes n first = elim (cases_Bool (nat_eq (length (second_part offset bytes)) 0)) [
  | inl h ↦ rw h tt
  | inr h ↦ rw h tt
]

write-ends : (f : FileNo) (offset : ℕ) (bytes : List ℕ) (n : ℕ) → EndsBytes (write_of f offset bytes n)
write-ends f offset bytes n = elim (cases_Bool (nat_lt n offset)) [
  | inl h ↦ rw h tt
  | inr h ↦ rw h (elim (cases_Bool (nat_eq (length bytes) 0)) [
    | inl k ↦ rw k tt
    | inr k ↦ rw k (elim (cases_Bool (nat_eq (length (first_part offset bytes)) 448)) [
      | inl m ↦ rw m (first-ends f offset bytes n (first_part offset bytes))
      | inr m ↦ rw m tt
    ])
  ])
]

length-ends : (o : Option ℕ) (t : ℕ → ByteTurn) → ((n : ℕ) → EndsBytes (t n)) → EndsBytes (with_length o t)
length-ends None t h = tt
length-ends (Some n) t h = h n

bytes-on : (call : ByteCommand) (stage : ByteStage) (b : List ℕ) → EndsBytes (bytes_go_on call stage b)
bytes-on (ReadBytes f offset count) byte_stages.Length b = length-ends (length_in b) (λ n. read_of f offset count n) (λ n. reads-end f _ _ _ [])
bytes-on (ReadBytes f offset count) (byte_stages.Block p from left bytes) b = reads-end f _ _ _ _
bytes-on (ReadBytes f offset count) (byte_stages.First n) b = tt
bytes-on (ReadBytes f offset count) (byte_stages.Second n first) b = tt
bytes-on (ReadBytes f offset count) (byte_stages.Write ops) b = tt
bytes-on (WriteBytes f offset bytes) byte_stages.Length b = length-ends (length_in b) (λ n. write_of f offset bytes n) (λ n. write-ends f offset bytes n)
bytes-on (WriteBytes f offset bytes) (byte_stages.Block p from left read) b = tt
bytes-on (WriteBytes f offset bytes) (byte_stages.First n) b = first-ends f offset bytes n (filled (place_in_block offset) (first_part offset bytes) b)
bytes-on (WriteBytes f offset bytes) (byte_stages.Second n first) b = tt
bytes-on (WriteBytes f offset bytes) (byte_stages.Write ops) b = writes-end ops

bytes-end : (call : ByteCommand) (stage : ByteStage) (answer : Answer) → EndsBytes (turn_of_bytes call stage answer)
bytes-end call stage answer = by (block_given answer)
  where
    by : (o : Option (List ℕ)) → EndsBytes (turn_by call stage answer o)
    by None = tt
    by (Some b) = bytes-on call stage b

pub bytes-ends : (call : ByteCommand) (w : Option ByteStage) (answer : Answer) → EndsBytes (turn_from call w (Some answer))
bytes-ends call None answer = tt
bytes-ends call (Some stage) answer = bytes-end call stage answer

-- ---- nor does a call on names, and it asks for buckets alone

abbrev pub EndsNames : NameTurn → Type 0
EndsNames (name_turns.Sends op stage) = BlockInRange op
EndsNames (name_turns.Over (name_nexts.Send op)) = ⊥
EndsNames (name_turns.Over next) = ⊤

bucket-below : (name : List ℕ) → bucket_of name < most_blocks
bucket-below name = let m = mod_below (sum name) 32 (omega arith) in let z : sum name % 32 < 2520 = omega (arith, m) in z

below-all : (k : ℕ) → k < buckets → k < 2520
unfolding buckets
below-all k h = let b : k < 32 = h in omega (arith, b)

each-ends : (d : FileNo) (k : ℕ) (es : List Entry) → EndsNames (ask_each d k es)
each-ends d k es = elim (cases_Bool (nat_lt k buckets)) [
  | inl m ↦ (let below = below-all k (ltb-true k buckets m) in rw m below)
  | inr m ↦ rw m tt
]

refused-ends : (command : NameCommand) (refusal : NameRefusal) (o : Option (List Slot)) → EndsNames (write_made command (or_refused refusal o))
refused-ends command refusal None = tt
refused-ends command refusal (Some slots) = bucket-below (name_of command)

found-ends : (command : NameCommand) (o : Option FileNo) → EndsNames (write_made command (Err (found o)))
found-ends command None = tt
found-ends command (Some file) = tt

made-ends : (command : NameCommand) (o : Option (List Slot)) → EndsNames (write_made command (made_at command o))
made-ends command None = tt
made-ends (commands.Bind d name file) (Some slots) = refused-ends (commands.Bind d name file) BucketFull (bound_in name file slots)
made-ends (commands.Unbind d name) (Some slots) = refused-ends (commands.Unbind d name) NoName (unbound_in name slots)
made-ends (commands.Find d name) (Some slots) = found-ends (commands.Find d name) (find_in name slots)
made-ends (commands.Names d) (Some slots) = tt

add-ends : (d : FileNo) (k : ℕ) (es : List Entry) (o : Option (List Slot)) → EndsNames (add_each d k es o)
add-ends d k es None = tt
add-ends d k es (Some slots) = each-ends d (k + 1) (es ++ entries_of slots)

names-on : (command : NameCommand) (stage : NameStage) (block : List ℕ) → EndsNames (names_go_on command stage block)
names-on command name_stages.Bucket block = made-ends command (bucket_in (bucket_of (name_of command)) block)
names-on command (name_stages.Each k es) block = add-ends (directory_of command) k es (bucket_in k block)
names-on command name_stages.Write block = tt

names-end : (command : NameCommand) (stage : NameStage) (answer : Answer) → EndsNames (turn_of_names command stage answer)
names-end command stage answers.Did = names-on command stage zeros
names-end command stage (answers.Read block) = names-on command stage block
names-end command stage answers.NoFile = tt
names-end command stage answers.Exists = tt
names-end command stage (answers.Locked u t) = tt
names-end command stage answers.TooManyReads = tt
names-end command stage answers.TooManyWrites = tt
names-end command stage (answers.Broken u t) = tt
names-end command stage (answers.Lost then' now) = tt
names-end command stage answers.Closing = tt

first-of-names : (command : NameCommand) → EndsNames (first_of_names command)
first-of-names (commands.Bind d name file) = bucket-below name
first-of-names (commands.Unbind d name) = bucket-below name
first-of-names (commands.Find d name) = bucket-below name
first-of-names (commands.Names d) = each-ends d 0 []

pub names-ends : (command : NameCommand) (w : Option NameStage) (answer : Answer) → EndsNames (turn_of command w (Some answer))
names-ends command None answer = first-of-names command
names-ends command (Some stage) answer = names-end command stage answer

-- ---- what fits goes on so

bytes-fit : (c : ByteCalling) (t : ByteTurn) → BytesFit c.call → BytesTurnFits c.call t → TurnFits (of_bytes c t)
bytes-fit c (byte_turns.Sends op stage) fits h = (h.0.1, (fits, h.1))
bytes-fit c (byte_turns.Over next) fits h = tt

bytes-stay : (c : ByteCalling) (w : Option ByteStage) (answer : Answer) → BytesFit c.call → WaitFits c.call w → TurnFits (of_bytes c (turn_from c.call w (Some answer)))
bytes-stay c None answer fits stays = bytes-fit c (first_of_bytes c.call) fits (first_fits c.call)
bytes-stay c (Some stage) answer fits stays = bytes-fit c (turn_of_bytes c.call stage answer) fits (turn_fits c.call stage answer fits stays)

names-fit : (c : NameCalling) (t : NameTurn) → Named c.command → NamesTurnFits t → EndsNames t → TurnFits (of_names c t)
names-fit c (name_turns.Sends op stage) fits h e = (e, (fits, h))
names-fit c (name_turns.Over next) fits h e = tt

names-stay : (c : NameCalling) (w : Option NameStage) (answer : Answer) → Named c.command → TurnFits (of_names c (turn_of c.command w (Some answer)))
names-stay c None answer fits = names-fit c (first_of_names c.command) fits (names-first-fits c.command) (first-of-names c.command)
names-stay c (Some stage) answer fits = names-fit c (turn_of_names c.command stage answer) fits (names-turn-fits c.command stage answer) (names-end c.command stage answer)

pub stays : (state : CallState) (answer : Answer) → StateFits state → TurnFits (turn state answer)
stays (states.OfBytes c) answer h = bytes-stay c c.waits answer h.0 h.1
stays (states.OfNames c) answer h = names-stay c c.waits answer h.0

first-block : 0 < most_blocks
first-block = omega arith

each-first : 0 < buckets
unfolding buckets
each-first = omega arith

pub begins : (call : Call) → Fits call → BlockInRange (first_op call) × StateFits (begun call)
begins (OfBytes (ReadBytes f offset count)) h = (first-block, (h, tt))
begins (OfBytes (WriteBytes f offset bytes)) h = (first-block, (h, tt))
begins (OfNames (commands.Bind d name file)) h = (bucket-below name, (h, tt))
begins (OfNames (commands.Unbind d name)) h = (bucket-below name, (h, tt))
begins (OfNames (commands.Find d name)) h = (bucket-below name, (h, tt))
begins (OfNames (commands.Names d)) h = (bucket-below [], (h, each-first))

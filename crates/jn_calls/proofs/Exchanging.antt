-- An exchange of a call of either kind is one of its own kind.
use Rattle.std.proofs.Common.{◌≡◌, List, [], ◌∷◌, Some, refl, sym, ◌∙◌, ap, subst}
use Rattle.jn_base.specs.declared.call.ByteCommand.{ByteCommand}
use Rattle.jn_base.specs.declared.call.NameCommand.{NameCommand}
use Rattle.jn_base.specs.declared.call.NameCommand.TheVariants as commands
use Rattle.jn_base.specs.declared.call.Call.{Call}
use Rattle.jn_base.specs.declared.call.Call.TheVariants.{OfBytes, OfNames}
use Rattle.jn_order.specs.Files.{Files}
use Rattle.jn_order.specs.Changes.{files_then}
use Rattle.jn_order.specs.Answers.{Answered, ops_of, FilesAnswer}
use Rattle.jn_bytes.specs.declared.next.Next.{Next as ByteNext}
use Rattle.jn_bytes.specs.declared.stage.Turn.{Turn as ByteTurn}
use Rattle.jn_bytes.specs.declared.stage.Turn.TheVariants as byte_turns
use Rattle.jn_bytes.specs.Turns.{Calling as ByteCalling, begun as bytes_begun, first_turn as first_of_bytes, turn as turn_of_bytes}
use Rattle.jn_bytes.specs.Ranges.{Fits as BytesFit}
use Rattle.jn_bytes.specs.Exchanges.{GoesOn as BytesGoOn}
use Rattle.jn_bytes.proofs.Exchanging.{each-call as each-of-bytes}
use Rattle.jn_names.specs.declared.next.NameNext.{NameNext}
use Rattle.jn_names.specs.declared.turn.Turn.{Turn as NameTurn}
use Rattle.jn_names.specs.declared.turn.Turn.TheVariants as name_turns
unfoldable use Rattle.jn_names.specs.Names.{buckets}
use Rattle.jn_names.specs.Turns.{Calling as NameCalling, begun as names_begun, first_turn as first_of_names, turn as turn_of_names, GoesOn as NamesGoOn}
use Rattle.jn_names.proofs.Exchanging.{each-call as each-of-names}
use Rattle.jn_calls.specs.declared.reply.Reply.{Reply}
use Rattle.jn_calls.specs.declared.reply.Reply.TheVariants as replies
use Rattle.jn_calls.specs.declared.reply.Wish.TheVariants as wishes
use Rattle.jn_calls.specs.Calls.{reply_to, files_by, Fits}
use Rattle.jn_calls.specs.Turns.{Turn, Asks, first_op, begun, of_bytes, of_names, GoesOn, IsExchange}

-- ---- bytes

record EndsOfBytes (c : ByteCalling) (t : ByteTurn) (os : List Answered) (reply : Reply) : Type 0 where
  next : ByteNext
  is : reply ≡ replies.OfBytes next
  goes : BytesGoOn c.call t os next

bytes-go : (c : ByteCalling) (t : ByteTurn) (os : List Answered) (reply : Reply) → GoesOn (of_bytes c t) os reply → EndsOfBytes c t os reply
bytes-go c (byte_turns.Over next) [] reply h = record { next = next; is = sym h; goes = refl }
bytes-go c (byte_turns.Over next) (a ∷ more) reply h = absurd h
bytes-go c (byte_turns.Sends op stage) [] reply h = absurd h
bytes-go c (byte_turns.Sends op stage) (a ∷ more) reply h =
    let r = bytes-go (record c { waits = Some stage }) (turn_of_bytes c.call stage a.answer) more reply h.1 in
    record { next = r.next; is = r.is; goes = (h.0, r.goes) }

bytes-exchange : (command : ByteCommand) (files : Files) (os : List Answered) (reply : Reply) → BytesFit command → FilesAnswer files os → IsExchange (OfBytes command) os reply
    → (reply ≡ reply_to (wishes.Call (OfBytes command)) files) × (files_then (ops_of os) files ≡ files_by (wishes.Call (OfBytes command)) files)
bytes-exchange command files os reply fits answer h =
    let r = bytes-go (bytes_begun command) (first_of_bytes command) os reply h in
    let e = (each-of-bytes command files fits).each os r.next answer r.goes in
    (r.is ∙ ap (λ n. replies.OfBytes n) e.0, e.1)

-- ---- names

record EndsOfNames (c : NameCalling) (t : NameTurn) (os : List Answered) (reply : Reply) : Type 0 where
  next : NameNext
  is : reply ≡ replies.OfNames next
  goes : NamesGoOn c.command t os next

names-go : (c : NameCalling) (t : NameTurn) (os : List Answered) (reply : Reply) → GoesOn (of_names c t) os reply → EndsOfNames c t os reply
names-go c (name_turns.Over next) [] reply h = record { next = next; is = sym h; goes = refl }
names-go c (name_turns.Over next) (a ∷ more) reply h = absurd h
names-go c (name_turns.Sends op stage) [] reply h = absurd h
names-go c (name_turns.Sends op stage) (a ∷ more) reply h =
    let r = names-go (record c { waits = Some stage }) (turn_of_names c.command stage a.answer) more reply h.1 in
    record { next = r.next; is = r.is; goes = (h.0, r.goes) }

pub names-begin : (command : NameCommand) → Asks (first_op (OfNames command)) (begun (OfNames command)) ≡ of_names (names_begun command) (first_of_names command)
unfolding buckets
names-begin (commands.Bind d name file) = refl
names-begin (commands.Unbind d name) = refl
names-begin (commands.Find d name) = refl
names-begin (commands.Names d) = refl

names-exchange : (command : NameCommand) (files : Files) (os : List Answered) (reply : Reply) → FilesAnswer files os → IsExchange (OfNames command) os reply
    → (reply ≡ reply_to (wishes.Call (OfNames command)) files) × (files_then (ops_of os) files ≡ files_by (wishes.Call (OfNames command)) files)
names-exchange command files os reply answer h =
    let g = subst (λ (t : Turn). GoesOn t os reply) (names-begin command) h in
    let r = names-go (names_begun command) (first_of_names command) os reply g in
    let e = (each-of-names command files).each os r.next answer r.goes in
    (r.is ∙ ap (λ n. replies.OfNames n) e.0, e.1)

-- ---- both

pub is-its-call : (call : Call) (files : Files) (os : List Answered) (reply : Reply) → Fits call → FilesAnswer files os → IsExchange call os reply
    → (reply ≡ reply_to (wishes.Call call) files) × (files_then (ops_of os) files ≡ files_by (wishes.Call call) files)
is-its-call (OfBytes command) files os reply fits answer h = bytes-exchange command files os reply fits answer h
is-its-call (OfNames command) files os reply fits answer h = names-exchange command files os reply answer h

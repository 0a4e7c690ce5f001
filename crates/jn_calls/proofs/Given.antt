-- What the code of a call of one kind gives out is what a call of either kind does.
use Rattle.std.proofs.Common.{◌≡◌, Option, Some, None, refl, ◌∙◌, ap, subst}
use Rattle.jn_base.specs.declared.op.Answer.{Answer}
use Rattle.jn_base.specs.declared.call.ByteCommand.{ByteCommand}
use Rattle.jn_base.specs.declared.call.NameCommand.{NameCommand}
use Rattle.jn_base.specs.declared.call.NameCommand.TheVariants as commands
use Rattle.jn_base.specs.declared.call.Call.TheVariants.{OfBytes, OfNames}
use Rattle.jn_bytes.specs.declared.next.Next.{Next as ByteNext}
use Rattle.jn_bytes.specs.declared.next.Next.TheVariants as byte_nexts
use Rattle.jn_bytes.specs.declared.stage.Turn.{Turn as ByteTurn}
use Rattle.jn_bytes.specs.declared.stage.Turn.TheVariants as byte_turns
use Rattle.jn_bytes.specs.Turns.{Calling as ByteCalling, begun as bytes_begun, turn_after, next_of, waiting}
use Rattle.jn_names.specs.declared.next.NameNext.{NameNext}
use Rattle.jn_names.specs.declared.next.NameNext.TheVariants as name_nexts
use Rattle.jn_names.specs.declared.turn.Stage.{Stage as NameStage}
use Rattle.jn_names.specs.declared.turn.Turn.{Turn as NameTurn}
use Rattle.jn_names.specs.declared.turn.Turn.TheVariants as name_turns
unfoldable use Rattle.jn_names.specs.Names.{buckets}
use Rattle.jn_names.specs.Turns.{Calling as NameCalling, begun as names_begun, first_turn as first_of_names, turn_of, given as names_given}
use Rattle.jn_calls.specs.declared.reply.CallNext.{CallNext}
use Rattle.jn_calls.specs.declared.state.CallState.TheVariants as states
use Rattle.jn_calls.specs.Turns.{begun, of_bytes, of_names, turn, given, next_of_bytes, next_of_names}
use Rattle.jn_calls.proofs.Fitting.{EndsBytes, EndsNames, bytes-ends, names-ends}

bytes-given : (c : ByteCalling) (t : ByteTurn) → EndsBytes t → (next_of_bytes (next_of t), states.OfBytes (waiting c t)) ≡ given (states.OfBytes c) (of_bytes c t)
bytes-given c (byte_turns.Sends op stage) e = refl
bytes-given c (byte_turns.Over (byte_nexts.Send op)) e = absurd e
bytes-given c (byte_turns.Over (byte_nexts.Done bytes)) e = refl
bytes-given c (byte_turns.Over byte_nexts.Did) e = refl
bytes-given c (byte_turns.Over (byte_nexts.Refused refusal)) e = refl

pub bytes_given : (c now : ByteCalling) (answer : Answer) (next : ByteNext) (out : CallNext) → next ≡ next_of (turn_after c (Some answer)) → now ≡ waiting c (turn_after c (Some answer)) → out ≡ next_of_bytes next
    → (out, states.OfBytes now) ≡ given (states.OfBytes c) (turn (states.OfBytes c) answer)
bytes_given c now answer next out n w o =
    rw (o, n, w) (bytes-given c (turn_after c (Some answer)) (bytes-ends c.call c.waits answer))

pub bytes_start : (command : ByteCommand) (old now : ByteCalling) → old ≡ bytes_begun command → now ≡ waiting old (turn_after old None) → states.OfBytes now ≡ begun (OfBytes command)
bytes_start command old now e w = rw (w, e) refl

same-calling : (now : NameCalling) (command : NameCommand) (w : Option NameStage) → now.command ≡ command → now.waits ≡ w → now ≡ record { command = command; waits = w }
same-calling now command w e f = λ i. record { command = e i; waits = f i }

names-given : (c : NameCalling) (t : NameTurn) → EndsNames t → (next_of_names (names_given t).0, states.OfNames (record { command = c.command; waits = (names_given t).1 })) ≡ given (states.OfNames c) (of_names c t)
names-given c (name_turns.Sends op stage) e = refl
names-given c (name_turns.Over (name_nexts.Send op)) e = absurd e
names-given c (name_turns.Over name_nexts.Did) e = refl
names-given c (name_turns.Over (name_nexts.Found file)) e = refl
names-given c (name_turns.Over (name_nexts.Names es)) e = refl
names-given c (name_turns.Over (name_nexts.Refused refusal)) e = refl

pub names_given_out : (c now : NameCalling) (answer : Answer) (next : NameNext) (out : CallNext) → (next, now.waits) ≡ names_given (turn_of c.command c.waits (Some answer)) → now.command ≡ c.command → out ≡ next_of_names next
    → (out, states.OfNames now) ≡ given (states.OfNames c) (turn (states.OfNames c) answer)
names_given_out c now answer next out g d o =
    let t : NameTurn = turn_of c.command c.waits (Some answer) in
    let is : now ≡ record { command = c.command; waits = (names_given t).1 } = same-calling now c.command (names_given t).1 d (ap (λ (p : NameNext × Option NameStage). p.1) g) in
    let first : next ≡ (names_given t).0 = ap (λ (p : NameNext × Option NameStage). p.0) g in
    rw (o, first, is) (names-given c t (names-ends c.command c.waits answer))

started : (command : NameCommand) → states.OfNames (record { command = command; waits = (names_given (first_of_names command)).1 }) ≡ begun (OfNames command)
unfolding buckets
started (commands.Bind d name file) = refl
started (commands.Unbind d name) = refl
started (commands.Find d name) = refl
started (commands.Names d) = refl

pub names_start : (command : NameCommand) (old now : NameCalling) (next : NameNext) → old ≡ names_begun command → (next, now.waits) ≡ names_given (turn_of old.command old.waits None) → now.command ≡ old.command
    → states.OfNames now ≡ begun (OfNames command)
names_start command old now next e g d =
    let h : (next, now.waits) ≡ names_given (first_of_names command) = subst (λ (o : NameCalling). (next, now.waits) ≡ names_given (turn_of o.command o.waits None)) e g in
    let is = same-calling now command (names_given (first_of_names command)).1 (d ∙ ap (λ (o : NameCalling). o.command) e) (ap (λ (p : NameNext × Option NameStage). p.1) h) in
    ap (λ (c : NameCalling). states.OfNames c) is ∙ started command

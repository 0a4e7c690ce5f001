-- Each answer to a client answers its outstanding order, a command or a call, in a form of that order, and an order that its client refuses is
-- refused once.
use Rattle.std.specs.Prelude.{◌≡◌, ℕ, ◌+◌, ◌≤◌, Bool, true, false, nat_eq, nat_lt, ◌&&◌, ◌||◌, not, if◌then◌else◌, List, [], ◌∷◌, length, Option, Some, None}
use Rattle.jn_base.specs.declared.names.ClientNo.{ClientNo}
use Rattle.jn_base.specs.declared.op.Op.{Op}
use Rattle.jn_base.specs.declared.op.Op.TheVariants as ops
use Rattle.jn_base.specs.declared.op.Command.{Command}
use Rattle.jn_base.specs.declared.op.Command.TheVariants as commands
use Rattle.jn_base.specs.declared.call.ByteCommand.{ByteCommand}
use Rattle.jn_base.specs.declared.call.ByteCommand.TheVariants.{ReadBytes, WriteBytes}
use Rattle.jn_base.specs.declared.call.Call.{Call}
use Rattle.jn_base.specs.declared.call.Call.TheVariants.{OfBytes, OfNames}
use Rattle.jn_base.specs.Names.{client_eq}
use Rattle.jn_calls.specs.declared.order.Order.{Order}
use Rattle.jn_calls.specs.declared.order.Order.TheVariants as orders
use Rattle.jn_replay.specs.Replies.{bytes_fit}
use Rattle.jn_schedule.specs.declared.Event.{Event}
use Rattle.jn_schedule.specs.declared.Event.TheVariants as events
use Rattle.jn_report.specs.declared.line.When.{When}
use Rattle.jn_report.specs.declared.line.When.TheVariants.{Event as AtEvent, End}
use Rattle.jn_report.specs.declared.line.Refusal.{Refusal}
use Rattle.jn_report.specs.declared.line.Refusal.TheVariants as refusals
use Rattle.jn_report.specs.declared.line.Text.{Text}
use Rattle.jn_report.specs.declared.line.Text.TheVariants as says
use Rattle.jn_report.specs.declared.line.Line.{Line}
pub use Rattle.jn_serial.specs.declared.following.Asked.{Asked}
use Rattle.jn_report.specs.declared.kinds.Addressed.{Addressed}
use Rattle.jn_serial.specs.Lines.{lines_at, says, count_lines}
use Rattle.jn_report.specs.Kinds.{is_answer, is_own, is_own_refusal, answer_in}

-- what each client waits for
abbrev pub Outstanding : Type 0
Outstanding = ClientNo → Option Asked

abbrev pub nothing_asked : Outstanding
nothing_asked c = None

abbrev pub with_asked : Outstanding → ClientNo → Option Asked → Outstanding
with_asked out c x d = if client_eq c d then x else out d

-- which operations a refusal can answer
abbrev pub can_have : Refusal → Op → Bool
can_have refusals.NoFile (ops.Create f) = false
can_have refusals.NoFile _ = true
can_have refusals.Exists (ops.Create f) = true
can_have refusals.Exists _ = false
can_have (refusals.Locked u t) op = true
can_have refusals.TooManyReads op = true
can_have refusals.TooManyWrites (ops.Read f p) = false
can_have refusals.TooManyWrites _ = true
can_have (refusals.Broken u t) op = true
can_have (refusals.Lost epoch now) op = true
can_have refusals.Closing op = true
can_have _ op = false

abbrev pub is_read : Op → Bool
is_read (ops.Read f p) = true
is_read _ = false

-- which texts answer a command
abbrev pub answers_command : Command → Text → Bool
answers_command (commands.Begin s) (says.Begun c j t) = true
answers_command (commands.Begin s) (says.Refused c j refusals.TooManyTransactions) = true
answers_command (commands.Open s) (says.Opened c j r) = true
answers_command (commands.Open s) (says.Refused c j refusals.TooManyWorks) = true
answers_command (commands.Do s op) (says.Did c j) = not (is_read op)
answers_command (commands.Do s op) (says.Read c j bytes) = is_read op
answers_command (commands.Do s op) (says.Refused c j refusal) = can_have refusal op
answers_command commands.End (says.Waiting c j s u t) = true
answers_command commands.End (says.Committed c j t) = true
answers_command commands.End (says.Aborted c j t cause) = true
answers_command commands.Abort (says.Committed c j t) = true
answers_command commands.Abort (says.Aborted c j t cause) = true
answers_command command text = false

-- the refusals that a read of a call can have
abbrev pub is_of_reads : Refusal → Bool
is_of_reads refusals.NoFile = true
is_of_reads (refusals.Locked u t) = true
is_of_reads refusals.TooManyReads = true
is_of_reads (refusals.Broken u t) = true
is_of_reads (refusals.Lost epoch now) = true
is_of_reads refusals.Closing = true
is_of_reads _ = false

-- which calls on bytes a refusal can answer: of a write that it begins behind the end, or, where it has bytes, that they can't be written
abbrev pub bytes_can_have : ByteCommand → Refusal → Bool
bytes_can_have command refusals.NotBytes = true
bytes_can_have (WriteBytes f offset bytes) (refusals.PastEnd n) = true
bytes_can_have (WriteBytes f offset bytes) refusals.TooManyWrites = nat_lt 0 (length bytes)
bytes_can_have command refusal = is_of_reads refusal

-- which texts answer a call on bytes
abbrev pub answers_bytes : ByteCommand → Text → Bool
answers_bytes (ReadBytes f offset count) (says.Bytes c j bytes) = true
answers_bytes (WriteBytes f offset bytes) (says.Did c j) = true
answers_bytes command (says.Refused c j refusal) = bytes_can_have command refusal
answers_bytes command text = false

-- A call that no client makes is answered by none. Nor is one on names: no schedule has any.
abbrev pub answers_call : Call → Text → Bool
answers_call (OfBytes command) text = bytes_fit command && answers_bytes command text
answers_call (OfNames command) text = false

abbrev pub answers_order : Order → Text → Bool
answers_order (orders.Command command) text = answers_command command text
answers_order (orders.Call s call) text = answers_call call text

-- whether it is the last answer
abbrev pub is_last : Text → Bool
is_last (says.Waiting c j s u t) = false
is_last _ = true

abbrev pub fits_asked : Option Asked → ℕ → Text → Bool
fits_asked None j text = false
fits_asked (Some a) j text = nat_eq a.number j && answers_order a.order text

abbrev pub fits : Outstanding → Option Addressed → Text → Bool
fits out None text = true
fits out (Some a) text = fits_asked (out a.client) a.number text

abbrev pub after_answer : Outstanding → Option Addressed → Text → Outstanding
after_answer out None text = out
after_answer out (Some a) text = if is_last text then with_asked out a.client None else out

-- the answers of an event, one after another, answer what is outstanding
abbrev pub AllFit : Outstanding → List Line → Type 0
AllFit out [] = Unit {0}
AllFit out (l ∷ ls) = (fits out (answer_in l.text) l.text ≡ true) × AllFit (after_answer out (answer_in l.text) l.text) ls

abbrev pub after_answers : Outstanding → List Line → Outstanding
after_answers out [] = out
after_answers out (l ∷ ls) = after_answers (after_answer out (answer_in l.text) l.text) ls

-- a command that its client refused
abbrev pub refuses_own : ClientNo → ℕ → Text → Bool
refuses_own c number (says.Refused d j refusal) = is_own refusal && (client_eq c d && nat_eq number j)
refuses_own c number _ = false

-- what is outstanding once an event's order is given: it replaces what was
abbrev pub after_event : Outstanding → ℕ → Event → List Line → Outstanding
after_event out number (events.Command c command) lines =
    if says (refuses_own c number) lines then out else with_asked out c (Some (record { number = number; order = orders.Command command }))
after_event out number (events.Call c s call) lines =
    if says (refuses_own c number) lines then out else with_asked out c (Some (record { number = number; order = orders.Call s call }))
after_event out number _ lines = out

abbrev pub is_command_of : Event → ClientNo → Bool
is_command_of (events.Command c command) d = client_eq c d
is_command_of (events.Call c s call) d = client_eq c d
is_command_of _ d = false

-- the client's own refusals stand in the command's own event
abbrev pub own_in_place : ℕ → Event → Text → Bool
own_in_place number e (says.Refused c j refusal) = not (is_own refusal) || (nat_eq number j && is_command_of e c)
own_in_place number e _ = true

abbrev pub AllOwnInPlace : ℕ → Event → List Line → Type 0
AllOwnInPlace number e [] = Unit {0}
AllOwnInPlace number e (l ∷ ls) = (own_in_place number e l.text ≡ true) × AllOwnInPlace number e ls

-- a client's own refusals in an event are of this event's command, so it is refused once at most
pub record FollowsEvent (out : Outstanding) (number : ℕ) (e : Event) (lines : List Line) : Type 0 where
  pub fit : AllFit (after_event out number e lines) lines
  pub own : AllOwnInPlace number e lines
  pub once : count_lines is_own_refusal lines ≤ 1

-- what is outstanding after an event and its lines
abbrev pub after_one : Outstanding → ℕ → Event → List Line → Outstanding
after_one out number e lines = after_answers (after_event out number e lines) lines

abbrev pub FollowsFrom : Outstanding → ℕ → List Event → List Line → Type 0
FollowsFrom out number [] lines = Unit {0}
FollowsFrom out number (e ∷ es) lines =
    FollowsEvent out number e (lines_at (AtEvent number) lines)
    × FollowsFrom (after_one out number e (lines_at (AtEvent number) lines)) (number + 1) es lines

abbrev pub IsOfEvent : ℕ → When → Type 0
IsOfEvent count (AtEvent i) = (1 ≤ i) × (i ≤ count)
IsOfEvent count End = ⊥

-- every answer stands at an event
abbrev pub AllOfEvents : ℕ → List Line → Type 0
AllOfEvents count [] = Unit {0}
AllOfEvents count (l ∷ ls) = (is_answer l.text ≡ true → IsOfEvent count l.when) × AllOfEvents count ls

pub record Follows (events : List Event) (lines : List Line) : Type 0 where
  pub answers : FollowsFrom nothing_asked 1 events lines
  pub of_events : AllOfEvents (length events) lines

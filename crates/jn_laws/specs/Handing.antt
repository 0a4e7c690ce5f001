-- A message that is handed over, and its answer in that event.
use Rattle.std.specs.Prelude.{◌≡◌, ◌<◌, ℕ, Bool, true, false, List, [], ◌∷◌, ◌++◌, length, slice_get, Option, Some, None, is_some}
use Rattle.jn_base.specs.declared.names.ServerNo.{ServerNo}
use Rattle.jn_base.specs.declared.names.Party.{Party}
use Rattle.jn_base.specs.declared.names.Party.TheVariants.{Client, Server}
use Rattle.jn_base.specs.declared.names.Tid.{Tid}
use Rattle.jn_base.specs.declared.names.WorkId.{WorkId}
use Rattle.jn_base.specs.Names.{work_eq}
use Rattle.jn_msgs.specs.declared.message.Message.{Message}
use Rattle.jn_schedule.specs.declared.Event.{Event}
use Rattle.jn_schedule.specs.declared.Event.TheVariants as events
use Rattle.jn_report.specs.declared.line.Text.{Text}
use Rattle.jn_report.specs.declared.line.Text.TheVariants as says
use Rattle.jn_rows.specs.declared.client.Taken.{Taken}
use Rattle.jn_rows.specs.declared.client.Taken.TheVariants as taken
use Rattle.jn_rows.specs.declared.coordinator.Transaction.{Transaction}
use Rattle.jn_rows.specs.declared.coordinator.Stage.TheVariants.{Voting}
use Rattle.jn_rows.specs.declared.coordinator.Voting.{Voting as Ballot}
use Rattle.jn_rows.specs.Stable.{Pick, stable, made_all}
use Rattle.jn_rows.specs.Outcomes.{RowOutcome, Sent, ignored}
use Rattle.jn_rows.specs.Client.{take_row}
use Rattle.jn_rows.specs.Coordinator.{transaction_at, is_work, commits, committed_to}
use Rattle.jn_page_state.specs.Pages.{heads_on}
use Rattle.jn_records.specs.MapPlaces.{maps_in}
use Rattle.jn_server.specs.Standing.{free_on}
use Rattle.jn_system.specs.WholeSystem.World.{World, Memory}
use Rattle.jn_system.specs.WholeSystem.Servers.{Room, server_row, lines_of}
use Rattle.jn_system.specs.WholeSystem.Steps.{sent_now}
use Rattle.jn_machine.specs.Chances.{Setup, Chance}
use Rattle.jn_machine.specs.Devices.{pages_of, rubbish_on}
use Rattle.jn_machine.specs.Events.{next_in, deed_of}
use Rattle.jn_machine.specs.Runs.{Moment, DoesStep}
use Rattle.jn_machine.specs.Steps.{outside_texts, message_texts, traced, most_messages}
use Rattle.jn_report.specs.Lines.{lines_at}
use Rattle.jn_machine.specs.Tasks.{Task, Meets, Acts, Rests, State, when_of}

-- ---- which message a step hands over

-- the number of the message that an event hands over
abbrev pub number_in : Option Event → Option ℕ
number_in (Some (events.Deliver k)) = Some k
number_in event = None

-- the number of the one that a task hands over: as an event of the schedule, or as the next one of a settle
abbrev pub number_by : Setup → Chance → Task → State → Option ℕ
number_by x h (Meets event) s = number_in (Some event)
number_by x h (Acts event) s = number_in (Some event)
number_by x h Rests s = number_in (next_in x h.rubbish s.course)
number_by x h task s = None

-- The step hands over the message of this number, which is for this client or server. The clients' own tables are the system's, as at each moment of a run.
pub record HandsOver (x : Setup) (a b : Moment) (d : DoesStep x a b) (k : ℕ) (to : Party) (message : Message) : Type 0 where
  pub number : number_by x d.chance d.task a.state ≡ Some k
  pub is : slice_get a.state.course.world.sent k ≡ Some (to, message)
  pub tables : a.state.clients ≡ a.state.course.world.clients

-- ---- what its row answers

-- lines, but for those of messages, and the messages that are sent
pub record Answer : Type 0 where
  pub texts : List Text
  pub messages : List Sent

abbrev pub tells_alone : Text → Answer
tells_alone text = record { texts = text ∷ []; messages = [] }

-- how much is free and not promised on a server's pages, which map pages are there, and whether a rubbish record is left
abbrev pub room_on : Setup → Moment → ServerNo → Memory → Room
room_on x m q memory = record {
  free = free_on (x.counts q) (pages_of (m.devices q)) (stable (m.state.course.world.found q)) memory;
  maps = maps_in (heads_on (x.counts q) (pages_of (m.devices q)));
  rubbish = rubbish_on x m.devices q;
}

-- the row of a server that is up, over what stands on its pages
abbrev pub row_on : Setup → Moment → ServerNo → Memory → Message → RowOutcome Memory
row_on x m q memory message = server_row memory (stable (m.state.course.world.found q)) (room_on x m q memory) message

abbrev pub of_row : ServerNo → ℕ → RowOutcome Memory → Answer
of_row q k row = record { texts = lines_of q (Some k) row.notes; messages = row.messages }

-- a server that is down loses it
abbrev pub of_server : Setup → Moment → ℕ → ServerNo → Message → Option Memory → Answer
of_server x m k q message None = tells_alone (says.Lost k)
of_server x m k q message (Some memory) = of_row q k (row_on x m q memory message)

abbrev pub of_taken : ℕ → Taken → Answer
of_taken k taken.Ignored = tells_alone (says.Ignored k)
of_taken k (taken.Send to message) = record { texts = []; messages = (to, message) ∷ [] }
of_taken k (taken.Told line answer) = record { texts = line ∷ []; messages = sent_now answer }

abbrev pub its_answer : Setup → Moment → ℕ → Party → Message → Answer
its_answer x m k (Client c) message = of_taken k (take_row (m.state.clients c) message).1
its_answer x m k (Server q) message = of_server x m k q message (m.state.course.world.memory q)

-- ---- in the event

-- the faults that the step's device reports while it is called
abbrev pub faults_in : (x : Setup) (a b : Moment) → DoesStep x a b → List Text
faults_in x a b d = outside_texts (deed_of x d.chance d.task a.state).device d.chance.told

-- The step gives just this answer, in the event under way: behind the faults that its device reports stand the answer's lines, and those of its
-- messages where they are asked for; and just its messages are sent.
pub record IsGiven (x : Setup) (a b : Moment) (d : DoesStep x a b) (from : Party) (answer : Answer) : Type 0 where
  pub lines : b.state.lines ≡ a.state.lines ++ lines_at (when_of a.state) (faults_in x a b d ++ answer.texts ++ traced x.trace (message_texts from (length a.state.course.world.sent) answer.messages))
  pub sent : b.state.course.world.sent ≡ a.state.course.world.sent ++ answer.messages

-- and the server has the table and the changes of its row
pub record IsDone (a b : Moment) (q : ServerNo) (row : RowOutcome Memory) : Type 0 where
  pub table : b.state.course.world.memory q ≡ Some row.table
  pub changes : (c : Pick) → b.state.course.world.found q c ≡ made_all row.changes (a.state.course.world.found q c)

-- a client takes it as its table says
abbrev pub IsTaken : Moment → Moment → Party → Message → Type 0
IsTaken a b (Client c) message = b.state.clients c ≡ (take_row (a.state.clients c) message).0
IsTaken a b (Server q) message = Unit {0}

-- the server that it is for was up and is down behind the step
abbrev pub IsStopped : Moment → Moment → Party → Type 0
IsStopped a b (Client c) = ⊥
IsStopped a b (Server q) = (is_some (a.state.course.world.memory q) ≡ true) × (b.state.course.world.memory q ≡ None)

-- then nothing is reported but that, and nothing is sent
abbrev pub stopped_at : Party → Answer
stopped_at (Client c) = record { texts = []; messages = [] }
stopped_at (Server q) = tells_alone (says.Stopped q)

-- the answer's messages would be too many
pub record IsTooLong (a b : Moment) (answer : Answer) : Type 0 where
  pub lines : b.state.lines ≡ a.state.lines
  pub sent : b.state.course.world.sent ≡ a.state.course.world.sent
  pub many : most_messages < length (a.state.course.world.sent ++ answer.messages)

-- ---- stale messages

-- the table of the one that it is for ignores it
abbrev pub IsStale : Setup → Moment → Party → Message → Type 0
IsStale x m (Client c) message = take_row (m.state.clients c) message ≡ (m.state.clients c, taken.Ignored)
IsStale x m (Server q) message = (memory : Memory) × (m.state.course.world.memory q ≡ Some memory) × (row_on x m q memory message ≡ ignored memory memory.tickets)

-- a message is reported as ignored
abbrev pub tells_ignored : Text → Bool
tells_ignored (says.Ignored k) = true
tells_ignored text = false

-- ---- the last Ready

-- the transaction's works vote in this ballot, at a server that is up
pub record IsVoting (w : World) (q : ServerNo) (T : Tid) : Type 0 where
  pub memory : Memory
  pub up : w.memory q ≡ Some memory
  pub transaction : Transaction
  pub is : transaction_at T memory.coordinator.transactions ≡ Some transaction
  pub ballot : Ballot
  pub votes : transaction.stage ≡ Voting ballot

-- the work is of the ballot, and each other one of it has voted ready
pub record IsLast (W : WorkId) (b : Ballot) : Type 0 where
  pub its : is_work W b.works ≡ true
  pub others : (V : WorkId) → is_work V b.works ≡ true → work_eq V W ≡ false → is_work V b.ready ≡ true

-- the commit has its line, each work is told to commit, and the client that it has committed
abbrev pub commits_with : Tid → Transaction → Ballot → Answer
commits_with T t b = record { texts = says.Commit T ∷ []; messages = commits T b.works ++ committed_to t ∷ [] }

-- The order of commits: what a report's transactions did, one after another, and whether their answers are that order's. Operation by
-- operation, and then with calls, of which each counts once.
use Rattle.std.specs.Prelude.{ℕ, ◌+◌, nat_eq, Bool, true, false, ◌&&◌, if◌then◌else◌, List, [], ◌∷◌, ◌++◌, Option, Some, None, option_map}
use Rattle.jn_base.specs.declared.names.ServerNo.{ServerNo}
use Rattle.jn_base.specs.declared.names.ClientNo.{ClientNo}
use Rattle.jn_base.specs.declared.names.Tid.{Tid}
use Rattle.jn_base.specs.declared.op.Op.{Op}
use Rattle.jn_base.specs.declared.op.Answer.{Answer}
use Rattle.jn_base.specs.declared.op.Answer.TheVariants as answers
use Rattle.jn_base.specs.declared.op.Command.TheVariants.{Do}
use Rattle.jn_base.specs.declared.call.NameCommand.{NameCommand}
use Rattle.jn_base.specs.declared.call.NameCommand.TheVariants.{Names}
use Rattle.jn_base.specs.declared.call.Call.{Call}
use Rattle.jn_base.specs.declared.call.Call.TheVariants.{OfBytes, OfNames}
use Rattle.jn_base.specs.Names.{client_eq, is_name}
use Rattle.jn_order.specs.Files.{AllFiles}
use Rattle.jn_order.specs.Changes.{or_also}
use Rattle.jn_bytes.specs.declared.next.Next.TheVariants as byte_nexts
use Rattle.jn_bytes.specs.declared.next.ByteRefusal.TheVariants as byte_refusals
use Rattle.jn_names.specs.declared.entry.Entry.{Entry}
use Rattle.jn_names.specs.declared.next.NameNext.{NameNext}
use Rattle.jn_names.specs.declared.next.NameNext.TheVariants as name_nexts
use Rattle.jn_names.specs.declared.next.NameRefusal.TheVariants as name_refusals
use Rattle.jn_calls.specs.declared.reply.Reply.{Reply}
use Rattle.jn_calls.specs.declared.reply.Reply.TheVariants as replies
use Rattle.jn_calls.specs.declared.reply.Wish.{Wish}
use Rattle.jn_calls.specs.declared.reply.Wish.TheVariants as wishes
use Rattle.jn_replay.specs.declared.files.Performed.{Performed}
use Rattle.jn_replay.specs.declared.replied.Replied.{Replied}
use Rattle.jn_replay.specs.Operations.{files_then, GivesAnswers}
use Rattle.jn_replay.specs.Replies.{call_fits, files_by_all, GivesReplies}
use Rattle.jn_schedule.specs.declared.Event.{Event}
use Rattle.jn_schedule.specs.declared.Event.TheVariants.{Command, Call as CallAt}
use Rattle.jn_report.specs.declared.kinds.Addressed.{Addressed}
use Rattle.jn_report.specs.Kinds.{answer_in}
use Rattle.jn_report.specs.declared.line.Refusal.TheVariants as refusals
use Rattle.jn_report.specs.declared.line.Text.{Text}
use Rattle.jn_report.specs.declared.line.Text.TheVariants as says
use Rattle.jn_report.specs.declared.line.Line.{Line}
use Rattle.jn_serial.specs.Lines.{history_of}
use Rattle.jn_serial.specs.Begun.{is_in}

-- the answer from the files that a line gives to the client's command of event j, if it gives one
abbrev pub answer_told : ClientNo → ℕ → Text → Option Answer
answer_told c j (says.Did d k) = if client_eq c d && nat_eq j k then Some answers.Did else None
answer_told c j (says.Read d k bytes) = if client_eq c d && nat_eq j k then Some (answers.Read bytes) else None
answer_told c j (says.Refused d k refusals.NoFile) = if client_eq c d && nat_eq j k then Some answers.NoFile else None
answer_told c j (says.Refused d k refusals.Exists) = if client_eq c d && nat_eq j k then Some answers.Exists else None
answer_told c j _ = None

-- the first line that gives one counts
abbrev pub first_answer_told : ClientNo → ℕ → List Line → Option Answer
first_answer_told c j [] = None
first_answer_told c j (l ∷ ls) = or_also (answer_told c j l.text) (first_answer_told c j ls)

abbrev pub performed : ServerNo → Op → Option Answer → List Performed
performed s op None = []
performed s op (Some a) = (record { server = s; op = op; answer = a }) ∷ []

-- what T did in event j: the operation of a client that is in T, where it was answered from the files
abbrev pub operation_in : Tid → List Line → ℕ → Event → List Performed
operation_in t lines j (Command c (Do s op)) = if is_in c t j lines then performed s op (first_answer_told c j lines) else []
operation_in t lines j _ = []

-- what T did in these events, numbered from j on
abbrev pub operations_from : Tid → List Line → ℕ → List Event → List Performed
operations_from t lines j [] = []
operations_from t lines j (e ∷ es) = operation_in t lines j e ++ operations_from t lines (j + 1) es

-- the operations of a transaction that the files answered, each once, in the order of their events, each with its answer
abbrev pub operations_of : List Event → List Line → Tid → List Performed
operations_of events lines t = operations_from t lines 1 events

-- the files after these transactions, one after another
abbrev pub replay_operations : AllFiles → List Event → List Line → List Tid → AllFiles
replay_operations files events lines [] = files
replay_operations files events lines (t ∷ ts) = replay_operations (files_then (operations_of events lines t) files) events lines ts

abbrev pub OperationsAgreeFrom : AllFiles → List Event → List Line → List Tid → Type 0
OperationsAgreeFrom files events lines [] = Unit {0}
OperationsAgreeFrom files events lines (t ∷ ts) =
    GivesAnswers files (operations_of events lines t) × OperationsAgreeFrom (files_then (operations_of events lines t) files) events lines ts

-- each answer from the files to a committed transaction is that of the commits run one after another
abbrev pub OperationsAgree : AllFiles → List Event → List Line → Type 0
OperationsAgree files events lines = OperationsAgreeFrom files events lines (history_of lines)

-- ---- with calls

-- the reply that a text gives to a call on bytes, if it gives one
abbrev pub bytes_reply : Text → Option Reply
bytes_reply (says.Bytes c j bytes) = Some (replies.OfBytes (byte_nexts.Done bytes))
bytes_reply (says.Did c j) = Some (replies.OfBytes byte_nexts.Did)
bytes_reply (says.Refused c j refusals.NoFile) = Some (replies.OfBytes (byte_nexts.Refused (byte_refusals.Operation answers.NoFile)))
bytes_reply (says.Refused c j refusals.Exists) = Some (replies.OfBytes (byte_nexts.Refused (byte_refusals.Operation answers.Exists)))
bytes_reply (says.Refused c j refusals.NotBytes) = Some (replies.OfBytes (byte_nexts.Refused byte_refusals.NotBytes))
bytes_reply (says.Refused c j (refusals.PastEnd n)) = Some (replies.OfBytes (byte_nexts.Refused (byte_refusals.PastEnd n)))
bytes_reply _ = None

-- how a call on names is done, behind lines with these entries
abbrev pub names_done : NameCommand → List Entry → NameNext
names_done (Names d) es = name_nexts.Names es
names_done command es = name_nexts.Did

abbrev pub names_reply : NameCommand → List Entry → Text → Option Reply
names_reply command es (says.Did c j) = Some (replies.OfNames (names_done command es))
names_reply command es (says.Found c j f) = Some (replies.OfNames (name_nexts.Found f.0))
names_reply command es (says.Refused c j refusals.NoFile) = Some (replies.OfNames (name_nexts.Refused (name_refusals.Operation answers.NoFile)))
names_reply command es (says.Refused c j refusals.Exists) = Some (replies.OfNames (name_nexts.Refused (name_refusals.Operation answers.Exists)))
names_reply command es (says.Refused c j refusals.BucketFull) = Some (replies.OfNames (name_nexts.Refused name_refusals.BucketFull))
names_reply command es (says.Refused c j refusals.NoName) = Some (replies.OfNames (name_nexts.Refused name_refusals.NoName))
names_reply command es (says.Refused c j refusals.NotDirectory) = Some (replies.OfNames (name_nexts.Refused name_refusals.NotDirectory))
names_reply command es _ = None

abbrev pub call_reply : Call → List Entry → Text → Option Reply
call_reply (OfBytes command) es text = bytes_reply text
call_reply (OfNames command) es text = names_reply command es text

-- whether a line answers what the client was told in event j
abbrev pub is_addressed : ClientNo → ℕ → Option Addressed → Bool
is_addressed c j None = false
is_addressed c j (Some a) = client_eq c a.client && nat_eq j a.number

-- the reply that a line gives to the client's wish of event j
abbrev pub reply_told : Wish → ClientNo → ℕ → List Entry → Text → Option Reply
reply_told (wishes.Operation op) c j es text = option_map (λ a. replies.Answered a) (answer_told c j text)
reply_told (wishes.Call call) c j es text = if is_addressed c j (answer_in text) then call_reply call es text else None

-- the entry that a line lists for event j
abbrev pub names_listed : ClientNo → ℕ → Text → List Entry
names_listed c j (says.Name d k name f) = if (client_eq c d && nat_eq j k) && is_name name then (record { name = name; file = f }) ∷ [] else []
names_listed c j _ = []

-- the first line that gives a reply counts; names are gathered up to it
abbrev pub first_reply : Wish → ClientNo → ℕ → List Entry → List Line → Option Reply
first_reply wish c j es [] = None
first_reply wish c j es (l ∷ ls) = or_also (reply_told wish c j es l.text) (first_reply wish c j (es ++ names_listed c j l.text) ls)

abbrev pub replied : ServerNo → Wish → Option Reply → List Replied
replied s wish None = []
replied s wish (Some reply) = (record { server = s; wish = wish; reply = reply }) ∷ []

-- What T did in event j: the operation or the call of a client that is in T, where it was answered from the files. A call that no client makes
-- is none, whatever a line says.
abbrev pub done_in : Tid → List Line → ℕ → Event → List Replied
done_in t lines j (Command c (Do s op)) = if is_in c t j lines then replied s (wishes.Operation op) (first_reply (wishes.Operation op) c j [] lines) else []
done_in t lines j (CallAt c s call) = if is_in c t j lines && call_fits call then replied s (wishes.Call call) (first_reply (wishes.Call call) c j [] lines) else []
done_in t lines j _ = []

-- what T did in these events, numbered from j on
abbrev pub done_from : Tid → List Line → ℕ → List Event → List Replied
done_from t lines j [] = []
done_from t lines j (e ∷ es) = done_in t lines j e ++ done_from t lines (j + 1) es

-- what a transaction did that the files answered, each operation and each call once, in the order of their events, each with its reply
abbrev pub done_of : List Event → List Line → Tid → List Replied
done_of events lines t = done_from t lines 1 events

-- the files after these transactions, one after another
abbrev pub replay : AllFiles → List Event → List Line → List Tid → AllFiles
replay files events lines [] = files
replay files events lines (t ∷ ts) = replay (files_by_all (done_of events lines t) files) events lines ts

abbrev pub AgreesFrom : AllFiles → List Event → List Line → List Tid → Type 0
AgreesFrom files events lines [] = Unit {0}
AgreesFrom files events lines (t ∷ ts) = GivesReplies files (done_of events lines t) × AgreesFrom (files_by_all (done_of events lines t) files) events lines ts

-- each reply from the files to a committed transaction is that of the commits run one after another
abbrev pub Agrees : AllFiles → List Event → List Line → Type 0
Agrees files events lines = AgreesFrom files events lines (history_of lines)

-- ---- where no event is a call

abbrev pub is_call : Event → Bool
is_call (CallAt c s call) = true
is_call _ = false

-- an operation that was answered, as one that was replied
abbrev pub as_replied : Performed → Replied
as_replied p = record { server = p.server; wish = wishes.Operation p.op; reply = replies.Answered p.answer }

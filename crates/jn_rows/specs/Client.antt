-- The rows of a client's table: what it does with a command and with a message.
use Rattle.std.specs.Prelude.{ℕ, Bool, true, false, nat_eq, nat_lt, ◌+◌, ◌&&◌, if◌then◌else◌, List, [], ◌∷◌, ◌++◌, map, Option, Some, None}
use Rattle.jn_base.specs.declared.names.ServerNo.{ServerNo}
use Rattle.jn_base.specs.declared.names.ClientNo.{ClientNo}
use Rattle.jn_base.specs.declared.names.Tid.{Tid}
use Rattle.jn_base.specs.declared.names.WorkId.{WorkId}
use Rattle.jn_base.specs.declared.names.Party.{Party}
use Rattle.jn_base.specs.declared.names.Party.TheVariants.{Server}
use Rattle.jn_base.specs.declared.names.Cause.TheVariants.{Lost as LostAt}
use Rattle.jn_base.specs.declared.op.Answer.{Answer}
use Rattle.jn_base.specs.declared.op.Answer.TheVariants as answers
use Rattle.jn_base.specs.declared.op.Command.{Command}
use Rattle.jn_base.specs.declared.op.Command.TheVariants.{Begin, Open, Do, End, Abort}
use Rattle.jn_base.specs.Names.{server_eq, client_eq, request_eq, request_of, operation_of, tid_eq}
use Rattle.jn_msgs.specs.declared.message.Outcome.{Outcome}
use Rattle.jn_msgs.specs.declared.message.Outcome.TheVariants.{Committed, Aborted, Waiting, NotKnown}
use Rattle.jn_msgs.specs.declared.message.Message.{Message}
use Rattle.jn_msgs.specs.declared.message.Message.TheVariants as messages
use Rattle.jn_report.specs.declared.line.Refusal.{Refusal}
use Rattle.jn_report.specs.declared.line.Refusal.TheVariants as refusals
use Rattle.jn_report.specs.declared.line.Text.{Text}
use Rattle.jn_report.specs.declared.line.Text.TheVariants as says
use Rattle.jn_rows.specs.declared.client.OpenWork.{OpenWork}
use Rattle.jn_rows.specs.declared.client.Outstanding.{Outstanding}
use Rattle.jn_rows.specs.declared.client.Taken.{Taken}
use Rattle.jn_rows.specs.declared.client.Taken.TheVariants.{Ignored, Send, Told}

-- a client, how many servers there are, its next request, its transaction with its works as they were opened, and the command that it
-- waits for
pub record ClientTable : Type 0 where
  pub client : ClientNo
  pub servers : ℕ
  pub next : ℕ
  pub transaction : Option Tid
  pub works : List OpenWork
  pub outstanding : Option Outstanding

abbrev pub new_table : ClientNo → ℕ → ClientTable
new_table c servers = record { client = c; servers = servers; next = 1; transaction = None; works = []; outstanding = None }

-- Commands.

-- a refusal, which changes nothing, or the new table with the message that is sent
pub data Commanded : Type 0 where
  Refuses : Refusal → Commanded
  Sends : ClientTable → Party → Message → Commanded

-- the next request is drawn, and its message sent
abbrev pub sends : ClientTable → ℕ → Command → Party → Message → Commanded
sends t j command to m = Sends (record t { next = t.next + 1; outstanding = Some (record { event = j; request = request_of t.next; command = command; to = to; message = m }) }) to m

-- the work at a server
abbrev pub work_at : ServerNo → List OpenWork → Option OpenWork
work_at s [] = None
work_at s (w ∷ ws) = if server_eq w.work.server s then Some w else work_at s ws

-- the works once that at a server has one more operation
abbrev pub with_operation : ServerNo → List OpenWork → List OpenWork
with_operation s [] = []
with_operation s (w ∷ ws) = if server_eq w.work.server s then record w { last = w.last + 1 } ∷ ws else w ∷ with_operation s ws

-- each refusal, and the row where it does not come
abbrev pub if_server : ClientTable → ServerNo → Commanded → Commanded
if_server t s row = if nat_lt s.0 t.servers then row else Refuses refusals.NoSuchServer

abbrev pub if_idle : Option Outstanding → Commanded → Commanded
if_idle None row = row
if_idle (Some o) row = Refuses refusals.ClientBusy

abbrev pub if_transaction : Option Tid → (Tid → Commanded) → Commanded
if_transaction None row = Refuses refusals.NoTransaction
if_transaction (Some T) row = row T

abbrev pub if_no_transaction : Option Tid → Commanded → Commanded
if_no_transaction None row = row
if_no_transaction (Some T) row = Refuses refusals.HasTransaction

abbrev pub if_open : Option OpenWork → (OpenWork → Commanded) → Commanded
if_open None row = Refuses refusals.NotOpen
if_open (Some w) row = row w

abbrev pub if_not_open : Option OpenWork → Commanded → Commanded
if_not_open None row = row
if_not_open (Some w) row = Refuses refusals.AlreadyOpen

abbrev pub names_of : List OpenWork → List WorkId
names_of ws = map (λ (w : OpenWork). w.work) ws

-- what a command that event j gives does
abbrev pub command_row : ClientTable → ℕ → Command → Commanded
command_row t j (Begin s) = if_server t s (if_idle t.outstanding (if_no_transaction t.transaction
    (sends t j (Begin s) (Server s) (messages.Begin t.client (request_of t.next)))))
command_row t j (Open s) = if_server t s (if_idle t.outstanding (if_transaction t.transaction (λ T. if_not_open (work_at s t.works)
    (sends t j (Open s) (Server s) (messages.Open t.client (request_of t.next) T)))))
command_row t j (Do s op) = if_server t s (if_idle t.outstanding (if_transaction t.transaction (λ T. if_open (work_at s t.works)
    (λ w. sends (record t { works = with_operation s t.works }) j (Do s op) (Server s) (messages.Op t.client (request_of t.next) w.work (operation_of (w.last + 1)) op)))))
command_row t j End = if_idle t.outstanding (if_transaction t.transaction
    (λ T. sends t j End (Server T.server) (messages.End t.client (request_of t.next) T (names_of t.works))))
command_row t j Abort = if_transaction t.transaction
    (λ T. sends t j Abort (Server T.server) (messages.Abort t.client (request_of t.next) T (names_of t.works)))

-- the outstanding message once more
abbrev pub sent_again : Option Outstanding → Option (Party × Message)
sent_again None = None
sent_again (Some o) = Some (o.to, o.message)

abbrev pub again_row : ClientTable → Option (Party × Message)
again_row t = sent_again t.outstanding

-- Messages.

abbrev pub is_begin : Command → Bool
is_begin (Begin s) = true
is_begin c = false

abbrev pub is_operation : Command → Bool
is_operation (Do s op) = true
is_operation c = false

abbrev pub is_end : Command → Bool
is_end End = true
is_end c = false

abbrev pub is_end_or_abort : Command → Bool
is_end_or_abort End = true
is_end_or_abort Abort = true
is_end_or_abort c = false

-- it opens this work's server, or any server where there is no work
abbrev pub opens : Option WorkId → Command → Bool
opens (Some W) (Open s) = server_eq W.server s
opens None (Open s) = true
opens answer c = false

abbrev pub is_tid : Tid → Option Tid → Bool
is_tid T None = false
is_tid T (Some U) = tid_eq T U

-- the transaction is the client's
abbrev pub is_current : ClientTable → Tid → Bool
is_current t T = is_tid T t.transaction

abbrev pub ignored : ClientTable → ClientTable × Taken
ignored t = (t, Ignored)

abbrev pub told : ClientTable → Text → ClientTable × Taken
told t line = (t, Told line None)

-- the row for the event of the outstanding command, where it passes the test
abbrev pub if_waits : ClientTable → Option Outstanding → (Outstanding → Bool) → (ℕ → ClientTable × Taken) → ClientTable × Taken
if_waits t None test row = ignored t
if_waits t (Some o) test row = if test o then row o.event else ignored t

-- the client waits for nothing
abbrev pub idle : ClientTable → ClientTable
idle t = record t { outstanding = None }

-- its transaction is over
abbrev pub over : ClientTable → ClientTable
over t = record t { transaction = None; works = []; outstanding = None }

abbrev pub begun_row : ClientTable → ℕ → Option Tid → ClientTable × Taken
begun_row t j (Some T) = told (record (idle t) { transaction = Some T; works = [] }) (says.Begun t.client j T)
begun_row t j None = told (idle t) (says.Refused t.client j refusals.TooManyTransactions)

abbrev pub opened_row : ClientTable → ℕ → Option WorkId → ClientTable × Taken
opened_row t j (Some W) = told (record (idle t) { works = t.works ++ (record { work = W; last = 0 }) ∷ [] }) (says.Opened t.client j W.server)
opened_row t j None = told (idle t) (says.Refused t.client j refusals.TooManyWorks)

abbrev pub answer_line : ClientNo → ℕ → Answer → Text
answer_line c j answers.Did = says.Did c j
answer_line c j (answers.Read bytes) = says.Read c j bytes
answer_line c j answers.NoFile = says.Refused c j refusals.NoFile
answer_line c j answers.Exists = says.Refused c j refusals.Exists
answer_line c j (answers.Locked u T) = says.Refused c j (refusals.Locked u T)
answer_line c j answers.TooManyReads = says.Refused c j refusals.TooManyReads
answer_line c j answers.TooManyWrites = says.Refused c j refusals.TooManyWrites
answer_line c j (answers.Broken u T) = says.Refused c j (refusals.Broken u T)
answer_line c j (answers.Lost then' now) = says.Refused c j (refusals.Lost then' now)
answer_line c j answers.Closing = says.Refused c j refusals.Closing

-- committed or aborted: the transaction is over, and its server is thanked, also where it is over already
abbrev pub decided_row : ClientTable → Tid → (ℕ → Text) → ClientTable × Taken
decided_row t T line = if is_current t T
    then if_waits t t.outstanding (λ o. is_end_or_abort o.command) (λ j. (over t, Told (line j) (Some (Server T.server, messages.Thanks t.client T))))
    else (t, Send (Server T.server) (messages.Thanks t.client T))

abbrev pub outcome_row : ClientTable → Tid → Outcome → ClientTable × Taken
outcome_row t T Committed = decided_row t T (λ j. says.Committed t.client j T)
outcome_row t T (Aborted cause) = decided_row t T (λ j. says.Aborted t.client j T cause)
outcome_row t T (Waiting s u by) = if is_current t T
    then if_waits t t.outstanding (λ o. is_end o.command) (λ j. told t (says.Waiting t.client j s u by))
    else ignored t
outcome_row t T (NotKnown s epoch) = if is_current t T
    then if_waits t t.outstanding (λ o. is_end_or_abort o.command) (λ j. told (over t) (says.Aborted t.client j T (LostAt s)))
    else ignored t

-- what a message does; one for another client, or that no client takes, is ignored
abbrev pub take_row : ClientTable → Message → ClientTable × Taken
take_row t (messages.Begun c request answer) = if_waits t t.outstanding
    (λ o. client_eq c t.client && (request_eq o.request request && is_begin o.command)) (λ j. begun_row t j answer)
take_row t (messages.Opened c request T answer) = if_waits t t.outstanding
    (λ o. client_eq c t.client && (request_eq o.request request && (is_current t T && opens answer o.command))) (λ j. opened_row t j answer)
take_row t (messages.Answer c request answer) = if_waits t t.outstanding
    (λ o. client_eq c t.client && (request_eq o.request request && is_operation o.command)) (λ j. told (idle t) (answer_line t.client j answer))
take_row t (messages.Outcome c T outcome) = if client_eq c t.client then outcome_row t T outcome else ignored t
take_row t m = ignored t

-- The rows of a worker's table: what it does with a message, and with its going works.
use Rattle.std.specs.Prelude.{ℕ, Bool, true, false, not, nat_eq, nat_lt, ◌+◌, ◌&&◌, ◌||◌, if◌then◌else◌, List, [], ◌∷◌, ◌++◌, map, length, slice_get, Option, Some, None, is_some}
use Rattle.jn_base.specs.declared.names.ClientNo.{ClientNo}
use Rattle.jn_base.specs.declared.names.FileNo.{FileNo}
use Rattle.jn_base.specs.declared.names.BlockNo.{BlockNo}
use Rattle.jn_base.specs.declared.names.RequestNo.{RequestNo}
use Rattle.jn_base.specs.declared.names.OperationNo.{OperationNo}
use Rattle.jn_base.specs.declared.names.Tid.{Tid}
use Rattle.jn_base.specs.declared.names.WorkId.{WorkId}
use Rattle.jn_base.specs.declared.names.Tickets.{Tickets}
use Rattle.jn_base.specs.declared.names.LockUnit.{LockUnit}
use Rattle.jn_base.specs.declared.names.LockUnit.TheVariants.{File, Block}
use Rattle.jn_base.specs.declared.names.Party.TheVariants.{Client, Server}
use Rattle.jn_base.specs.declared.op.Op.{Op}
use Rattle.jn_base.specs.declared.op.Op.TheVariants as ops
use Rattle.jn_base.specs.declared.op.Answer.{Answer}
use Rattle.jn_base.specs.declared.op.Answer.TheVariants.{NoFile, Exists, Locked, TooManyReads, TooManyWrites, Broken as BrokenAnswer, Lost as LostAnswer, Closing}
use Rattle.jn_base.specs.declared.names.Resource.TheVariants as resources
use Rattle.jn_base.specs.Names.{tid_eq, work_eq, unit_eq}
use Rattle.jn_base.specs.Limits.{most_works, most_reads, most_intentions}
use Rattle.jn_order.specs.Files.{Files, change, answer_to, file_of}
use Rattle.jn_records.specs.declared.intention.What.{What}
use Rattle.jn_records.specs.declared.intention.What.TheVariants as whats
use Rattle.jn_records.specs.declared.intention.Intention.{Intention}
use Rattle.jn_records.specs.declared.net_list.Need.{Need}
use Rattle.jn_records.specs.NetLists.{list_change, length_with}
use Rattle.jn_records.specs.MapPlaces.{MapPlaces, need_of}
use Rattle.jn_records.specs.NetEdits.{intention_for, list_after}
use Rattle.jn_locks.specs.declared.words.Mode.{Mode}
use Rattle.jn_locks.specs.declared.words.Mode.TheVariants.{Read, IntentionWrite, Commit}
use Rattle.jn_locks.specs.Locks.{together, mode_eq, some_mode, is_unit, unit_before}
use Rattle.jn_msgs.specs.declared.message.Message.{Message}
use Rattle.jn_msgs.specs.declared.message.Message.TheVariants as messages
use Rattle.jn_msgs.specs.declared.message.Vote.{Vote}
use Rattle.jn_msgs.specs.declared.message.Vote.TheVariants as votes
use Rattle.jn_msgs.specs.declared.message.Note.{Note}
use Rattle.jn_msgs.specs.declared.message.Note.TheVariants.{Broke}
use Rattle.jn_rows.specs.declared.worker.Work.{Work}
use Rattle.jn_rows.specs.declared.worker.Phase.{Phase}
use Rattle.jn_rows.specs.declared.worker.Phase.TheVariants.{Active, Broken, Prepared as Stored}
use Rattle.jn_rows.specs.declared.worker.ActiveWork.{ActiveWork}
use Rattle.jn_rows.specs.Stable.{StableState, Prepared, AddReady, MarkGoing, CarryOut, RemoveWork, is_going}
use Rattle.jn_rows.specs.Outcomes.{RowOutcome, Sent, quiet, ignored, sends}

-- its live works, in rising order of their names
abbrev pub WorkerTable : Type 0
WorkerTable = List Work

-- What a worker sees of the storage: what is stable, what is free less promised, and which map pages there are. Then how many
-- intentions of each going work were carried out, and whether there is a rubbish record.
pub record WorkStorage : Type 0 where
  pub state : StableState
  pub free : Need
  pub maps : MapPlaces
  pub next : WorkId → ℕ
  pub rubbish : Bool

-- ---- the works of a table

abbrev pub work_at : WorkId → WorkerTable → Option Work
work_at W [] = None
work_at W (w ∷ ws) = if work_eq w.name W then Some w else work_at W ws

abbrev pub work_of : Tid → WorkerTable → Option Work
work_of T [] = None
work_of T (w ∷ ws) = if tid_eq w.tid T then Some w else work_of T ws

abbrev pub with_phase : WorkId → Phase → WorkerTable → WorkerTable
with_phase W phase [] = []
with_phase W phase (w ∷ ws) = if work_eq w.name W then record w { phase = phase } ∷ ws else w ∷ with_phase W phase ws

abbrev pub without : WorkId → WorkerTable → WorkerTable
without W [] = []
without W (w ∷ ws) = if work_eq w.name W then ws else w ∷ without W ws

-- ---- units

-- a unit put in its place among ascending ones
abbrev pub with_unit : LockUnit → List LockUnit → List LockUnit
with_unit u [] = u ∷ []
with_unit u (v ∷ vs) = if unit_before u v then u ∷ v ∷ vs else (if unit_eq u v then v ∷ vs else v ∷ with_unit u vs)

abbrev pub with_units : List LockUnit → List LockUnit → List LockUnit
with_units [] vs = vs
with_units (u ∷ us) vs = with_units us (with_unit u vs)

-- a unit and the modes in which it is wanted
pub record Wanted : Type 0 where
  pub unit : LockUnit
  pub modes : List Mode

abbrev pub wanted : LockUnit → List Mode → Wanted
wanted u modes = record { unit = u; modes = modes }

abbrev pub has_mode : Mode → List Mode → Bool
has_mode m [] = false
has_mode m (n ∷ ns) = mode_eq m n || has_mode m ns

-- the units that are wanted in a mode
abbrev pub units_for : Mode → List Wanted → List LockUnit
units_for m [] = []
units_for m (want ∷ wants) = if has_mode m want.modes then want.unit ∷ units_for m wants else units_for m wants

-- what an operation wants, in order of units; one whose file isn't as it needs it wants to read the file alone
abbrev pub wants_of : Op → Bool → List Wanted
wants_of op false = wanted (File (file_of op)) (Read ∷ []) ∷ []
wants_of (ops.Read f p) true = wanted (File f) (Read ∷ []) ∷ wanted (Block f p) (Read ∷ []) ∷ []
wants_of (ops.Write f p bytes) true = wanted (File f) (Read ∷ []) ∷ wanted (Block f p) (IntentionWrite ∷ []) ∷ []
wants_of op true = wanted (File (file_of op)) (Read ∷ IntentionWrite ∷ []) ∷ []

-- what a work wants that is to be prepared
abbrev pub commit_wants : List LockUnit → List Wanted
commit_wants us = map (λ (u : LockUnit). wanted u (Commit ∷ [])) us

-- ---- who stands in the way

-- whether a work in this phase holds the unit in that mode
abbrev pub holds : Phase → LockUnit → Mode → Bool
holds (Active a) u Read = is_unit a.reads u
holds (Active a) u IntentionWrite = is_unit a.writes u
holds (Stored p) u Read = is_unit p.reads u
holds (Stored p) u Commit = is_unit p.writes u
holds phase u m = false

abbrev pub gives_way : Phase → Bool
gives_way (Active a) = a.vulnerable
gives_way phase = false

abbrev pub collides_in : Phase → LockUnit → Mode → Bool
collides_in phase u m = some_mode (λ n. holds phase u n && not (together m n))

-- it holds the unit in a mode that doesn't go with a wanted one
abbrev pub collides_at : Phase → Wanted → Bool
collides_at phase want = some_mode (λ m. has_mode m want.modes && collides_in phase want.unit m)

-- the first wanted unit at which it collides
abbrev pub collision : Phase → List Wanted → Option LockUnit
collision phase [] = None
collision phase (want ∷ wants) = if collides_at phase want then Some want.unit else collision phase wants

-- the first other work that collides at the unit and doesn't give way
abbrev pub holder_at : WorkId → Wanted → WorkerTable → Option Work
holder_at W want [] = None
holder_at W want (v ∷ vs) = if not (work_eq v.name W) && (collides_at v.phase want && not (gives_way v.phase)) then Some v else holder_at W want vs

-- a unit and the transaction that holds it
abbrev pub Held : Type 0
Held = LockUnit × Tid

abbrev pub held_by : LockUnit → Option Work → Option Held → Option Held
held_by u (Some v) later = Some (u, v.tid)
held_by u None later = later

-- the first wanted unit at which another work stands in the way, and the transaction of the least such work
abbrev pub conflict : WorkId → List Wanted → WorkerTable → Option Held
conflict W [] t = None
conflict W (want ∷ wants) t = held_by want.unit (holder_at W want t) (conflict W wants t)

-- where another work breaks that gives way: at the first unit on which the two collide
abbrev pub breaks_at : WorkId → List Wanted → Work → Option LockUnit
breaks_at W wants v = if not (work_eq v.name W) && gives_way v.phase then collision v.phase wants else None

abbrev pub broken_by : Tid → Option LockUnit → Work → Work
broken_by T None v = v
broken_by T (Some u) v = record v { phase = Broken u T }

abbrev pub note_of : Tid → Option LockUnit → Work → List Note
note_of T None v = []
note_of T (Some u) v = Broke v.tid u T ∷ []

-- the works once these wants of T's work W are granted, and the notes of those that broke
abbrev pub after_grant : Tid → WorkId → List Wanted → WorkerTable → WorkerTable
after_grant T W wants t = map (λ (v : Work). broken_by T (breaks_at W wants v) v) t

abbrev pub break_notes : Tid → WorkId → List Wanted → WorkerTable → List Note
break_notes T W wants [] = []
break_notes T W wants (v ∷ vs) = note_of T (breaks_at W wants v) v ++ break_notes T W wants vs

-- ---- Open

abbrev pub name_from : Tickets → WorkId
name_from k = record { server = k.server; epoch = k.epoch; ticket = k.next }

abbrev pub new_work : WorkId → Tid → Work
new_work W T = record { name = W; tid = T; phase = Active (record { list = []; reads = []; writes = []; last = 0; kept = None; vulnerable = false }) }

-- a live work of T is told again; else there is a new one, unless as many are live as may be
abbrev pub open_row : WorkerTable → Tickets → ClientNo → RequestNo → Tid → Option Work → RowOutcome WorkerTable
open_row t k c request T (Some w) = sends t k ((Client c, messages.Opened c request T (Some w.name)) ∷ [])
open_row t k c request T None = if nat_lt (length t) most_works
    then sends (t ++ new_work (name_from k) T ∷ []) (record k { next = k.next + 1 }) ((Client c, messages.Opened c request T (Some (name_from k))) ∷ [])
    else sends t k ((Client c, messages.Opened c request T None) ∷ [])

-- ---- Op

-- what a client asks of a work
pub record Asked : Type 0 where
  pub client : ClientNo
  pub request : RequestNo
  pub number : OperationNo
  pub op : Op

-- what its worker answers from
pub record Here : Type 0 where
  pub table : WorkerTable
  pub files : Files
  pub tickets : Tickets

abbrev pub replies : Here → Asked → Answer → RowOutcome WorkerTable
replies h q answer = sends h.table h.tickets ((Client q.client, messages.Answer q.client q.request answer) ∷ [])

-- whether the file is as the operation needs it
abbrev pub is_fit : Answer → Bool
is_fit NoFile = false
is_fit Exists = false
is_fit answer = true

-- an operation has used up its number, and its answer is kept
abbrev pub counted : ActiveWork → Answer → ActiveWork
counted a answer = record a { last = a.last + 1; kept = Some answer }

-- once its wants are granted too
abbrev pub done : ActiveWork → Op → Answer → List Wanted → ActiveWork
done a op answer wants = record (counted a answer) {
  list = if is_fit answer then list_after (intention_for a.list op) op a.list else a.list;
  reads = with_units (units_for Read wants) a.reads;
  writes = with_units (units_for IntentionWrite wants) a.writes;
}

-- at the 41st read unit, or the 25th intention
abbrev pub past_limit : ℕ → ℕ → Option Answer
past_limit reads intentions = if nat_lt most_reads reads then Some TooManyReads else (if nat_lt most_intentions intentions then Some TooManyWrites else None)

abbrev pub locked : Option Held → Option Answer
locked None = None
locked (Some held) = Some (Locked held.0 held.1)

abbrev pub first_of_two : Option Answer → Option Answer → Option Answer
first_of_two (Some answer) later = Some answer
first_of_two None later = later

abbrev pub refusal_of : WorkerTable → WorkId → ActiveWork → Op → Answer → List Wanted → Option Answer
refusal_of t W a op answer wants = first_of_two
    (past_limit (length (with_units (units_for Read wants) a.reads)) (if is_fit answer then length_with a.list op else length a.list))
    (locked (conflict W wants t))

abbrev pub granted_row : Here → Asked → Work → ActiveWork → Answer → List Wanted → Option Answer → RowOutcome WorkerTable
granted_row h q w a answer wants (Some refusal) = record (replies h q refusal) { table = with_phase w.name (Active (counted a refusal)) h.table }
granted_row h q w a answer wants None = record (replies h q answer) {
  table = with_phase w.name (Active (done a q.op answer wants)) (after_grant w.tid w.name wants h.table);
  notes = break_notes w.tid w.name wants h.table;
}

-- the next operation, whose answer the work's files give
abbrev pub performed : Here → Asked → Work → ActiveWork → Answer → RowOutcome WorkerTable
performed h q w a answer = granted_row h q w a answer (wants_of q.op (is_fit answer)) (refusal_of h.table w.name a q.op answer (wants_of q.op (is_fit answer)))

abbrev pub repeated : Here → Asked → Option Answer → RowOutcome WorkerTable
repeated h q (Some answer) = replies h q answer
repeated h q None = ignored h.table h.tickets

abbrev pub by_number : Here → Asked → Work → ActiveWork → RowOutcome WorkerTable
by_number h q w a = if nat_eq q.number.0 (a.last + 1)
    then performed h q w a (answer_to q.op (change (list_change a.list) h.files))
    else (if nat_eq q.number.0 a.last then repeated h q a.kept else ignored h.table h.tickets)

abbrev pub op_phase : Here → Asked → Work → Phase → RowOutcome WorkerTable
op_phase h q w (Active a) = by_number h q w a
op_phase h q w (Broken u by) = replies h q (BrokenAnswer u by)
op_phase h q w (Stored p) = replies h q Closing

abbrev pub op_row : Here → Asked → WorkId → Option Work → RowOutcome WorkerTable
op_row h q W (Some w) = op_phase h q w w.phase
op_row h q W None = replies h q (LostAnswer W.epoch h.tickets.epoch)

-- ---- Prepare

abbrev pub voted : WorkerTable → Tickets → Tid → WorkId → Vote → RowOutcome WorkerTable
voted t k T W vote = sends t k ((Server T.server, messages.Vote T W vote) ∷ [])

-- the first kind of which less is free and not promised than is needed
abbrev pub shortage : Need → Need → Option Vote
shortage free need =
    if nat_lt free.records need.records then Some (votes.Full resources.Records free.records need.records)
    else (if nat_lt free.pages need.pages then Some (votes.Full resources.Pages free.pages need.pages)
    else (if nat_lt free.heads need.heads then Some (votes.Full resources.Heads free.heads need.heads)
    else None))

abbrev pub vote_of : Option Held → Option Vote → Vote
vote_of (Some held) short = votes.Waiting held.0 held.1
vote_of None (Some short) = short
vote_of None None = votes.Ready

abbrev pub need_in : MapPlaces → Files → List Intention → Need
need_in maps files list = need_of list (λ f. is_some (files (File f))) maps

-- a vote that refuses changes nothing; else the work is stored, and the works in the way break
abbrev pub prepared_row : WorkerTable → Tickets → Tid → ClientNo → Work → ActiveWork → Vote → RowOutcome WorkerTable
prepared_row t k T c w a votes.Ready = record {
  table = with_phase w.name (Stored (record { reads = a.reads; writes = a.writes })) (after_grant w.tid w.name (commit_wants a.writes) t);
  changes = AddReady (record { work = w.name; tid = w.tid; client = c }) a.list a.reads ∷ [];
  messages = (Server T.server, messages.Vote T w.name votes.Ready) ∷ [];
  notes = break_notes w.tid w.name (commit_wants a.writes) t;
  tickets = k;
}
prepared_row t k T c w a vote = voted t k T w.name vote

abbrev pub prepare_phase : WorkerTable → WorkStorage → Tickets → Tid → ClientNo → Work → Phase → RowOutcome WorkerTable
prepare_phase t s k T c w (Active a) = prepared_row t k T c w a
    (vote_of (conflict w.name (commit_wants a.writes) t) (shortage s.free (need_in s.maps s.state.files a.list)))
prepare_phase t s k T c w (Broken u by) = voted t k T w.name (votes.Broken u by)
prepare_phase t s k T c w (Stored p) = if is_going (s.state.works w.name) then ignored t k else voted t k T w.name votes.Ready

abbrev pub prepare_row : WorkerTable → WorkStorage → Tickets → Tid → ClientNo → WorkId → Option Work → RowOutcome WorkerTable
prepare_row t s k T c W (Some w) = prepare_phase t s k T c w w.phase
prepare_row t s k T c W None = voted t k T W (votes.Lost W.epoch k.epoch)

-- ---- Commit and Drop

abbrev pub commit_phase : WorkerTable → WorkStorage → Tickets → WorkId → Phase → RowOutcome WorkerTable
commit_phase t s k W (Stored p) = if is_going (s.state.works W) then ignored t k else record (quiet t k) { changes = MarkGoing W ∷ [] }
commit_phase t s k W phase = ignored t k

abbrev pub commit_row : WorkerTable → WorkStorage → Tickets → Tid → WorkId → Option Work → RowOutcome WorkerTable
commit_row t s k T W (Some w) = commit_phase t s k W w.phase
commit_row t s k T W None = sends t k ((Server T.server, messages.Done T W) ∷ [])

abbrev pub drop_phase : WorkerTable → WorkStorage → Tickets → WorkId → Phase → RowOutcome WorkerTable
drop_phase t s k W (Stored p) = if is_going (s.state.works W) then ignored t k else record (quiet (without W t) k) { changes = RemoveWork W ∷ [] }
drop_phase t s k W phase = quiet (without W t) k

abbrev pub drop_row : WorkerTable → WorkStorage → Tickets → WorkId → Option Work → RowOutcome WorkerTable
drop_row t s k W (Some w) = drop_phase t s k W w.phase
drop_row t s k W None = ignored t k

-- ---- every message

-- one that no worker takes is ignored
abbrev pub worker_row : WorkerTable → WorkStorage → Tickets → Message → RowOutcome WorkerTable
worker_row t s k (messages.Open c request T) = open_row t k c request T (work_of T t)
worker_row t s k (messages.Op c request W number op) = op_row (record { table = t; files = s.state.files; tickets = k }) (record { client = c; request = request; number = number; op = op }) W (work_at W t)
worker_row t s k (messages.Prepare T c W) = prepare_row t s k T c W (work_at W t)
worker_row t s k (messages.Commit T W) = commit_row t s k T W (work_at W t)
worker_row t s k (messages.Drop T W) = drop_row t s k W (work_at W t)
worker_row t s k m = ignored t k

-- ---- without a message

-- the going work of least name
abbrev pub going_work : StableState → WorkerTable → Option Work
going_work x [] = None
going_work x (w ∷ ws) = if is_going (x.works w.name) then Some w else going_work x ws

abbrev pub intentions_of : Option Prepared → List Intention
intentions_of None = []
intentions_of (Some p) = p.list

-- its next intention is carried out, or where none is left it is over
abbrev pub carried_row : WorkerTable → Tickets → Work → Option Intention → RowOutcome WorkerTable
carried_row t k w (Some i) = record (quiet t k) { changes = CarryOut w.name i ∷ [] }
carried_row t k w None = record (sends (without w.name t) k ((Server w.tid.server, messages.Done w.tid w.name) ∷ [])) { changes = RemoveWork w.name ∷ [] }

abbrev pub going_row : WorkerTable → WorkStorage → Tickets → Option Work → Option (RowOutcome WorkerTable)
going_row t s k (Some w) = Some (carried_row t k w (slice_get (intentions_of (s.state.works w.name)) (s.next w.name)))
going_row t s k None = if s.rubbish then Some (quiet t k) else None

-- one step: of a going work, or else of a rubbish record, which is no change of what is stable; none where nothing is to do
abbrev pub worker_step : WorkerTable → WorkStorage → Tickets → Option (RowOutcome WorkerTable)
worker_step t s k = going_row t s k (going_work s.state t)

-- each active, broken and ready work asks for its outcome
abbrev pub worker_again : StableState → WorkerTable → List Sent
worker_again x [] = []
worker_again x (w ∷ ws) = if is_going (x.works w.name) then worker_again x ws else (Server w.tid.server, messages.Inquire w.tid w.name) ∷ worker_again x ws

abbrev pub vulnerable : Phase → Phase
vulnerable (Active a) = Active (record a { vulnerable = true })
vulnerable phase = phase

abbrev pub timed_out : WorkerTable → Option Work → Option WorkerTable
timed_out t None = None
timed_out t (Some w) = Some (with_phase w.name (vulnerable w.phase) t)

-- the transaction's work gives way from now on if it is active; none where the transaction has no live work
abbrev pub timeout_row : WorkerTable → Tid → Option WorkerTable
timeout_row t T = timed_out t (work_of T t)

-- the transaction of the prepared work that holds the unit for commit
abbrev pub commit_holder : LockUnit → WorkerTable → Option Tid
commit_holder u [] = None
commit_holder u (w ∷ ws) = if holds w.phase u Commit then Some w.tid else commit_holder u ws

-- ---- after a restart

-- what an intention writes: a put its block, any other its file
abbrev pub written_unit : What → FileNo → BlockNo → LockUnit
written_unit whats.Put f p = Block f p
written_unit what f p = File f

abbrev pub restored_work : WorkId → Option Prepared → WorkerTable
restored_work W None = []
restored_work W (Some p) = record {
  name = W;
  tid = p.tid;
  phase = Stored (record {
    reads = p.reads;
    writes = map (λ (i : Intention). written_unit i.what i.file i.block) p.list;
  });
} ∷ []

-- the table of the stable works, whose names are these, rising
abbrev pub restored_worker : StableState → List WorkId → WorkerTable
restored_worker x [] = []
restored_worker x (W ∷ Ws) = restored_work W (x.works W) ++ restored_worker x Ws

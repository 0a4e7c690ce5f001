-- What holds of the talk between clients and workers: which operations a client sent, which of them its work has performed,
-- and that the answers reported so far are what the work did.
use Rattle.jn_system_reports.proofs.Common.{◌≡◌, ◌⊎◌, ◌<◌, ◌≤◌, ◌+◌, Bool, true, false, List, [], ◌∷◌, ◌++◌, Option, Some, None, ◌||◌, if◌then◌else◌, All, ServerNo, ClientNo, Tid, WorkId, Op, Answer, Command, Do, work_eq, Event, CommandOf, Message, Text, ActiveWork, OpenWork, Outstanding, Sent, ClientTable, is_begin, open_at, event_at, Answered, Machine, World, openings, Has, is_closing, at_place, operation_of, RequestNo}
use Rattle.jn_system_reports.proofs.Telling.TransactionLines.{ops_in, owner_in, is_begun, begun_by}
use Rattle.jn_base.specs.declared.op.Answer.TheVariants as answers
use Rattle.jn_msgs.specs.declared.message.Message.TheVariants as messages
use Rattle.jn_system_order.proofs.Ordering.Facts.{opening}
use Rattle.jn_system_reports.proofs.Telling.Tellings.{SaysAs}
use Rattle.jn_system_reports.proofs.Telling.Atoms.{IsPresent}
use Rattle.jn_system_reports.proofs.Telling.Acting.{acting, IsSilent}

-- what was reported of a transaction at a server
abbrev pub said : List Event → Tid → ServerNo → List Text → List Answered
said events T s texts = at_place s (ops_in events T None texts)

-- an answer from the files counts, a refusal doesn't
abbrev pub counts : Op → Answer → List Answered
counts op answers.Did = record { op = op; answer = answers.Did } ∷ []
counts op (answers.Read bytes) = record { op = op; answer = answers.Read bytes } ∷ []
counts op answers.NoFile = record { op = op; answer = answers.NoFile } ∷ []
counts op answers.Exists = record { op = op; answer = answers.Exists } ∷ []
counts op answer = []

-- ---- what a client waits for

abbrev pub op_in : WorkId → Message → Option Op
op_in W (messages.Op c request V number op) = if work_eq V W then Some op else None
op_in W message = None

-- the operation that is outstanding at the work
abbrev pub op_asked : Option Outstanding → WorkId → Option Op
op_asked None W = None
op_asked (Some o) W = op_in W o.message

-- its operation is the last of an open work
pub record IsOperation (events : List Event) (c : ClientNo) (t : ClientTable) (o : Outstanding) (s : ServerNo) (op : Op) : Type 0 where
  pub work : OpenWork
  pub is : open_at s t.works ≡ Some work
  pub message : o.message ≡ messages.Op c o.request work.work (operation_of work.last) op
  pub told : event_at events o.event ≡ Some (CommandOf c (Do s op))
  pub tid : Tid
  pub current : t.transaction ≡ Some tid

abbrev pub IsAsking : List Event → ClientNo → ClientTable → Outstanding → Command → Type 0
IsAsking events c t o (Do s op) = IsOperation events c t o s op
IsAsking events c t o command = IsSilent (o.to, o.message)

-- ---- a work whose transaction goes on

-- No operation of the work comes after the last that its client sent. The last one, while it is outstanding, is that one.
abbrev pub IsNumbered : OpenWork → Option Outstanding → Sent → Type 0
IsNumbered v o (to, messages.Op d request W number op) = W ≡ v.work → (number.0 ≤ v.last) × (number.0 ≡ v.last → (p : Op) → op_asked o v.work ≡ Some p → p ≡ op)
IsNumbered v o sent = Unit {0}

-- what was reported is what the work did, but for an outstanding operation that it has performed
abbrev pub Hears : Option Op → OpenWork → ActiveWork → List Answered → List Answered → Type 0
Hears None v a told trace = (a.last ≡ v.last) × SaysAs told trace
Hears (Some op) v a told trace = ((a.last + 1 ≡ v.last) × SaysAs told trace) ⊎ ((a.last ≡ v.last) × ((answer : Answer) × ((a.kept ≡ Some answer) × SaysAs (told ++ counts op answer) trace)))

abbrev pub IsRunningAt : List Event → World → Machine → Tid → Option Outstanding → ServerNo → Option OpenWork → Type 0
IsRunningAt events r w T o s None = said events T s r.lines ≡ []
IsRunningAt events r w T o s (Some v) = All (IsNumbered v o) r.sent × ((a : ActiveWork) → acting r v.work ≡ Some a → Hears (op_asked o v.work) v a (said events T s r.lines) (w.trace v.work))

pub record IsTalking (events : List Event) (r : World) (w : Machine) (c : ClientNo) (t : ClientTable) : Type 0 where
  pub asking : (o : Outstanding) → t.outstanding ≡ Some o → IsAsking events c t o o.command
  pub owner : (T : Tid) → t.transaction ≡ Some T → owner_in T None r.lines ≡ Some c
  pub running : (T : Tid) → t.transaction ≡ Some T → is_closing t.outstanding ≡ false → (s : ServerNo) → IsRunningAt events r w T t.outstanding s (open_at s t.works)

-- ---- a work whose transaction was ended

abbrev pub IsPast : WorkId → ActiveWork → Sent → Type 0
IsPast W a (to, messages.Op d request V number op) = V ≡ W → number.0 ≤ a.last
IsPast W a sent = Unit {0}

abbrev pub IsEndedAt : List Event → World → Machine → Tid → ServerNo → Option WorkId → Type 0
IsEndedAt events r w T s None = said events T s r.lines ≡ []
IsEndedAt events r w T s (Some W) = (IsPresent w W → SaysAs (said events T s r.lines) (w.trace W)) × ((a : ActiveWork) → acting r W ≡ Some a → All (IsPast W a) r.sent)

-- ---- what was sent

-- an answer to an outstanding operation is what its work has kept
abbrev pub IsKept : World → Answer → Message → Type 0
IsKept r answer (messages.Op d request W number op) = (a : ActiveWork) → acting r W ≡ Some a → (a.last ≡ number.0) × (a.kept ≡ Some answer)
IsKept r answer message = Unit {0}

-- a request has one message
abbrev pub IsDrawn : World → Sent → Type 0
IsDrawn r (to, messages.Op d request W number op) = (request.0 < (r.clients d).next) × ((o : Outstanding) → (r.clients d).outstanding ≡ Some o → o.request ≡ request → o.message ≡ messages.Op d request W number op)
IsDrawn r (to, messages.Answer d request answer) = (request.0 < (r.clients d).next) × ((o : Outstanding) → (r.clients d).outstanding ≡ Some o → o.request ≡ request → IsKept r answer o.message)
IsDrawn r sent = Unit {0}

abbrev pub is_op_of : WorkId → Sent → Bool
is_op_of W (to, messages.Op d request V number op) = work_eq V W
is_op_of W sent = false

-- an operation was sent for the work
abbrev pub op_sent : WorkId → List Sent → Bool
op_sent W [] = false
op_sent W (x ∷ sent) = is_op_of W x || op_sent W sent

abbrev pub IsOpenAt : WorkId → Option OpenWork → Type 0
IsOpenAt W None = ⊥
IsOpenAt W (Some v) = v.work ≡ W

-- its transaction was begun, and a client that is in it has the work open
pub record IsKnown (r : World) (w : Machine) (W : WorkId) : Type 0 where
  pub opened : w.opened W ≡ true
  pub begun : is_begun (w.owner W) r.lines ≡ true
  pub its : (c : ClientNo) → (r.clients c).transaction ≡ Some (w.owner W) → IsOpenAt W (open_at W.server (r.clients c).works)

-- ---- what was reported

-- one request of one client began it, before any that is still to begin one
pub record IsStarted (r : World) (T : Tid) : Type 0 where
  pub client : ClientNo
  pub request : RequestNo
  pub has : Has (opening client request T) (openings r.sent)
  pub drawn : request.0 < (r.clients client).next
  pub before : (o : Outstanding) → (r.clients client).outstanding ≡ Some o → is_begin o.command ≡ true → request.0 < o.request.0
  -- no other client was told that it began
  pub its : (c : ClientNo) → begun_by c T r.lines ≡ true → c ≡ client

pub record Talk (events : List Event) (r : World) (w : Machine) : Type 0 where
  pub clients : (c : ClientNo) → IsTalking events r w c (r.clients c)
  pub ended : (T : Tid) → w.ended T ≡ true → w.aborted T ≡ false → (s : ServerNo) → IsEndedAt events r w T s (w.part T s)
  -- a client whose the lines say a transaction is has that one, or none
  pub owners : (T : Tid) (c : ClientNo) → owner_in T None r.lines ≡ Some c → ((r.clients c).transaction ≡ None) ⊎ ((r.clients c).transaction ≡ Some T)
  pub drawn : All (IsDrawn r) r.sent
  pub known : (W : WorkId) → op_sent W r.sent ≡ true → IsKnown r w W
  -- a work for which no operation was sent has done nothing
  pub unasked : (W : WorkId) → op_sent W r.sent ≡ false → (a : ActiveWork) → acting r W ≡ Some a → (a.last ≡ 0) × SaysAs [] (w.trace W)
  pub started : (T : Tid) → is_begun T r.lines ≡ true → IsStarted r T

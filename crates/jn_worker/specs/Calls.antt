-- What the calls of a worker do.
use Rattle.std.specs.Prelude.{count_by, ◌≡◌, ◌⊎◌, ◌+◌, ℕ, Bool, true, false, not, ◌||◌, if◌then◌else◌, List, [], ◌∷◌, ◌++◌, Option, Some, None, Result, Ok, Err, is_ok}
use Rattle.jn_base.specs.declared.names.Tickets.{Tickets}
use Rattle.jn_base.specs.declared.names.Party.TheVariants.{Server}
use Rattle.jn_base.specs.declared.names.ClientNo.{ClientNo}
use Rattle.jn_base.specs.declared.names.Tid.{Tid}
use Rattle.jn_base.specs.declared.names.WorkId.{WorkId}
use Rattle.jn_base.specs.declared.op.Answer.{Answer}
use Rattle.jn_base.specs.declared.op.Answer.TheVariants.{Broken as BrokenAnswer, Closing, Locked}
use Rattle.jn_base.specs.declared.op.Op.{Op}
use Rattle.jn_base.specs.declared.names.Resource.TheVariants as resources
use Rattle.jn_base.specs.Names.{work_eq}
use Rattle.jn_msgs.specs.Collected.{Collected}
use Rattle.jn_msgs.specs.declared.message.Message.TheVariants as messages
use Rattle.jn_msgs.specs.declared.message.Note.{Note}
use Rattle.jn_msgs.specs.declared.message.Vote.{Vote}
use Rattle.jn_msgs.specs.declared.message.Vote.TheVariants as votes
use Rattle.jn_rows.specs.declared.worker.Phase.{Phase}
use Rattle.jn_rows.specs.declared.worker.Phase.TheVariants.{Active, Broken}
use Rattle.jn_rows.specs.declared.worker.ActiveWork.{ActiveWork}
use Rattle.jn_lock_rows.specs.declared.grants.Refused.{Refused}
use Rattle.jn_lock_rows.specs.declared.grants.Refused.TheVariants.{Held, Memory as NotGranted}
use Rattle.jn_lock_rows.specs.Calls.{stored}
use Rattle.jn_records.specs.declared.work.WorkHead.{WorkHead}
use Rattle.jn_storage.specs.declared.faults.PrepareFault.{PrepareFault}
use Rattle.jn_storage.specs.declared.faults.PrepareFault.TheVariants.{Records, Pages, Heads, Stopped as NotServed, Memory as NoMemory}
use Rattle.jn_base.specs.declared.fault.CallFault.{CallFault}
use Rattle.jn_base.specs.declared.fault.CallFault.TheVariants.{Stopped, Memory}
use Rattle.jn_rows.specs.Outcomes.{RowOutcome, Sent}
use Rattle.jn_rows.specs.Performing.{Performs}
use Rattle.jn_records.specs.declared.intention.Intention.{Intention}
use Rattle.jn_records.specs.MapPlaces.{lacking}
use Rattle.jn_records.specs.NetLists.{is_put_intention}
use Rattle.jn_rows.specs.Stable.{Change, AddReady, CarryOut, RemoveWork, StableState, at_work, next_after}
use Rattle.jn_rows.specs.Worker.{WorkerTable, worker_again, timeout_row, with_phase, after_grant, break_notes, commit_wants, conflict, locked, counted, done, wants_of, is_fit, refusal_of as refusal_of_row}
use Rattle.jn_storage.specs.Listing.{is_in}
use Rattle.jn_storage.specs.Storage.{Accounts, StorageView}
use Rattle.jn_storage.specs.Calls.{state, Called, CountsErased}
use Rattle.jn_storage.specs.DeviceCalls.{step_calls}
use Rattle.jn_worker.specs.Leaving.{beside_of, left_by}
use Rattle.jn_worker.specs.Fitting.{WorkerView, Fits, TicketsFit}

abbrev pub has_stopped : {A : Type 0} → Result A CallFault → Bool
has_stopped (Err Stopped) = true
has_stopped _ = false

-- whether one of the changes removes this work
abbrev pub is_removed : WorkId → List Change → Bool
is_removed n [] = false
is_removed n (RemoveWork W ∷ changes) = work_eq W n || is_removed n changes
is_removed n (c ∷ changes) = is_removed n changes

-- one page for each put of a list, and one for each map page that its records name
abbrev pub pages_named : List Intention → List Bool → ℕ
pages_named list supplied = count_by is_put_intention list + count_by (λ named. named) supplied

-- How many data pages works hold once a change is made: a work that is prepared holds each page that it names, and one that is removed none. Of
-- one whose intention is carried out nothing is said here.
abbrev pub HoldsBy : Accounts → Change → Accounts → Type 0
HoldsBy a (AddReady head list reads) b = b.held ≡ at_work a.held head.work (pages_named list (lacking a.maps list))
HoldsBy a (CarryOut W i) b = (V : WorkId) → work_eq W V ≡ false → b.held V ≡ a.held V
HoldsBy a (RemoveWork W) b = b.held ≡ at_work a.held W 0
HoldsBy a c b = b.held ≡ a.held

-- What a row's changes leave of the accounts: the promises for flags stand, it is counted which intentions are carried
-- out, only a work that is removed leaves rubbish, and map pages, what works name of them and what works hold change with each change. A row
-- has one change at most; where it has none, map pages are as they were, and so is the rubbish, or one record less after a step.
pub record CountsBy (x : StableState) (changes : List Change) (a b : Accounts) : Type 0 where
  pub promised_records : b.promised_records ≡ a.promised_records
  pub next : b.next ≡ next_after changes a.next
  pub rubbish : (n : WorkId) → is_in work_eq n b.rubbish ≡ true → (is_in work_eq n a.rubbish ≡ true) ⊎ (is_removed n changes ≡ true)
  pub beside : (c : Change) → changes ≡ c ∷ [] → beside_of b ≡ left_by x c (beside_of a)
  pub holds : (c : Change) → changes ≡ c ∷ [] → HoldsBy a c b

-- A call whose row this is, with so many device calls at most. One that is stopped adds nothing to what its step sends
-- and reports; one that has no memory has made some of the row's changes, from the first one on. While no call was stopped
-- or without memory, worker and storage fit, and so do the tickets, and the accounts have counted the row's changes.
pub record Takes {A : Type 0} (most : ℕ) (row : RowOutcome WorkerTable) (t : WorkerView) (v : StorageView) (before : Collected) (k : Tickets) (answer : Result A CallFault) (u : WorkerView) (w : StorageView) (after : Collected) (l : Tickets) : Type 0 where
  pub performs : Performs row (state v) before (is_ok answer) u.table w.found after l
  pub called : Called v most (not (has_stopped answer)) w
  pub silent : has_stopped answer ≡ true → after ≡ before
  pub fits : is_ok answer ≡ true → Fits u w
  pub tickets_fit : is_ok answer ≡ true → TicketsFit t.table v k → TicketsFit u.table w l
  pub counts : is_ok answer ≡ true → CountsBy (state v) row.changes v.accounts w.accounts

-- the asking again of the works that aren't going, as a list of names has them
abbrev pub asked_again : List WorkId → WorkerTable → List Sent
asked_again going [] = []
asked_again going (w ∷ ws) = if is_in work_eq w.name going then asked_again going ws else (Server w.tid.server, messages.Inquire w.tid w.name) ∷ asked_again going ws

-- each work that isn't going asks for its outcome; nothing is noted
pub record AsksAgain (t : WorkerView) (before : Collected) (ok : Bool) (after : Collected) : Type 0 where
  pub notes : after.notes ≡ before.notes
  pub messages : ok ≡ true → after.messages ≡ before.messages ++ asked_again t.going t.table
  pub is_row : (v : StorageView) → Fits t v → asked_again t.going t.table ≡ worker_again (state v) t.table

-- A step whose row this is: it is answered true, and false where there is none and nothing is done. A row without
-- changes is the erasing of one rubbish record.
abbrev pub Steps : Option (RowOutcome WorkerTable) → WorkerView → StorageView → Collected → Tickets → Result Bool CallFault → WorkerView → StorageView → Collected → Tickets → Type 0
Steps None t v before k answer u w after l = (answer ≡ Ok false) × (u ≡ t) × (w ≡ v) × (after ≡ before)
Steps (Some row) t v before k answer u w after l = Takes step_calls row t v before k answer u w after l × (is_ok answer ≡ true → answer ≡ Ok true) × (row.changes ≡ [] → is_ok answer ≡ true → CountsErased v.accounts w.accounts)

-- a timeout of a transaction: true where a work of it is live
pub record TimesOut (T : Tid) (t : WorkerView) (answer : Bool) (u : WorkerView) : Type 0 where
  pub row : timeout_row t.table T ≡ (if answer then Some u.table else None)
  pub same : answer ≡ false → u ≡ t
  pub fits : (v : StorageView) → Fits t v → Fits u v
  pub tickets_fit : (v : StorageView) (k : Tickets) → TicketsFit t.table v k → TicketsFit u.table v k

-- what is voted for a work that isn't active, while its transaction isn't known to have committed
abbrev pub vote_inactive : Phase → Vote
vote_inactive (Broken u by) = votes.Broken u by
vote_inactive phase = votes.Ready

-- what an operation of a work that isn't active is answered
abbrev pub answer_inactive : Phase → Answer
answer_inactive (Broken u by) = BrokenAnswer u by
answer_inactive phase = Closing

abbrev pub head_of : WorkId → Tid → ClientNo → WorkHead
head_of W T c = record { work = W; tid = T; client = c }

-- the vote where something is short
abbrev pub refusal_of : PrepareFault → Result Vote CallFault
refusal_of (Records short) = Ok (votes.Full resources.Records short.free short.need)
refusal_of (Pages short) = Ok (votes.Full resources.Pages short.free short.need)
refusal_of (Heads short) = Ok (votes.Full resources.Heads short.free short.need)
refusal_of NotServed = Err Stopped
refusal_of NoMemory = Err Memory

-- T's active work is a stored one, the works in its way are broken, and S is told that it is ready
pub record Stores (t : WorkerView) (T : Tid) (W : WorkId) (a : ActiveWork) (S : Tid) (before : Collected) (u : WorkerView) (after : Collected) : Type 0 where
  pub works : u ≡ record t { table = with_phase W (stored (Active a)) (after_grant T W (commit_wants a.writes) t.table) }
  pub sent : after.messages ≡ before.messages ++ (Server S.server, messages.Vote S W votes.Ready) ∷ []
  pub noted : after.notes ≡ before.notes ++ break_notes T W (commit_wants a.writes) t.table

-- what an operation is answered whose wants aren't granted
abbrev pub locked_by : Refused → Result Answer CallFault
locked_by (Held u T) = Ok (Locked u T)
locked_by NotGranted = Err Memory

-- the works once T's active work has done an operation, or was refused it
abbrev pub settled : WorkerTable → Tid → WorkId → ActiveWork → Op → Answer → Option Answer → WorkerTable
settled t T W a op answer (Some refusal) = with_phase W (Active (counted a refusal)) t
settled t T W a op answer None = with_phase W (Active (done a op answer (wants_of op (is_fit answer)))) (after_grant T W (wants_of op (is_fit answer)) t)

abbrev pub told_breaks : WorkerTable → Tid → WorkId → Op → Answer → Option Answer → List Note
told_breaks t T W op answer (Some refusal) = []
told_breaks t T W op answer None = break_notes T W (wants_of op (is_fit answer)) t

-- T's active work has done an operation, or was refused it where another work stands in the way
pub record Granted (t : WorkerView) (T : Tid) (W : WorkId) (a : ActiveWork) (op : Op) (answer : Answer) (refusal : Option Answer) (before : Collected) (u : WorkerView) (after : Collected) : Type 0 where
  pub refused : refusal ≡ locked (conflict W (wants_of op (is_fit answer)) t.table)
  pub works : u ≡ record t { table = settled t.table T W a op answer refusal }
  pub sent : after.messages ≡ before.messages
  pub noted : after.notes ≡ before.notes ++ told_breaks t.table T W op answer refusal

-- T's active work has done an operation, or was refused it for a limit or for another work
pub record Settles (t : WorkerView) (T : Tid) (W : WorkId) (a : ActiveWork) (op : Op) (answer : Answer) (refusal : Option Answer) (before : Collected) (u : WorkerView) (after : Collected) : Type 0 where
  pub refused : refusal ≡ refusal_of_row t.table W a op answer (wants_of op (is_fit answer))
  pub works : u ≡ record t { table = settled t.table T W a op answer refusal }
  pub sent : after.messages ≡ before.messages
  pub noted : after.notes ≡ before.notes ++ told_breaks t.table T W op answer refusal

-- what an operation is answered
abbrev pub told_of : Answer → Option Answer → Answer
told_of answer (Some refusal) = refusal
told_of answer None = answer

-- When the machine of small steps stands where the whole system does.
use Rattle.std.specs.Prelude.{◌≡◌, not, ℕ, Bool, true, List, [], ◌∷◌, ◌++◌, Option, Some, None, is_some, All}
use Rattle.jn_base.specs.declared.names.ServerNo.{ServerNo}
use Rattle.jn_base.specs.declared.names.ClientNo.{ClientNo}
use Rattle.jn_base.specs.declared.names.Tid.{Tid}
use Rattle.jn_base.specs.declared.names.WorkId.{WorkId}
use Rattle.jn_base.specs.declared.names.Party.TheVariants.{Server}
use Rattle.jn_base.specs.declared.op.Command.TheVariants.{Open as OpenAt}
use Rattle.jn_msgs.specs.declared.message.Message.TheVariants as messages
use Rattle.jn_rows.specs.declared.worker.Work.{Work}
use Rattle.jn_rows.specs.declared.worker.Phase.{Phase}
use Rattle.jn_rows.specs.declared.worker.Phase.TheVariants.{Active}
use Rattle.jn_rows.specs.declared.coordinator.Transaction.{Transaction}
use Rattle.jn_rows.specs.declared.coordinator.Stage.{Stage}
use Rattle.jn_rows.specs.declared.coordinator.Stage.TheVariants.{Open, Voting, Committed, Aborted}
use Rattle.jn_rows.specs.declared.client.OpenWork.{OpenWork}
use Rattle.jn_rows.specs.declared.client.Outstanding.{Outstanding}
use Rattle.jn_rows.specs.Client.{ClientTable, is_end, work_at as open_at}
use Rattle.jn_rows.specs.Stable.{Pick}
use Rattle.jn_rows.specs.Outcomes.{Sent}
use Rattle.jn_rows.specs.Worker.{work_at}
use Rattle.jn_rows.specs.Coordinator.{transaction_at, is_work}
use Rattle.jn_system.specs.SmallSteps.World.{Working, Commit, Knowledge, Unknown, Begun, Voting as Notes, Committed as Finishes, World as Machine}
use Rattle.jn_system.specs.SmallSteps.Transactions.{AreParts}
use Rattle.jn_system.specs.SmallSteps.Steps.{Atom, run}
use Rattle.jn_system.specs.SmallSteps.Premises.{MayRun}
use Rattle.jn_system.specs.SmallSteps.Messages.{Says, IsWorkOf}
use Rattle.jn_system.specs.WholeSystem.World.{World, Memory, commits_in}
use Rattle.jn_system.specs.WholeSystem.Steps.{Step, Tell}

-- ---- what a server's tables say

abbrev pub working_in : Phase → Option Working
working_in (Active a) = Some (record { list = a.list; reads = a.reads })
working_in phase = None

abbrev pub working_of : Option Work → Option Working
working_of None = None
working_of (Some w) = working_in w.phase

abbrev pub active_in : Option Memory → WorkId → Option Working
active_in None W = None
active_in (Some m) W = working_of (work_at W m.worker)

abbrev pub next_in : Option Memory → WorkId → ℕ
next_in None W = 0
next_in (Some m) W = m.next W

abbrev pub knowledge_in : Stage → Knowledge
knowledge_in Open = Begun
knowledge_in (Voting b) = Notes (λ W. is_work W b.ready)
knowledge_in (Committed d) = Finishes (λ W. is_work W d.done)
knowledge_in (Aborted cause) = Unknown

abbrev pub knowledge_of : Option Transaction → Knowledge
knowledge_of None = Unknown
knowledge_of (Some x) = knowledge_in x.stage

abbrev pub known_in : Option Memory → Tid → Knowledge
known_in None T = Unknown
known_in (Some m) T = knowledge_of (transaction_at T m.coordinator.transactions)

-- what a transaction's stage in a coordinator's table says: its works are those of its end
abbrev pub IsStage : Machine → Tid → Stage → Type 0
IsStage w T Open = Unit {0}
IsStage w T (Voting b) = (w.ended T ≡ true) × AreParts w T b.works
IsStage w T (Committed d) = (w.ended T ≡ true) × AreParts w T d.works × (d.thanked ≡ true → w.closed T ≡ true)
IsStage w T (Aborted cause) = w.aborted T ≡ true

pub record IsTransaction (w : Machine) (s : ServerNo) (x : Transaction) : Type 0 where
  pub place : x.tid.server ≡ s
  pub begun : w.begun x.tid ≡ true
  pub is : IsStage w x.tid x.stage

-- each name stands once
abbrev pub AreTransactions : Machine → ServerNo → List Transaction → Type 0
AreTransactions w s [] = Unit {0}
AreTransactions w s (x ∷ xs) = IsTransaction w s x × (transaction_at x.tid xs ≡ None) × AreTransactions w s xs

-- the transactions of a history, the first commit first
abbrev pub commits_of : List Commit → List Tid
commits_of [] = []
commits_of (c ∷ history) = commits_of history ++ c.tid ∷ []

-- ---- the two

-- what the message says is true in the machine
abbrev pub IsTrue : Machine → Sent → Type 0
IsTrue w sent = Says w sent.1

-- a message to a work or a transaction goes to its server
abbrev pub IsAddressed : Sent → Type 0
IsAddressed (Server s, messages.Op c request W number op) = W.server ≡ s
IsAddressed (Server s, messages.Prepare T c W) = W.server ≡ s
IsAddressed (Server s, messages.Commit T W) = W.server ≡ s
IsAddressed (Server s, messages.Drop T W) = W.server ≡ s
IsAddressed (Server s, messages.End c request T works) = T.server ≡ s
IsAddressed (Server s, messages.Abort c request T works) = T.server ≡ s
IsAddressed (Server s, messages.Thanks c T) = T.server ≡ s
IsAddressed (Server s, messages.Vote T W vote) = T.server ≡ s
IsAddressed (Server s, messages.Done T W) = T.server ≡ s
IsAddressed (Server s, messages.Inquire T W) = T.server ≡ s
IsAddressed sent = Unit {0}

-- a client's works are those of its transaction, each at another server
abbrev pub AreOpen : Machine → Tid → List OpenWork → Type 0
AreOpen w T [] = Unit {0}
AreOpen w T (v ∷ vs) = IsWorkOf w T v.work × (open_at v.work.server vs ≡ None) × AreOpen w T vs

abbrev pub IsCurrent : Machine → Option Tid → List OpenWork → Type 0
IsCurrent w None works = Unit {0}
IsCurrent w (Some T) works = (w.begun T ≡ true) × AreOpen w T works

-- what a client waits for it may send again
abbrev pub IsOutstanding : Machine → Option Outstanding → Type 0
IsOutstanding w None = Unit {0}
IsOutstanding w (Some o) = Says w o.message × IsAddressed (o.to, o.message)

pub record IsClient (w : Machine) (t : ClientTable) : Type 0 where
  pub current : IsCurrent w t.transaction t.works
  pub waits : IsOutstanding w t.outstanding
  -- where it opens a work it has none
  pub opening : (o : Outstanding) (s : ServerNo) → t.outstanding ≡ Some o → o.command ≡ OpenAt s → open_at s t.works ≡ None

pub record Mirrors (r : World) (w : Machine) : Type 0 where
  pub up : (s : ServerNo) → w.up s ≡ is_some (r.memory s)
  pub found : (s : ServerNo) (c : Pick) → w.found s c ≡ r.found s c
  pub active : (W : WorkId) → w.active W ≡ active_in (r.memory W.server) W
  pub next : (W : WorkId) → w.next W ≡ next_in (r.memory W.server) W
  pub ticket : (s : ServerNo) (m : Memory) → r.memory s ≡ Some m → w.ticket s ≡ m.tickets.next
  pub knowledge : (T : Tid) → w.knowledge T ≡ known_in (r.memory T.server) T
  -- each work of a table was opened for its transaction
  pub owner : (s : ServerNo) (m : Memory) (W : WorkId) (v : Work) → r.memory s ≡ Some m → work_at W m.worker ≡ Some v → Says w (messages.Inquire v.tid W)
  pub transactions : (s : ServerNo) (m : Memory) → r.memory s ≡ Some m → AreTransactions w s m.coordinator.transactions
  pub clients : (c : ClientNo) → IsClient w (r.clients c)
  -- each commit has its line, in order
  pub commits : commits_of w.history ≡ commits_in r.lines
  -- every message that was sent is true
  pub says : All (IsTrue w) r.sent
  pub addressed : All IsAddressed r.sent

-- steps of the machine that may come, after which it stands where the whole system does
pub record MovesTo (r : World) (w : Machine) : Type 0 where
  pub atoms : List Atom
  pub may : MayRun atoms w
  pub mirrors : Mirrors r (run atoms w)
  -- none of them is the end of a transaction
  pub ended : (run atoms w).ended ≡ w.ended

-- ---- the steps that are shown here to be steps of the machine

-- all but an End, which is one only where its transaction had none before
abbrev pub is_shown : Step → Bool
is_shown (Tell c command) = not (is_end command)
is_shown step = true

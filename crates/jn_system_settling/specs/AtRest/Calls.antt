-- Settles in which clients go on: one that got the answer of an operation may be told its next one at once, as in a call of
-- several operations.
use Rattle.std.specs.Prelude.{◌≡◌, ℕ, Bool, true, false, nat_eq, List, [], ◌∷◌, ◌++◌, slice_get, Option, Some}
use Rattle.std.specs.List.{list_any}
use Rattle.jn_base.specs.declared.names.ServerNo.{ServerNo}
use Rattle.jn_base.specs.declared.names.ClientNo.{ClientNo}
use Rattle.jn_base.specs.declared.names.WorkId.{WorkId}
use Rattle.jn_base.specs.declared.names.RequestNo.{RequestNo}
use Rattle.jn_base.specs.declared.names.OperationNo.{OperationNo}
use Rattle.jn_base.specs.declared.names.Party.TheVariants.{Client}
use Rattle.jn_base.specs.declared.op.Op.{Op}
use Rattle.jn_base.specs.declared.op.Answer.{Answer}
use Rattle.jn_base.specs.declared.op.Answer.TheVariants as answers
use Rattle.jn_base.specs.declared.op.Command.TheVariants.{Do}
use Rattle.jn_msgs.specs.declared.message.Message.TheVariants as messages
use Rattle.jn_rows.specs.declared.client.Outstanding.{Outstanding}
use Rattle.jn_rows.specs.declared.worker.ActiveWork.{ActiveWork}
use Rattle.jn_rows.specs.Client.{is_operation}
use Rattle.jn_rows.specs.Outcomes.{Sent}
use Rattle.jn_rows.specs.Stable.{Pick, Left}
use Rattle.jn_system.specs.WholeSystem.Servers.{Room}
use Rattle.jn_system.specs.WholeSystem.Steps.{Step, Tell, handing}
use Rattle.jn_system.specs.WholeSystem.Course.{Course, go_on}
use Rattle.jn_system_reports.specs.BetweenSteps.Works.{IsActive}
use Rattle.jn_system_settling.specs.Settling.Rests.{EachInTurn, ComesNext, NothingIsLeft}

-- ---- what a client is told in a settle

-- an operation that was done, or that has read
abbrev pub gives : Answer → Bool
gives answers.Did = true
gives (answers.Read bytes) = true
gives answer = false

-- The last step handed the client an answer of an operation that was done or has read. Whether the client waited for it isn't asked,
-- so that the laws hold of more settles.
pub record HasAnswered (c : Course) (client : ClientNo) : Type 0 where
  pub before : List Step
  pub number : ℕ
  pub room : Room
  pub stop : Option (Pick → Left)
  pub request : RequestNo
  pub answer : Answer
  pub is : c.steps ≡ before ++ handing number room stop ∷ []
  pub message : slice_get c.world.sent number ≡ Some (Client client, messages.Answer client request answer)
  pub given : gives answer ≡ true

-- a step is what comes next, or a client that has just got its answer is told an operation
pub data ComesOrIsTold (servers : List ServerNo) (c : Course) : Step → Type 0 where
  comes : (step : Step) → ComesNext servers c step → ComesOrIsTold servers c step
  told : (client : ClientNo) (s : ServerNo) (op : Op) → HasAnswered c client → ComesOrIsTold servers c (Tell client (Do s op))

abbrev pub AreNextOrTold : List ServerNo → List Step → Course → Type 0
AreNextOrTold servers steps c = EachInTurn (ComesOrIsTold servers) steps c

-- and so on, until nothing is left to do
pub record ComeToRestTold (servers : List ServerNo) (steps : List Step) (c : Course) : Type 0 where
  pub each : AreNextOrTold servers steps c
  pub rest : NothingIsLeft servers (go_on steps c)

-- ---- operations on their way

-- a message of this number waits
pub record Waits (sent : List Sent) (waiting : List ℕ) (x : Sent) : Type 0 where
  pub number : ℕ
  pub waits : list_any (nat_eq number) waiting ≡ true
  pub is : slice_get sent number ≡ Some x

-- An operation that a client waits for: its message waits, an answer to it waits, or its work takes no operations any more, so that it is
-- refused wherever it comes.
pub data IsOnItsWay (c : Course) (client : ClientNo) (o : Outstanding) : Type 0 where
  asks : Waits c.world.sent c.waiting (o.to, o.message) → IsOnItsWay c client o
  answered : (answer : Answer) → Waits c.world.sent c.waiting (Client client, messages.Answer client o.request answer) → IsOnItsWay c client o
  is_over : (W : WorkId) (number : OperationNo) (op : Op) → o.message ≡ messages.Op client o.request W number op → ((a : ActiveWork) → IsActive c.world W a → ⊥) → IsOnItsWay c client o

abbrev pub AreOnTheirWay : Course → Type 0
AreOnTheirWay c = (client : ClientNo) (o : Outstanding) → (c.world.clients client).outstanding ≡ Some o → is_operation o.command ≡ true → IsOnItsWay c client o

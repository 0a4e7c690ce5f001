-- What each message says for good.
use Rattle.std.specs.Prelude.{◌≡◌, ◌≢◌, ◌⊎◌, true, List, Option, Some, None}
use Rattle.jn_base.specs.declared.names.Tid.{Tid}
use Rattle.jn_base.specs.declared.names.WorkId.{WorkId}
use Rattle.jn_msgs.specs.declared.message.Message.{Message}
use Rattle.jn_msgs.specs.declared.message.Message.TheVariants as messages
use Rattle.jn_msgs.specs.declared.message.Outcome.{Outcome}
use Rattle.jn_msgs.specs.declared.message.Outcome.TheVariants as outcomes
use Rattle.jn_msgs.specs.declared.message.Vote.{Vote}
use Rattle.jn_msgs.specs.declared.message.Vote.TheVariants as votes
use Rattle.jn_rows.specs.Coordinator.{is_work}
use Rattle.jn_system.specs.SmallSteps.World.{World}
use Rattle.jn_system.specs.SmallSteps.Transactions.{AreParts}

abbrev pub IsPartOf : World → Tid → WorkId → Type 0
IsPartOf w T W = (w.ended T ≡ true) × (w.part T W.server ≡ Some W)

abbrev pub IsWorkOf : World → Tid → WorkId → Type 0
IsWorkOf w T W = (w.opened W ≡ true) × (w.owner W ≡ T)

abbrev pub BegunSays : World → Option Tid → Type 0
BegunSays w None = Unit {0}
BegunSays w (Some T) = w.begun T ≡ true

abbrev pub OpenedSays : World → Tid → Option WorkId → Type 0
OpenedSays w T None = Unit {0}
OpenedSays w T (Some W) = IsWorkOf w T W

abbrev pub OutcomeSays : World → Tid → Outcome → Type 0
OutcomeSays w T outcomes.Committed = w.named T ≡ true
OutcomeSays w T (outcomes.Aborted cause) = w.aborted T ≡ true
OutcomeSays w T (outcomes.Waiting s u by) = Unit {0}
OutcomeSays w T (outcomes.NotKnown s epoch) = (w.aborted T ≡ true) ⊎ (w.closed T ≡ true)

abbrev pub VoteSays : World → WorkId → Vote → Type 0
VoteSays w W votes.Ready = w.was_ready W ≡ true
VoteSays w W vote = Unit {0}

-- a work of the transaction is dropped that won't commit, that is over, or that its end doesn't have
abbrev pub DropSays : World → Tid → WorkId → Type 0
DropSays w T W = IsWorkOf w T W × ((w.aborted T ≡ true) ⊎ ((w.over W ≡ true) ⊎ ((w.ended T ≡ true) × (w.part T W.server ≢ Some W))))

abbrev pub AreWorksOf : World → Tid → List WorkId → Type 0
AreWorksOf w T works = (W : WorkId) → is_work W works ≡ true → IsWorkOf w T W

abbrev pub Says : World → Message → Type 0
Says w (messages.Begin c request) = Unit {0}
Says w (messages.Open c request T) = w.begun T ≡ true
Says w (messages.Op c request W number op) = w.opened W ≡ true
Says w (messages.End c request T works) = (w.begun T ≡ true) × (w.ended T ≡ true) × AreParts w T works
Says w (messages.Abort c request T works) = (w.begun T ≡ true) × AreWorksOf w T works
Says w (messages.Thanks c T) = w.closed T ≡ true
Says w (messages.Begun c request T) = BegunSays w T
Says w (messages.Opened c request T W) = OpenedSays w T W
Says w (messages.Answer c request answer) = Unit {0}
Says w (messages.Outcome c T outcome) = OutcomeSays w T outcome
Says w (messages.Prepare T c W) = IsPartOf w T W
Says w (messages.Commit T W) = (w.named T ≡ true) × IsPartOf w T W
Says w (messages.Drop T W) = DropSays w T W
Says w (messages.Vote T W vote) = VoteSays w W vote × IsPartOf w T W
Says w (messages.Done T W) = w.over W ≡ true
Says w (messages.Inquire T W) = IsWorkOf w T W

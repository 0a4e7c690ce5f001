-- What each call of a node does, from the node before to the node after.
use Rattle.std.specs.Prelude.{◌≡◌, List, [], ◌++◌, Some, None}
use Rattle.jn_base.specs.declared.names.ServerNo.{ServerNo}
use Rattle.jn_intent.specs.Scrubbing.{counts_in, IsIdle}
use Rattle.jn_device.specs.Device.{DeviceState}
use Rattle.jn_device.specs.Happens.{Happens}
use Rattle.jn_msgs.specs.declared.message.Message.{Message}
use Rattle.jn_page_state.specs.Images.{IsImage}
use Rattle.jn_page_state.specs.Pages.{found_on}
use Rattle.jn_records.specs.StablePages.{Counts, page_count}
use Rattle.jn_rows.specs.Outcomes.{RowOutcome, Sent}
use Rattle.jn_rows.specs.Stable.{Pick}
use Rattle.jn_server.specs.Handling.{left_by_work}
use Rattle.jn_server.specs.Seen.{ServerView}
use Rattle.jn_storage.specs.Calls.{state}
use Rattle.jn_store.specs.Store.{StoreView}
use Rattle.jn_system.specs.WholeSystem.World.{Memory}
use Rattle.jn_wire.specs.declared.frame.Body.{Body}
use Rattle.jn_node.specs.declared.node.Node.{Node}
use Rattle.jn_node.specs.Nodes.{counts_at, desk_at, running_at}
use Rattle.jn_node.specs.Running.{Running, IsMade, state_of, beside_at}
use Rattle.jn_node.specs.Serving.{Desk, Begins, Settles, ServesFrame, IsTaken, row_for, step_of, sent_bytes, to_itself, to_others}

-- the same server, of as many pages
abbrev pub IsSameNode : {S : Type 0} → Node S → Node S → Type 0
IsSameNode n m = (m.server ≡ n.server) × (m.counts ≡ n.counts)

-- these messages are sent: those to itself wait behind all others, and the frames of the others stand behind all other answers
pub record PostsAll {S : Type 0} (n : Node S) (sent : List Sent) (m : Node S) : Type 0 where
  pub own : m.own.items ≡ n.own.items ++ to_itself n.server sent
  pub answers : m.answers.items ≡ n.answers.items ++ sent_bytes n.server (to_others n.server sent)

-- a message is taken, and what it leads to is sent
pub record HandlesMessage {S : Type 0} (look : S → StoreView) (n : Node S) (message : Message) (m : Node S) : Type 0 where
  pub made : IsTaken n.server (counts_at n) message (running_at look n) (running_at look m)
  pub posts : PostsAll n (row_for (counts_at n) (running_at look n) message).messages m

-- a step is made, which sends these messages
pub record WorksBy (s : ServerNo) (g : Counts) (x : Running) (messages : List Sent) (y : Running) : Type 0 where
  pub row : RowOutcome Memory
  pub row_is : step_of g x ≡ Some row
  pub made : IsMade s g row (left_by_work (state_of g x) row.changes (beside_at g x)) x y
  pub sends : messages ≡ row.messages

-- A frame is begun, by which this is sent to others.
pub record BeginsBy {S : Type 0} (look : S → StoreView) (n : Node S) (body : Body) (m : Node S) : Type 0 where
  pub more : List Sent
  pub answers : m.answers.items ≡ n.answers.items ++ sent_bytes n.server more
  pub begins : Begins n.server (counts_at n) (running_at look n) body (desk_at look m more)

-- A part of what follows from a frame, in which this is sent to others: whatever was sent before, what follows afterwards follows from before.
pub record GoesOn {S : Type 0} (look : S → StoreView) (n m : Node S) : Type 0 where
  pub more : List Sent
  pub answers : m.answers.items ≡ n.answers.items ++ sent_bytes n.server more
  pub goes : (sent : List Sent) (e : Desk) → Settles n.server (counts_at n) (desk_at look m (sent ++ more)) e → Settles n.server (counts_at n) (desk_at look n sent) e

-- no step is left to make
abbrev pub RestsBy : {S : Type 0} → (S → StoreView) → Node S → Type 0
RestsBy look n = step_of (counts_at n) (running_at look n) ≡ None

-- or a message of its own waits
abbrev pub RestsUnlessOwn : {S : Type 0} → (S → StoreView) → Node S → Type 0
RestsUnlessOwn look n = n.own.items ≡ [] → RestsBy look n

-- nothing is left to do
pub record IsAtRest {S : Type 0} (look : S → StoreView) (n : Node S) : Type 0 where
  pub own : n.own.items ≡ []
  pub steps : RestsBy look n

-- no message of its own waited, and nothing was done
pub record FindsNone {S : Type 0} (n m : Node S) : Type 0 where
  pub same : m ≡ record n { own = m.own }
  pub own : m.own.items ≡ []
  pub none : n.own.items ≡ []

-- All of what follows, in which this is sent to others.
pub record SettlesAll {S : Type 0} (look : S → StoreView) (n m : Node S) : Type 0 where
  pub more : List Sent
  pub answers : m.answers.items ≡ n.answers.items ++ sent_bytes n.server more
  pub settles : (sent : List Sent) → Settles n.server (counts_at n) (desk_at look n sent) (desk_at look m (sent ++ more))

-- a frame is served, and the frames of what is sent to others are added to the answers
pub record TakesFrame {S : Type 0} (look : S → StoreView) (n : Node S) (body : Body) (m : Node S) : Type 0 where
  pub sent : List Sent
  pub serves : ServesFrame n.server (counts_at n) (running_at look n) body sent (running_at look m)
  pub answers : m.answers.items ≡ n.answers.items ++ sent_bytes n.server sent

-- Its pages are cleaned, and the server goes down: the same is found then, and where it had nothing but files they are those of a sound image.
pub record LeavesScrubbed (v : ServerView) (w : StoreView) : Type 0 where
  pub count : page_count (counts_in v.storage.accounts) ≡ w.count
  pub found : (c : Pick) → found_on (counts_in v.storage.accounts) w c ≡ state v.storage
  pub image : IsIdle v.storage → IsImage v.storage.accounts.server (counts_in v.storage.accounts) (state v.storage).files w
  pub happens : (from : DeviceState) → Happens from v.storage.store.device → Happens from w.device

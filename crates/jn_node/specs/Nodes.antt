-- A node between two calls, and between two rows of one.
use Rattle.std.specs.Prelude.{◌≡◌, ℕ, ◌+◌, Bool, true, ◌&&◌, List, [], ◌∷◌}
use Rattle.jn_base.specs.declared.names.ServerNo.{ServerNo}
use Rattle.jn_intent.specs.Scrubbing.{counts_in}
use Rattle.jn_lock_rows.specs.Matching.{are_rising}
use Rattle.jn_msgs.specs.Ranges.{is_near, names_near}
use Rattle.jn_msgs.specs.Weights.{weight}
use Rattle.jn_msgs.specs.declared.message.Message.{Message}
use Rattle.jn_records.specs.StablePages.{Counts}
use Rattle.jn_recovery.specs.Counts.{counts_by}
use Rattle.jn_row_ranges.specs.Taking.{is_from_server}
use Rattle.jn_row_ranges.specs.Weighing.{goings}
use Rattle.jn_row_ranges.specs.Within.{MemoryWithin}
use Rattle.jn_rows.specs.Outcomes.{Sent}
use Rattle.jn_server.specs.Reading.{IsRoomOfPages, StandsOnPages}
use Rattle.jn_server.specs.Seen.{ServerView, IsServer, memory_of, view_with}
use Rattle.jn_store.specs.Store.{StoreView}
use Rattle.jn_node.specs.declared.node.Node.{Node}
use Rattle.jn_node.specs.Running.{Running, IsMoment, state_of}
use Rattle.jn_node.specs.Serving.{Desk}

abbrev pub running_of : ServerView → Running
running_of v = record { memory = memory_of v; store = v.storage.store; held = v.storage.accounts.held }

-- The server of this number and these counts is up, what it counts and reads is on its pages, its works stand in rising order of their
-- names, and it names no server but the eight that there may be.
pub record IsRunning (s : ServerNo) (g : Counts) (v : ServerView) : Type 0 where
  pub serves : IsServer v
  pub stands : StandsOnPages v
  pub room : IsRoomOfPages v
  pub order : are_rising v.worker.table ≡ true
  pub its : v.storage.accounts.server ≡ s
  pub counts : counts_in v.storage.accounts ≡ g
  pub near : is_near 8 s ≡ true
  pub within : MemoryWithin 8 s (memory_of v)
  pub moment : IsMoment s g (running_of v)

abbrev pub view_at : {S : Type 0} → (S → StoreView) → Node S → ServerView
view_at look n = view_with look n.running

abbrev pub counts_at : {S : Type 0} → Node S → Counts
counts_at n = counts_by n.counts

abbrev pub running_at : {S : Type 0} → (S → StoreView) → Node S → Running
running_at look n = running_of (view_at look n)

-- what a server sends: no request of a client, and no name of a server that isn't there
abbrev pub are_own : List Message → Bool
are_own [] = true
are_own (m ∷ own) = (is_from_server m && names_near 8 m) && are_own own

-- Between two rows of a call. What it sent to itself may wait.
pub record IsAtWork {S : Type 0} (look : S → StoreView) (n : Node S) : Type 0 where
  pub runs : IsRunning n.server (counts_at n) (view_at look n)
  pub own : are_own n.own.items ≡ true

-- Between two calls: nothing waits that it sent to itself.
pub record IsNode {S : Type 0} (look : S → StoreView) (n : Node S) : Type 0 where
  pub runs : IsRunning n.server (counts_at n) (view_at look n)
  pub rests : n.own.items ≡ []

-- ---- how much is left to do

abbrev pub weigh_own : List Message → ℕ
weigh_own [] = 0
weigh_own (m ∷ own) = weight m + weigh_own own

-- how many works go
abbrev pub goings_at : {S : Type 0} → (S → StoreView) → Node S → ℕ
goings_at look n = goings (state_of (counts_at n) (running_at look n)).works (running_at look n).memory.worker

-- what it has yet to take of its own messages, and the works that go
abbrev pub left_to_take : {S : Type 0} → (S → StoreView) → Node S → ℕ
left_to_take look n = weigh_own n.own.items + goings_at look n

-- ---- what it has sent

-- what it has yet to take of its own messages, and what it has sent to others
abbrev pub desk_at : {S : Type 0} → (S → StoreView) → Node S → List Sent → Desk
desk_at look n sent = record { running = running_at look n; own = n.own.items; sent = sent }

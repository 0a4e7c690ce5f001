-- What calls of a server leave at its place.
use Rattle.std.specs.Prelude.{◌≡◌, ◌≤◌, ◌+◌, ℕ, Bool, true, false, length, Option, Some, None}
use Rattle.jn_base.specs.declared.names.ServerNo.{ServerNo}
use Rattle.jn_msgs.specs.Collected.{Collected}
use Rattle.jn_records.specs.StablePages.{Counts}
use Rattle.jn_server.specs.Seen.{ServerView, view_with, IsServer}
use Rattle.jn_storage.specs.Storage.{StorageLater}
use Rattle.jn_store.specs.Store.{StoreView}
use Rattle.jn_place.specs.declared.place.Place.{Place}
use Rattle.jn_place.specs.declared.place.Restarted.{Restarted}
use Rattle.jn_place.specs.declared.place.Restarted.TheVariants as came
use Rattle.jn_place.specs.declared.place.Slot.{Slot}
use Rattle.jn_place.specs.declared.place.Slot.TheVariants.{Up, Down, Gone}
use Rattle.jn_row_ranges.specs.Taking.{AllCanBeTaken}
use Rattle.jn_place.specs.Places.{IsPlace, HoldsUp, IsDownAt}

-- the server is up and serves, and has drawn no more names than this
abbrev pub Serves : {S : Type 0} → (S → StoreView) → ℕ → Slot S → Type 0
Serves look most (Up p) = IsServer (view_with look p) × (p.tickets.next ≤ most)
Serves look most (Down s) = ⊥
Serves look most Gone = ⊥

-- a call that was done or stopped, and has drawn so many names at most
pub record IsCalled (names : ℕ) (done : Bool) (v w : ServerView) : Type 0 where
  pub later : StorageLater v.storage w.storage
  pub serves : done ≡ true → IsServer w
  pub drawn : done ≡ true → w.tickets.next ≤ v.tickets.next + names

abbrev pub Called : {S : Type 0} → (S → StoreView) → ℕ → Bool → Slot S → Slot S → Type 0
Called look names done (Up p) (Up q) = IsCalled names done (view_with look p) (view_with look q)
Called look names done a b = ⊥

-- a call that was done with what it sent and reported, or stopped
abbrev pub Answered : {S : Type 0} → (S → StoreView) → Slot S → Slot S → Option Collected → Type 0
Answered look before after (Some out) = Called look (length out.messages) true before after × AllCanBeTaken out.messages
Answered look before after None = Called look 0 false before after

-- a server that went down left its store
abbrev pub LeavesStore : {S : Type 0} → Slot S → Slot S → Type 0
LeavesStore (Up p) (Down s) = s ≡ p.storage.0
LeavesStore a b = ⊥

-- the store that a server stands on, up or down
abbrev pub StandsOn : {S : Type 0} → Slot S → S → Type 0
StandsOn (Up p) s = s ≡ p.storage.0
StandsOn (Down t) s = s ≡ t
StandsOn Gone s = ⊥

-- a restart: the server is up and has drawn no name yet, or it is down
abbrev pub CameUp : {S : Type 0} → (S → StoreView) → ServerNo → Counts → Slot S → Restarted → Type 0
CameUp look server g after (came.Up epoch tids) = HoldsUp look server g 0 true after
CameUp look server g after came.Stopped = IsDownAt look server g after
CameUp look server g after came.UsedUp = IsDownAt look server g after

-- a step that was done with what it sent and reported, or stopped
abbrev pub LeavesPlace : {S : Type 0} → (S → StoreView) → ServerNo → ℕ → Place S → Option Collected → Type 0
LeavesPlace look server most p (Some out) = IsPlace look server (most + length out.messages) p × AllCanBeTaken out.messages
LeavesPlace look server most p None = IsPlace look server most p

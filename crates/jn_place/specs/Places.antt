-- When a server stands at its place, up or down, so that each of its calls may come.
use Rattle.std.specs.Prelude.{◌≡◌, ◌≤◌, ℕ, Bool, true, false, ⊤, []}
use Rattle.jn_base.specs.declared.names.ServerNo.{ServerNo}
use Rattle.jn_page_state.specs.Recoverable.{IsRecoverable}
use Rattle.jn_intent.specs.Scrubbing.{counts_in}
use Rattle.jn_records.specs.StablePages.{Counts, page_count}
use Rattle.jn_recovery.specs.Counts.{counts_by}
use Rattle.jn_server.specs.Reading.{StandsOnPages}
use Rattle.jn_server.specs.Seen.{ServerView, view_with, IsServer}
use Rattle.jn_store.specs.Store.{StoreView}
use Rattle.jn_place.specs.declared.place.Place.{Place}
use Rattle.jn_place.specs.declared.place.Slot.{Slot}
use Rattle.jn_place.specs.declared.place.Slot.TheVariants.{Up, Down, Gone}

-- A server after a call, which was done or stopped: of this number, with so many pages, and no more names drawn than this.
-- One that was stopped serves no more.
pub record IsHeld (server : ServerNo) (g : Counts) (most : ℕ) (done : Bool) (v : ServerView) : Type 0 where
  pub its : v.storage.accounts.server ≡ server
  pub counts : counts_in v.storage.accounts ≡ g
  pub size : page_count g ≡ v.storage.store.count
  pub serves : done ≡ true → IsServer v
  pub names : done ≡ true → v.tickets.next ≤ most

-- the server is up, and its last call was done or stopped
abbrev pub HoldsUp : {S : Type 0} → (S → StoreView) → ServerNo → Counts → ℕ → Bool → Slot S → Type 0
HoldsUp look server g most done (Up p) = IsHeld server g most done (view_with look p)
HoldsUp look server g most done (Down s) = ⊥
HoldsUp look server g most done Gone = ⊥

-- the server is up and serves, or it is down and a restart may begin
abbrev pub Stands : {S : Type 0} → (S → StoreView) → ServerNo → Counts → ℕ → Slot S → Type 0
Stands look server g most (Up p) = IsHeld server g most true (view_with look p)
Stands look server g most (Down s) = IsRecoverable server g (look s)
Stands look server g most Gone = ⊥

-- its device has reported no fault that was outside
abbrev pub NoneTold : {S : Type 0} → (S → StoreView) → Slot S → Type 0
NoneTold look (Up p) = (look p.storage.0).told ≡ []
NoneTold look (Down s) = (look s).told ≡ []
NoneTold look Gone = ⊥

-- something stands there
abbrev pub is_there : {S : Type 0} → Slot S → Bool
is_there (Up p) = true
is_there (Down s) = true
is_there Gone = false

-- the server is down, and a restart may begin
abbrev pub IsDownAt : {S : Type 0} → (S → StoreView) → ServerNo → Counts → Slot S → Type 0
IsDownAt look server g (Down s) = IsRecoverable server g (look s)
IsDownAt look server g (Up p) = ⊥
IsDownAt look server g Gone = ⊥

-- the store has so many pages
abbrev pub HasPages : {S : Type 0} → (S → StoreView) → Counts → Slot S → Type 0
HasPages look g (Up p) = page_count g ≡ (look p.storage.0).count
HasPages look g (Down s) = page_count g ≡ (look s).count
HasPages look g Gone = ⊥

abbrev pub is_up : {S : Type 0} → Slot S → Bool
is_up (Up p) = true
is_up (Down s) = false
is_up Gone = false

-- a server that is up counts as many records and heads as there are on its pages, from which a restart may begin
abbrev pub CountsAt : {S : Type 0} → (S → StoreView) → Slot S → Type 0
CountsAt look (Up p) = StandsOnPages (view_with look p)
CountsAt look (Down s) = ⊤
CountsAt look Gone = ⊤

-- a server's place between two steps
pub record IsPlace {S : Type 0} (look : S → StoreView) (server : ServerNo) (most : ℕ) (p : Place S) : Type 0 where
  pub stands : Stands look server (counts_by p.counts) most p.slot
  pub told : NoneTold look p.slot
  pub counted : CountsAt look p.slot

-- What the data pages of a server that is up are in use for, at a moment of a run.
use Rattle.std.specs.Prelude.{◌≡◌, ℕ}
use Rattle.jn_intent.specs.Scrubbing.{counts_in}
use Rattle.jn_machine.specs.Chances.{Setup}
use Rattle.jn_machine.specs.Runs.{Moment}
use Rattle.jn_node.specs.Nodes.{running_of}
use Rattle.jn_node.specs.Running.{ArePagesCounted}
use Rattle.jn_place.specs.declared.place.Slot.{Slot}
use Rattle.jn_place.specs.declared.place.Slot.TheVariants.{Up, Down, Gone}
use Rattle.jn_rows.specs.Stable.{stable}
use Rattle.jn_server.specs.Reading.{IsRoomOfPages}
use Rattle.jn_server.specs.Seen.{ServerView, view_with}
use Rattle.jn_server.specs.Standing.{standing_pages, beside_on}
use Rattle.jn_storage.specs.Calls.{state}
use Rattle.jn_storage.specs.Storage.{IsCounted}
use Rattle.jn_store.specs.Store.{StoreView}

-- Each data page is free, that of a stored block, a map page that a head names, or held by a prepared work, and there is no other: as the server
-- counts in memory. Files and works are those that the moment finds at it, and map pages are those that stand on its pages.
pub record IsCountedBy (x : Setup) (m : Moment) (n : ℕ) (v : ServerView) : Type 0 where
  pub counted : IsCounted (state v.storage) v.storage.accounts
  pub counts : counts_in v.storage.accounts ≡ x.counts (record { 0 = n })
  pub found : stable (m.state.course.world.found (record { 0 = n })) ≡ state v.storage
  pub maps : v.storage.accounts.maps ≡ (beside_on (x.counts (record { 0 = n })) (standing_pages v.storage.store)).maps
  -- so it is by the pages alone, where it counts as free what is free on them, as it does behind a step, a message and a settle
  pub pages : IsRoomOfPages v → ArePagesCounted (x.counts (record { 0 = n })) (running_of v)

-- A server that is down counts nothing, and counts anew as it comes up.
abbrev pub CountsDataPages : {S : Type 0} → (S → StoreView) → Setup → Moment → ℕ → Slot S → Type 0
CountsDataPages look x m n (Up p) = IsCountedBy x m n (view_with look p)
CountsDataPages look x m n (Down s) = Unit {0}
CountsDataPages look x m n Gone = Unit {0}

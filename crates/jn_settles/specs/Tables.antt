-- What is seen of the servers at their places, as the whole system has it.
use Rattle.std.specs.Prelude.{◌≡◌, ℕ, true, List, slice_get, Option, Some, None}
use Rattle.jn_base.specs.declared.names.ServerNo.{ServerNo}
use Rattle.jn_base.specs.declared.names.WorkId.{WorkId}
use Rattle.jn_place.specs.declared.place.Place.{Place}
use Rattle.jn_place.specs.declared.place.Slot.{Slot}
use Rattle.jn_place.specs.declared.place.Slot.TheVariants.{Up, Down, Gone}
use Rattle.jn_place.specs.Places.{is_up}
use Rattle.jn_rows.specs.declared.worker.Work.{Work}
use Rattle.jn_server.specs.Seen.{view_with, memory_of}
use Rattle.jn_store.specs.Store.{StoreView}
use Rattle.jn_system.specs.WholeSystem.World.{Memory}
use Rattle.jn_system_settling.specs.AtRest.Settled.{entry_in}

-- what a server that is up remembers
abbrev pub memory_on : {S : Type 0} → (S → StoreView) → Slot S → Option Memory
memory_on look (Up p) = Some (memory_of (view_with look p))
memory_on look (Down s) = None
memory_on look Gone = None

abbrev pub memory_in : {S : Type 0} → (S → StoreView) → Option (Place S) → Option Memory
memory_in look None = None
memory_in look (Some p) = memory_on look p.slot

abbrev pub memory_at : {S : Type 0} → (S → StoreView) → List (Place S) → ServerNo → Option Memory
memory_at look places q = memory_in look (slice_get places q.0)

-- the work's entry at its server
abbrev pub live_in : {S : Type 0} → (S → StoreView) → List (Place S) → WorkId → Option Work
live_in look places W = entry_in (memory_at look places W.server) W

-- every server is up
abbrev pub AllUp : {S : Type 0} → List (Place S) → Type 0
AllUp {S} places = (n : ℕ) (p : Place S) → slice_get places n ≡ Some p → is_up p.slot ≡ true

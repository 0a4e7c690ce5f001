-- What a server that is up reads of its pages.
use Rattle.std.specs.Prelude.{◌≡◌, false, ⊤}
use Rattle.jn_base.specs.declared.names.ServerNo.{ServerNo}
use Rattle.jn_device.specs.Device.{DeviceState}
use Rattle.jn_page_state.specs.Pages.{pool_on, heads_on}
use Rattle.jn_page_state.specs.Recoverable.{IsRecoverable}
use Rattle.jn_place.specs.declared.place.Place.{Place}
use Rattle.jn_place.specs.declared.place.Slot.{Slot}
use Rattle.jn_place.specs.declared.place.Slot.TheVariants.{Up, Down, Gone}
use Rattle.jn_place.specs.Exact.{has_work_at}
use Rattle.jn_records.specs.MapPlaces.{maps_in}
use Rattle.jn_records.specs.StablePages.{Counts}
use Rattle.jn_recovery.specs.Counts.{counts_by}
use Rattle.jn_server.specs.Counted.{CountsAll}
use Rattle.jn_server.specs.Seen.{view_with, memory_of, room_of}
use Rattle.jn_server.specs.Standing.{standing_pages, free_on, beside_on, has_rubbish}
use Rattle.jn_storage.specs.Calls.{state}
use Rattle.jn_store.specs.Store.{StoreView}
use Rattle.jn_worker.specs.Leaving.{beside_of}
use Rattle.jn_machine.specs.Devices.{pages_of}

-- Its storage has so many pages, it counts what is on them beside files, works and flags, and no record and no head is there that nothing names. A recovery
-- may begin from its pages, as from those of a server that is down.
abbrev pub HasCounts : {S : Type 0} → (S → StoreView) → ServerNo → Counts → Slot S → Type 0
HasCounts look q g (Up p) =
    (p.storage.1.table.counts ≡ g) × (beside_of (view_with look p).storage.accounts ≡ beside_on g (standing_pages (look p.storage.0)))
    × CountsAll g (state (view_with look p).storage) (standing_pages (look p.storage.0))
    × IsRecoverable q g (look p.storage.0)
HasCounts look q g (Down s) = IsRecoverable q g (look s)
HasCounts look q g Gone = ⊤

-- its rows read what stands on its pages: what is free, whether a rubbish record is left, which map pages there are
abbrev pub ReadsPages : {S : Type 0} → (S → StoreView) → (S → DeviceState) → Counts → Slot S → Type 0
ReadsPages look device g (Up p) =
    let v = view_with look p in
    let pages = pages_of (device p.storage.0) in
    ((room_of v.storage).free ≡ free_on g pages (state v.storage) (memory_of v)) × ((room_of v.storage).rubbish ≡ has_rubbish (pool_on g pages))
    × ((room_of v.storage).maps ≡ maps_in (heads_on g pages))
ReadsPages look device g slot = ⊤

-- a place with nothing to do, of which the code tells rightly
pub record IsIdleAt {S : Type 0} (look : S → StoreView) (device : S → DeviceState) (p : Place S) : Type 0 where
  pub reads : ReadsPages look device (counts_by p.counts) p.slot
  pub idle : has_work_at look p.slot ≡ false

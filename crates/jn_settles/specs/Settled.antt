-- What a settle leaves in the code's world where all servers are up as it ends.
use Rattle.std.specs.Prelude.{◌≡◌, ◌⊎◌, ℕ, suc, true, false, List, slice_get, Some, None}
use Rattle.std.specs.List.{list_any}
use Rattle.jn_at_rest.specs.Settled.{texts_since}
use Rattle.jn_base.specs.declared.names.WorkId.{WorkId}
use Rattle.jn_base.specs.declared.names.Tid.{Tid}
use Rattle.jn_base.specs.declared.op.Command.TheVariants.{End}
use Rattle.jn_device.specs.Device.{DeviceState}
use Rattle.jn_page_state.specs.Pages.{pool_on}
use Rattle.jn_net.specs.Carried.{waiting}
use Rattle.jn_place.specs.declared.place.Place.{Place}
use Rattle.jn_place.specs.declared.place.Slot.{Slot}
use Rattle.jn_place.specs.declared.place.Slot.TheVariants.{Up, Down, Gone}
use Rattle.jn_records.specs.StablePages.{Counts}
use Rattle.jn_recovery.specs.Counts.{counts_by}
use Rattle.jn_report.specs.declared.line.Line.{Line}
use Rattle.jn_rows.specs.declared.client.Outstanding.{Outstanding}
use Rattle.jn_rows.specs.declared.worker.Work.{Work}
use Rattle.jn_rows.specs.Client.{ClientTable}
use Rattle.jn_rows.specs.Stable.{StableState, Pick, is_going}
use Rattle.jn_server.specs.Seen.{view_with}
use Rattle.jn_server.specs.Standing.{has_rubbish}
use Rattle.jn_world_refines.specs.Stands.{Standing}
use Rattle.jn_store.specs.Store.{StoreView}
use Rattle.jn_system_settling.specs.AtRest.Settled.{tells_waiting, tells_outcome, holds_undecided}
use Rattle.jn_machine.specs.Devices.{pages_of}
use Rattle.jn_settles.specs.Tables.{memory_at, live_in}

-- no pick finds a work that goes, and none a flag
pub record FindsNothing (found : Pick → StableState) : Type 0 where
  pub goes : (c : Pick) (W : WorkId) → is_going ((found c).works W) ≡ false
  pub flags : (c : Pick) (T : Tid) → (found c).flags T ≡ None

-- the server is up, and so with its storage; and no record on its pages is rubbish
abbrev pub HasNothingLeft : {S : Type 0} → (S → StoreView) → (S → DeviceState) → Counts → Slot S → Type 0
HasNothingLeft look device g (Up p) = FindsNothing (view_with look p).storage.found × (has_rubbish (pool_on g (pages_of (device p.storage.0))) ≡ false)
HasNothingLeft look device g (Down s) = ⊥
HasNothingLeft look device g Gone = ⊥

-- The lines that were added are those of a settle.
pub record IsSettledWorld {S : Type 0} (look : S → StoreView) (device : S → DeviceState) (before after : Standing S) (lines lines' : List Line) : Type 0 where
  pub waits : waiting after.net ≡ None
  -- no work goes, and there is no flag and no rubbish record
  pub servers : (n : ℕ) (p : Place S) → slice_get after.places n ≡ Some p → HasNothingLeft look device (counts_by p.counts) p.slot
  -- a client waits at most for an end that was reported to wait
  pub answers : (n : ℕ) (t : ClientTable) (o : Outstanding) → slice_get after.clients n ≡ Some t → t.outstanding ≡ Some o
      → (o.command ≡ End) × (list_any (tells_waiting (record { 0 = suc n }) o.event) (texts_since lines lines') ≡ true)
  -- each live work is of a transaction that its coordinator holds undecided or whose outcome was reported, or it wasn't live before
  pub works : (W : WorkId) (w : Work) → live_in look after.places W ≡ Some w
      → (holds_undecided (memory_at look after.places w.tid.server) w.tid ≡ true) ⊎ ((list_any (tells_outcome w.tid) (texts_since lines lines') ≡ true) ⊎ (live_in look before.places W ≡ None))

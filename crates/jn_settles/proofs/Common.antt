-- The names from below that these proofs cite, passed on from one place. Declares nothing.
pub use Rattle.std.proofs.Common.{◌≡◌, ℕ, suc, ◌+◌, ◌*◌, ◌-◌, ◌≤◌, List, [], ◌∷◌, length, Option, Some, refl, sym, ◌∙◌, ap, arith, ◌<◌, false, ◌++◌, subst, true, drop, zero, Bool, None, is_some, true≢false, ◌⊎◌, inl, inr}
pub use Rattle.std.specs.Prelude.{slice_get, Result, Ok, map, nat_lt, if◌then◌else◌, ◌&&◌}
pub use Rattle.jn_base.specs.declared.names.ServerNo.{ServerNo}
pub use Rattle.jn_device.specs.Device.{DeviceState}
pub use Rattle.jn_net.specs.Carried.{Carried, waiting}
pub use Rattle.jn_place.specs.declared.place.Place.{Place}
pub use Rattle.jn_place.specs.declared.place.Slot.{Slot}
pub use Rattle.jn_place.specs.declared.place.Slot.TheVariants.{Up, Down, Gone}
pub use Rattle.jn_records.specs.StablePages.{Counts, page_count}
pub use Rattle.jn_recovery.specs.Counts.{counts_by}
pub use Rattle.jn_rows.specs.Stable.{StableState, Pick, stable}
pub use Rattle.jn_server.specs.Seen.{view_with, memory_of}
pub use Rattle.jn_store.specs.Store.{StoreView}
pub use Rattle.jn_system.specs.WholeSystem.World.{Memory, servers_from, World, own_texts}
pub use Rattle.jn_machine.specs.Chances.{Setup}
pub use Rattle.jn_machine.specs.Runs.{Moment, DoesStep}
pub use Rattle.jn_world_refines.specs.Stands.{Standing, StandsAt, Stands}
pub use Rattle.std.specs.List.{AllByRecursion, list_any}
pub use Rattle.std.proofs.lemmas.Option.{slice_get_within}
pub use Rattle.jn_page_state.specs.Pages.{found_on, pool_on}
pub use Rattle.jn_report.specs.declared.line.Line.{Line}
pub use Rattle.jn_machine.specs.Devices.{Devices, pages_of}
pub use Rattle.jn_world.specs.declared.ended.Ended.{Ended}
pub use Rattle.jn_events.specs.Written.{IsClosed, Closes, DoesTasks, DoesScheduled, is_going}
pub use Rattle.jn_machine.specs.Events.{settling}
pub use Rattle.jn_machine.specs.Tasks.{Task, Begins, Rests, InSchedule, first_of_tasks, when_of}
pub use Rattle.jn_world_refines.specs.Going.{IsTold, WentOn}
pub use Rattle.jn_at_rest.specs.Settled.{texts_since, ComesThrough, LeavesSettled}
pub use Rattle.jn_base.specs.declared.names.WorkId.{WorkId}
pub use Rattle.jn_place.specs.Places.{is_up}
pub use Rattle.jn_rows.specs.declared.worker.Work.{Work}
pub use Rattle.jn_system_settling.specs.AtRest.Settled.{AreUp, entry_in, live_at, tells_waiting, tells_outcome, holds_undecided}
pub use Rattle.jn_settles.specs.Tables.{memory_on, memory_in, memory_at, live_in, AllUp}

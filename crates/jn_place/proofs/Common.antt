-- The names from below that these proofs cite, passed on from one place. Declares nothing.
pub use Rattle.std.proofs.Common.{[], sym, ◌∙◌, ap, subst, false, refl, ◌≤◌, ◌+◌, length, true≢false, arith, ◌∷◌, append_assoc, ◌<◌, suc, ⊎_elim, ◌||◌, drop}
pub use Rattle.std.specs.Prelude.{◌≡◌, ℕ, Bool, true, Option, Some, Ok, None, Result, Err, is_some, List, ◌++◌, OnOk, map, IfOk}
pub use Rattle.jn_base.specs.declared.names.ServerNo.{ServerNo}
pub use Rattle.jn_base.specs.declared.names.Tid.{Tid}
pub use Rattle.jn_device.specs.Device.{DeviceState}
pub use Rattle.jn_device.specs.Events.{powered_off, cleared, PowersUp, Arms, Decays, disarmed, Revives}
pub use Rattle.jn_page_state.specs.Pages.{found_on, state_of, heads_on, pages_by}
pub use Rattle.jn_page_state.proofs.Picking.{same_found, same_pages_by, same_recoverable, fewer_picked}
pub use Rattle.jn_msgs.specs.Collected.{Collected}
pub use Rattle.jn_system.specs.WholeSystem.Servers.{server_again, server_row, of_coordinator, restored, Room, server_step}
pub use Rattle.jn_records.specs.StablePages.{Counts, slot_place, head_place, root_by, Pages, data_place}
pub use Rattle.jn_server.specs.Befalling.{Befalls}
pub use Rattle.jn_server.specs.Handling.{TimesOut, Steps, LeavesByWork, IsDone, IsStopped}
pub use Rattle.jn_server.specs.Seen.{Parts, view_with, memory_of, ServerView, room_of}
pub use Rattle.jn_storage.specs.Calls.{state, CountsErased}
pub use Rattle.jn_storage.specs.Storage.{Accounts, StorageLater}
pub use Rattle.jn_store.specs.Store.{StoreView, HasSamePages, IsClean, IsWholePage, IsCalm, StoreLater, IsOnly}
pub use Rattle.jn_transactions.specs.Telling.{added}
pub use Rattle.jn_place.specs.declared.place.Slot.{Slot}
pub use Rattle.jn_place.specs.declared.place.Slot.TheVariants.{Up, Down, Gone}
pub use Rattle.jn_place.specs.Calls.{LeavesStore, Answered, CameUp, IsCalled, Serves, Called, LeavesPlace}
pub use Rattle.jn_place.specs.Exact.{AsksAgain, TimedOut, Crashed, Befell, WhereUp, TakeLeaves, WorkLeaves, KeepsBeside, LeavesImage, work_of, LeavesClean, Sends, has_work_at, idle_row, IsSpent, texts_of_step, IsStepOf, StaysCalm, IsTried, IsUpAt, IsStoppedUp, IsUsedUpAt, CameTo, IsRestart, IsCalmAt, ComesCalm, is_stopped, Took, WorkedBy, ScrubbedBy, Showed, Closed, items_of}
pub use Rattle.jn_place.specs.Inner.{SaysSame, IsAsBefore, StaysAs, WhereDone, Follows, LeavesOwnImage, Scrubs, IsRowDone, IsRowStopped, RowEnds, Handles, IsWorking, Works, Shows, Closes, told_at, LeavesFewer, IsRisen, IsCutUp, IsAtLast, StandsUp, Rises, Lifts, Idles}
pub use Rattle.jn_place.specs.Places.{Stands, HoldsUp, NoneTold, IsPlace, IsDownAt, CountsAt, IsHeld, is_up, HasPages, is_there}
pub use Rattle.jn_intent.specs.Scrubbing.{Scrubbed, counts_in}
pub use Rattle.jn_msgs.specs.declared.message.Message.{Message}
pub use Rattle.jn_system.specs.WholeSystem.World.{Memory, with_epoch}
pub use Rattle.jn_rows.specs.Outcomes.{RowOutcome}
pub use Rattle.jn_store.specs.Pairs.{pairs_view}
pub use Rattle.jn_worker.specs.Leaving.{beside_of}
pub use Rattle.jn_coord.specs.Remembered.{table_of}
pub use Rattle.jn_rows.specs.Coordinator.{close_clients_row, restored_transaction, restored_transactions}
pub use Rattle.jn_rows.specs.Stable.{Unchanged, StableState, Pick, IsStopState, FlagState}
pub use Rattle.jn_server.specs.declared.show.Shown.{Shown}
pub use Rattle.jn_row_ranges.specs.Taking.{AllCanBeTaken}
pub use Rattle.jn_storage.specs.DeviceCalls.{row_calls, step_calls}
pub use Rattle.jn_page_state.specs.Recoverable.{IsRecoverable, MapsAreClean}
pub use Rattle.jn_recovery.specs.Counts.{counts_by, calls_by, most_calls}
pub use Rattle.jn_recovery.specs.declared.counts.PageCounts.{PageCounts}
pub use Rattle.jn_place.specs.declared.place.Place.{Place}
pub use Rattle.jn_base.specs.declared.device.Outside.{Outside}
pub use Rattle.jn_report.specs.declared.line.When.{When}
pub use Rattle.jn_report.specs.declared.line.Line.{Line}
pub use Rattle.jn_report.specs.Lines.{lines_at}
pub use Rattle.jn_recovery.specs.declared.load.Found.{Found}
pub use Rattle.jn_rows.specs.declared.coordinator.Transaction.{Transaction}
pub use Rattle.jn_server.specs.Restarting.{IsRestarted, IsNotRestarted}
pub use Rattle.jn_place.specs.declared.place.Restarted.{Restarted}
pub use Rattle.jn_base.specs.declared.names.Tickets.{Tickets}

-- The names from below that these proofs cite, passed on from one place. Declares nothing.
pub use Rattle.std.proofs.Common.{◌≡◌, ◌≢◌, ℕ, Bool, true, false, List, [], ◌∷◌, ◌++◌, append-nil, length, length-append, Option, Some, None, is_some, refl, sym, ◌∙◌, ap, subst, arith, ◌⊎◌, inl, inr, drop, ◌≤◌, ◌<◌, true≢false, take, zero, suc, ◌+◌, append_assoc, Result, Ok, Err, ◌-◌, get_or}
pub use Rattle.std.specs.Prelude.{if◌then◌else◌, slice_get, ◌||◌, nat_lt, not, map, ◌&&◌, option_and_then, ⊤, nat_le, nat_eq}
pub use Rattle.jn_base.specs.declared.names.ServerNo.{ServerNo}
pub use Rattle.jn_base.specs.declared.names.Party.{Party}
pub use Rattle.jn_base.specs.declared.names.Party.TheVariants.{Client, Server}
pub use Rattle.jn_base.specs.Names.{client_eq, server_eq, work_eq, unit_eq, file_eq, block_eq, tid_eq}
pub use Rattle.jn_base.proofs.Tells.{client_tells, server_tells, work_tells, block_tells, tid_tells}
pub use Rattle.jn_msgs.specs.declared.message.Message.{Message}
pub use Rattle.jn_rows.specs.declared.client.Taken.{Taken}
pub use Rattle.jn_rows.specs.Client.{ClientTable, take_row, if_waits, begun_row, opened_row, outcome_row, decided_row, is_current}
pub use Rattle.jn_rows.specs.Outcomes.{RowOutcome, Sent, ignored, quiet}
pub use Rattle.jn_rows.specs.Stable.{Pick, stable, made_all, Left, StableState, Prepared, Change, AddReady, MarkGoing, CarryOut, RemoveWork, AddFlag, DropFlag, gone_on, ready_work, made_by, left_of, FlagState, at_work, at_tid, whole_only}
pub use Rattle.jn_system.specs.WholeSystem.World.{World, Memory, at_client, own_texts, new_memory, opening, clients_from, with_epoch}
pub use Rattle.jn_system.specs.WholeSystem.Servers.{Room, server_row, storage_of, of_worker, of_coordinator, lines_of, server_step, server_again, server_timeout, of_step, of_timeout, is_for_worker, restored}
pub use Rattle.jn_system.specs.WholeSystem.Steps.{Deliver, handing, after, run, handed, at_memory, ends, took, taken_by, Step, NextEvent, IsRun, working, Tell, sent_now, AreNames, tid_before}
pub use Rattle.jn_machine.specs.Chances.{Setup, free_found, maps_found, Chance, prints_found}
pub use Rattle.jn_machine.specs.Deeds.{Use, Nothing, Deed, room, no_room, delivered_at, Calls, texts_taken, delivered, Reads, is_busy, worked, served, nothing, working_steps, stopped_idle, crashed_at, recovering, recovered, given_up, restarted, brought_up, is_used_up}
pub use Rattle.jn_machine.specs.Devices.{IsUsed, rubbish_on, pages_of, Devices, IsLookedOver}
pub use Rattle.jn_machine.specs.Runs.{Moment, DoesStep, Leads, none, more}
pub use Rattle.jn_machine.specs.Tasks.{CutShort, Task, Meets, Acts, Rests, Stage, State, next_at, when_of, begun, Begins, ComesUp, Dismisses, GoesDown, ClosesClients, CountsCommits, InSchedule, AtEnd}
pub use Rattle.jn_laws.specs.Handing.{HandsOver, Answer, tells_alone, room_on, row_on, of_row, of_server, of_taken, its_answer, IsGiven, IsDone, IsTaken, IsStopped, stopped_at, IsTooLong, IsStale, number_in, number_by, faults_in, tells_ignored, IsVoting, IsLast, commits_with}
pub use Rattle.jn_storage.specs.DeviceCalls.{row_calls, step_calls}
pub use Rattle.jn_base.specs.declared.names.ClientNo.{ClientNo}
pub use Rattle.jn_machine.proofs.Clients.{does-tables, HasTables, own-said}
pub use Rattle.std.proofs.lemmas.Option.{slice_get_within, get_or_from_slice_get}
pub use Rattle.jn_device.specs.Device.{DeviceState}
pub use Rattle.jn_records.specs.StablePages.{Counts, Pages, block_in, block_behind, address_by, head_of, files_of_pages}
pub use Rattle.jn_store.specs.Store.{StoreView}
pub use Rattle.jn_world.specs.Written.{standing_of, GoesTo}
pub use Rattle.jn_world_refines.specs.Stands.{Stands, StandsAt, PlaceStands}
pub use Rattle.jn_base.specs.declared.names.WorkId.{WorkId}
pub use Rattle.std.proofs.Math.Seq.{drop-append_seam, take-length, take-append_seam, drop-append-add}
pub use Rattle.jn_schedule.specs.declared.Event.{Event}
pub use Rattle.jn_report.specs.declared.line.Text.{Text}
pub use Rattle.jn_machine.specs.Events.{acted, met, resting, next_in, deed_of, next_event, first_busy, servers_of, asking, settling, coming_up, printing, ending}
pub use Rattle.std.proofs.lemmas.Bool.Decides.{nat_tests}
pub use Rattle.jn_machine.specs.Steps.{outside_texts, message_texts, traced, texts_of, most_messages, come_to, cut_short, made, reported, is_too_much}
pub use Rattle.jn_report.specs.declared.line.EventRefusal.TheVariants.{NoSuchMessage, EpochsUsedUp}
pub use Rattle.jn_system.specs.WholeSystem.Course.{Course, go, newly_sent, go_on}
pub use Rattle.jn_machine.specs.Refusals.{unless, refusal_of}
pub use Rattle.std.specs.List.{list_any, list_all, AllByRecursion}
pub use Rattle.jn_base.specs.declared.names.Tid.{Tid}
pub use Rattle.jn_rows.specs.Coordinator.{CoordinatorTable, is_work, all_in, with_work, vote_row, vote_stage, counted_vote, commit_row, staged, coordinator_row, close_clients_row}
pub use Rattle.jn_rows.specs.Worker.{WorkerTable, WorkStorage, Wanted, break_notes, note_of, breaks_at, commit_wants, work_at, commit_holder, holds, is_fit, intentions_of, restored_work, restored_worker, timeout_row, units_for, vulnerable, wants_of, worker_row, worker_step}
pub use Rattle.jn_system.proofs.WholeSystem.CoordinatorCases.{CoordinatorCase, is_ignored_by, coordinator-case, transaction-named, begins_anew, finds_no_room}
pub use Rattle.jn_report.specs.Kinds.{is_answer, is_up}
pub use Rattle.jn_base.specs.declared.names.LockUnit.{LockUnit}
pub use Rattle.jn_system.proofs.WholeSystem.WorkerCases.{its_wants, WorkerCase, none_done, performs_next, prepares_it, worker-case, WorkerStep, carries_out, worker-step-case}
pub use Rattle.jn_order.specs.Files.{AllFiles, Files, change, or_else}
pub use Rattle.jn_schedule.specs.Ranges.{EventInRange}
pub use Rattle.jn_between.proofs.Moments.{always, between-events}
pub use Rattle.jn_machine.specs.Whole.{IsWritten, closed_world, AreImages, before}
pub use Rattle.jn_rows.specs.declared.worker.Work.{Work}
pub use Rattle.jn_rows.specs.declared.worker.ActiveWork.{ActiveWork}
pub use Rattle.jn_rows.specs.declared.coordinator.Transaction.{Transaction}
pub use Rattle.std.proofs.lemmas.List.Elements.{All-nil, All-cons, All-append}
pub use Rattle.jn_base.specs.declared.names.FileNo.{FileNo}
pub use Rattle.jn_base.specs.declared.names.BlockNo.{BlockNo}
pub use Rattle.jn_base.specs.declared.names.LockUnit.TheVariants.{Block}
pub use Rattle.jn_base.specs.Limits.{most_blocks}
pub use Rattle.jn_locks.specs.declared.words.Mode.TheVariants.{Commit, IntentionWrite}
pub use Rattle.jn_rows.specs.declared.worker.Phase.{Phase}
pub use Rattle.jn_rows.specs.declared.worker.Phase.TheVariants.{Active, Broken, Prepared as Stored}
pub use Rattle.jn_fields.specs.Names.{unit_in_range}
pub use Rattle.jn_msgs.specs.Ranges.{CanBeTaken, InRange}
pub use Rattle.jn_base.specs.Ops.{CommandInRange, BlockInRange}
pub use Rattle.jn_row_ranges.proofs.Taking.{new-fits, scheduled-in-range, command-fits, take-fits, over-fits, servers-taken}
pub use Rattle.jn_worker.proofs.UnitRanges.{first-of, second-of, both, some-more, wants-in-range, list-in-range}
pub use Rattle.jn_locks.specs.Locks.{is_unit, work_before}

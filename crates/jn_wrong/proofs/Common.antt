-- The names from below that these proofs cite, passed on from one place. Declares nothing.
pub use Rattle.std.proofs.Common.{◌≡◌, ℕ, Bool, true, false, List, [], ◌∷◌, ◌++◌, append-nil, length, drop, refl, sym, ◌∙◌, ap, subst, None, ◌⊎◌, inl, inr, ◌+◌, ◌-◌, ◌≤◌, ◌<◌, ◌/◌, Option, Some, Result, arith, is_some, zero, suc, ◌≢◌, length-append, true≢false, append_assoc}
pub use Rattle.std.proofs.Math.Seq.{drop-append_seam}
pub use Rattle.jn_report.specs.declared.line.Line.{Line}
pub use Rattle.jn_rows.specs.Outcomes.{Sent, RowOutcome}
pub use Rattle.jn_system.specs.WholeSystem.World.{World, own_texts, Memory, with_epoch, new_memory, has_line, at_server}
pub use Rattle.std.specs.Prelude.{◌||◌, if◌then◌else◌, nat_lt, nat_eq, ◌&&◌, slice_get, ◌*◌, not, take, filter, is_none, ◌^◌, replicate, count_by, map, Ok, Err}
pub use Rattle.jn_base.specs.declared.names.Party.{Party}
pub use Rattle.jn_report.specs.declared.line.Text.{Text}
pub use Rattle.jn_system.specs.WholeSystem.Steps.{Step, Restart, tid_before, after, run, IsRun, restart, restart_with, NextEvent, Tell, Again, Nudge, Crash, CloseClients, AreNames, commanded, crash, Deliver, at_memory, handed, handing, StopDelivery, are_rising, Work as Works, working, sent_now}
pub use Rattle.jn_system.specs.WholeSystem.Course.{Course, go, go_on, newly_sent, course_to, without_number, still_waiting, numbered}
pub use Rattle.jn_machine.specs.Chances.{Setup, Chance, prints_found, works_found, tids_found, allowed, maps_found, none_free, Allows}
pub use Rattle.jn_machine.specs.Tasks.{Task, Begins, Meets, Acts, Rests, ComesUp, Dismisses, GoesDown, ClosesClients, CountsCommits, State, when_of, begun, next_task, AtEnd, InSchedule, Stage, CutShort, next_at, when_at}
pub use Rattle.jn_machine.specs.Deeds.{Deed, Reads, stopped_idle, shown, showing, pick_read, recovering, recovered, given_up, is_used_up, brought_up, plain, served, crashed_at, scrubbed, Use, uses, Arms, Decays, Revives, room, no_room, delivered, delivered_at, nothing, is_busy, Recovers, restarted, Cleans, PowersOff, Nothing, Calls, Disarms, worked, working_steps, is_busy_with, recovers}
pub use Rattle.jn_machine.specs.Events.{deed_of, met, acted, ending, told_unless, first_busy, servers_of, next_event, resting, next_in, asking, settling}
pub use Rattle.jn_machine.specs.Steps.{outside_texts, message_texts, traced, most_messages, is_too_much, come_to, cut_short, made, done, reported, next, next_by, texts_of}
pub use Rattle.jn_report.specs.Lines.{lines_at}
pub use Rattle.jn_base.specs.declared.names.ClientNo.{ClientNo}
pub use Rattle.jn_rows.specs.Client.{ClientTable, Commanded, Refuses, Sends, command_row, new_table, over, if_server, if_idle, if_transaction, if_no_transaction, if_open, if_not_open, work_at as open_at, take_row, again_row, sent_again, if_waits, begun_row, opened_row, answer_line, outcome_row, decided_row, is_current}
pub use Rattle.jn_base.specs.declared.names.ServerNo.{ServerNo}
pub use Rattle.jn_order.specs.Files.{no_files, AllFiles, Files, change, effect, answer_to, files_after, is_did}
unfoldable pub use Rattle.jn_order.specs.Files.{zeros}
pub use Rattle.jn_records.specs.StablePages.{Counts, Pages, slot_place, head_place, data_place, root_by, page_count}
pub use Rattle.jn_schedule.specs.declared.Event.{Event}
pub use Rattle.jn_machine.specs.Whole.{before, AreImages, IsWhole, closed_world, IsFresh as IsFreshDevice, IsWritten}
pub use Rattle.jn_wrong.specs.Wrong.{begins, begun_report, quiet_report, makes_one, full_of, IsNone, makes_and_reads, opens_and_loses, answered_too_soon, stopped_by_nothing, fault_of_nothing, lost_without_opening, file_left_out, file_locked, page_unwritten, other_bytes, named_again}
pub use Rattle.jn_wrong.specs.Reports.{traced_report, two_begin, two_report, opens_other, opened_report, settles_twice, reads_and_aborts, read_report, shows_unmade, shown_report, begins_and_aborts, aborted_report}
pub use Rattle.jn_wrong.specs.NewImages.{IsOnly, IsNoneOfNew, blank, AreNew, IsNoneOf, IsOnlyOf}
pub use Rattle.std.proofs.lemmas.Bool.Decides.{nat_tests}
pub use Rattle.jn_base.specs.declared.device.FaultKind.{FaultKind}
pub use Rattle.jn_base.specs.declared.device.FaultKind.TheVariants.{StopBefore, StopAfter, Decay, Revive, Null, Bad}
pub use Rattle.jn_device.specs.Device.{DeviceState, PageState, partner_at, page_met, decayed, may_decay_at}
unfoldable pub use Rattle.jn_device.specs.Device.{blank_page}
pub use Rattle.jn_base.specs.Counts.{bumped}
pub use Rattle.jn_device.specs.Calls.{due, strike, GetStep, PutStep, told_of, got_outside, put_outside, decay_outside, waiting_on, CallStep, struck_page, get_stops, get_outcome, get_is_done, put_stops, put_outcome, put_is_done}
pub use Rattle.jn_device.specs.Happens.{Happens, get, put, joined}
pub use Rattle.jn_base.specs.declared.names.FileNo.{FileNo}
pub use Rattle.jn_base.specs.declared.names.Tid.{Tid}
pub use Rattle.jn_base.specs.declared.names.WorkId.{WorkId}
pub use Rattle.jn_base.specs.declared.names.LockUnit.TheVariants.{File, Block}
pub use Rattle.jn_base.specs.Names.{file_eq, tid_eq, work_eq, server_eq, client_eq, block_eq, unit_eq}
pub use Rattle.jn_base.proofs.Tells.{file_tells, tid_tells, work_tells, server_tells, block_tells}
pub use Rattle.jn_rows.specs.Stable.{StableState, Pick, Left, FlagState, Prepared, Change, AddReady, MarkGoing, CarryOut, RemoveWork, AddFlag, DropFlag, made_by, made_all, left_of, stable, whole_only, is_going}
pub use Rattle.jn_locks.specs.Locks.{work_before, unit_before}
pub use Rattle.jn_system.specs.WholeSystem.Printing.{Printed, ArePrints, print_files, file_before, FileThere, PageStored, UnitLocked, print_unit, print_one, print_blocks, print_file, block_before}
pub use Rattle.jn_system.specs.WholeSystem.PrintedLines.{prints_of, text_printed}
pub use Rattle.jn_records.specs.Pages.{last_epoch, root_page}
pub use Rattle.jn_machine.specs.Devices.{Devices, IsLookedOver, IsRecovery, Alone, Befalls, IsServed, IsScrubbed, IsCalled, IsUsed, pages_of, rubbish_on}
pub use Rattle.jn_report.specs.declared.line.EventRefusal.{EventRefusal}
pub use Rattle.jn_report.specs.declared.line.EventRefusal.TheVariants.{NoSuchServer, ServerDown, TooManyArmed, EpochsUsedUp}
pub use Rattle.jn_machine.specs.Refusals.{unless, refusal_of}
pub use Rattle.jn_headline.proofs.Quiet.{IsQuiet, Raised, called-calm, recovered-calm, quiet-alone, quiet-called, restarted-up, Calm, quiet-same, nudged-up, closed-up, crashed-up, delivered-up}
pub use Rattle.jn_headline.proofs.Tasks.{no-faults}
pub use Rattle.jn_base.specs.declared.names.Party.TheVariants.{Server, Client}
pub use Rattle.std.specs.List.{list_any, list_all, AllByRecursion}
pub use Rattle.jn_report.specs.declared.line.When.{When}
pub use Rattle.jn_report.specs.declared.line.When.TheVariants.{Event as AtEvent, End}
pub use Rattle.jn_machine.specs.Examples.{calm, setup, one_write, calmly, at_step, stopped, report, line}
unfoldable pub use Rattle.jn_machine.specs.Examples.{block_of}
pub use Rattle.jn_base.specs.declared.op.Command.{Command}
pub use Rattle.jn_storage.specs.DeviceCalls.{row_calls, step_calls}
pub use Rattle.jn_base.specs.declared.device.Outside.{Outside}
pub use Rattle.jn_machine.specs.Runs.{none, more, Moment, Leads, DoesStep, MayLead}
pub use Rattle.jn_store.specs.DeviceCalls.{cleaned_get_calls, put_calls}
pub use Rattle.jn_system.specs.WholeSystem.ExampleNames.{s0, file, block, c1, tid}
pub use Rattle.jn_device.specs.Events.{disarmed, powered_off, may_arm, Arms as FaultArmed, Decays as PageDecays, Revives as PageRevives}
pub use Rattle.jn_page_state.specs.Pages.{found_on, pages_by, heads_on, head_on, head_or_free, listed, pool_on, record_or_free, state_of, record_on, contents_of}
pub use Rattle.jn_store.specs.Pairs.{pairs_view}
pub use Rattle.jn_device.specs.declared.Armed.{Armed}
pub use Rattle.jn_wrong.specs.Faults.{IsOneOfGood, IsOnlyOfGood, arms_far, decays_with_power, forgiven_report, IsNoneOfGood, decays_once, first_decay_told, decays_both, both_report, decays_behind_scrub, nothing_mended, nothing_forgiven, decays_behind_restart, restarted_report, left_unmended, arms_two, armed_too_many, show_stopped, AreGood, arms_first, arms_in_order, arms_null, null_told, stop_met, outside_in_order, Computes, IsComputed, stop_passed_by, outside_swapped}
pub use Rattle.jn_system.specs.WholeSystem.Servers.{named_now, Room, server_row, of_worker, of_coordinator, server_step, storage_of, is_busy as has_going, is_for_worker, of_step, server_again, of_timeout, server_timeout, restored, line_of, lines_of}
pub use Rattle.jn_wrong.specs.Turns.{epoch_after, may_rise, epochs_rise, is_by, are_by, are_read, is_up_after, may_be_told, takes_turns}
pub use Rattle.jn_system.proofs.WholeSystem.OneChange.{one-found, one-server, one-client}
pub use Rattle.jn_system.proofs.WholeSystem.StepCases.{FoundThen, by_narrowing, by_raising, StepCase, client_row, row_done, row_stopped, gone_late, gone_down, come_up, found_anew, dismissed, quietly, step-case, ClientRow, by_command, by_ignoring, by_answering, by_telling, ServerRow, of_message, of_work, of_closing, Quiet, is_refused, client_repeats, server_repeats, is_lost}
pub use Rattle.jn_base.specs.declared.names.LockUnit.{LockUnit}
pub use Rattle.jn_system_settling.proofs.Settling.Settling.{on-world}
pub use Rattle.std.proofs.Math.Path.{fun_ext}
pub use Rattle.jn_base.specs.Limits.{most_maps, head_blocks, most_cells}
pub use Rattle.jn_records.specs.MapPlaces.{maps_named, map_count, MapPlaces, no_maps, maps_in}
pub use Rattle.jn_recovery.specs.Counts.{most_calls}
pub use Rattle.jn_records.specs.declared.head.Head.{Head}
pub use Rattle.jn_records.specs.declared.head.Head.TheVariants.{Free as FreeHead, Used}
pub use Rattle.std.proofs.lemmas.List.Sums.{count_by-le-length, sum_by-cons}
pub use Rattle.jn_machine.proofs.Telling.{may_tell, is_of_delivery, is_down, is_note, weaker, Tells, take-tells, noted, noted-with}
pub use Rattle.jn_report.specs.Kinds.{is_up, is_stopped, is_commit, is_outside, is_answer, is_print as is_printed}
pub use Rattle.jn_machine.proofs.Texts.{More, gone-on, task-texts, Besides}
pub use Rattle.jn_msgs.specs.declared.message.Message.{Message}
pub use Rattle.jn_records.specs.declared.net_list.Need.{Need}
pub use Rattle.jn_server.specs.Standing.{free_on, beside_on, promised_heads, has_rubbish, is_free_page}
pub use Rattle.jn_machine.specs.Leaving.{beside_by, AreLeft, AreAllCounted, beside_at, left_by_row, left_by_steps}
pub use Rattle.jn_server.specs.Counted.{CountsAll, AreCounted}
pub use Rattle.jn_machine.proofs.LeftBy.{left-sent, left_with, left-work}
pub use Rattle.jn_worker.specs.Leaving.{left_over, Beside, left_by}
pub use Rattle.jn_wrong.specs.Settles.{HandsOver, ComesToRest}
pub use Rattle.jn_base.specs.declared.names.Cause.{Cause}
pub use Rattle.jn_base.specs.declared.names.Resource.{Resource}
pub use Rattle.jn_base.specs.declared.op.Answer.TheVariants.{Did, Exists, Read as Found}
pub use Rattle.jn_wrong.specs.Room.{IsOnlyOfLacking, for_a_file, for_a_block, full_at_block, IsOnlyWhereLacking, one_record, one_page, writes_at, for_a_map_page, lacking, made_report, in_room}
pub use Rattle.jn_msgs.specs.declared.message.Vote.TheVariants.{Full, Ready}
pub use Rattle.jn_rows.specs.declared.worker.ActiveWork.{ActiveWork}
pub use Rattle.jn_base.specs.declared.names.Cause.TheVariants.{Full as FullAt}
pub use Rattle.jn_report.specs.declared.line.Text.TheVariants.{Aborted, RefusedEvent}
pub use Rattle.jn_rows.specs.Worker.{shortage, vote_of, Held, conflict, commit_wants, need_in, prepared_row, drop_row, drop_phase, work_at, WorkerTable, worker_row, worker_step, timeout_row, WorkStorage, worker_again, commit_holder}
pub use Rattle.jn_rows.specs.declared.worker.Work.{Work}
pub use Rattle.jn_machine.proofs.Ordered.{longer, Longer, begun-lines, events-rise}
pub use Rattle.jn_machine.proofs.Computed.{may-lead, join}
pub use Rattle.jn_rows.specs.declared.worker.Phase.{Phase}
pub use Rattle.jn_rows.specs.declared.worker.Phase.TheVariants.{Active, Prepared as Stored, Broken}
pub use Rattle.jn_msgs.specs.declared.message.Vote.{Vote}
pub use Rattle.jn_rows.specs.Coordinator.{abort_row, end_promised, promised, CoordinatorTable, transaction_at, with_stage, without, besides, drops, commits, prepares, committed_to, aborted_to, after_closing, coordinator_row, told_again, coordinator_again, all_thanked, restored_transaction, restored_transactions}
pub use Rattle.jn_rows.specs.declared.coordinator.Transaction.{Transaction}
pub use Rattle.jn_wrong.specs.Leaving.{steps_in, IsUpBehind, removes_none}
pub use Rattle.jn_store.specs.Store.{IsWholePage, Candidate, StorePut, StoreLater, IsBlank, StoreView, IsClean}
pub use Rattle.jn_wrong.specs.Telling.{MayDecay, AreMended, outside_lines, outside_at, TellsOf, TellsRaised, AreToldBy, TellsFaults}
pub use Rattle.jn_page_state.specs.Recoverable.{IsRecoverable, MapsAreClean}
pub use Rattle.jn_records.specs.declared.record.Record.{Record}
pub use Rattle.jn_records.specs.declared.record.Record.TheVariants.{Free, Intention, Going, Flag}
pub use Rattle.jn_records.specs.Heads.{is_free as is_free_head}
unfoldable pub use Rattle.jn_records.specs.Heads.{head_at}
pub use Rattle.jn_sets.specs.Pool.{free_count, rubbish_count, is_free, is_rubbish}
pub use Rattle.jn_machine.proofs.Clients.{task-says, HasTables, begun-said, begun-tables, become}
pub use Rattle.jn_wrong.specs.Showing.{unit_printed, prints_unit, AreThere, PrintsAll, printed_lines, Shows}
pub use Rattle.jn_base.specs.declared.op.Answer.{Answer}
pub use Rattle.jn_system.specs.WholeSystem.LockFacts.{LockFacts, ServerFact, UpFact}
pub use Rattle.jn_wrong.specs.Wanting.{IsShort, WasShort, OfText, OfLines, OfCause}
pub use Rattle.jn_base.specs.declared.names.Tickets.{Tickets}
pub use Rattle.jn_msgs.specs.declared.message.Outcome.{Outcome}
pub use Rattle.jn_msgs.specs.declared.message.Note.{Note}

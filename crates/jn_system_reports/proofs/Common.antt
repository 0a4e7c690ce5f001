-- The names from below that these proofs cite, passed on from one place. Declares nothing.
pub use Rattle.std.proofs.Common.{◌≡◌, ◌⊎◌, inl, inr, ℕ, ◌+◌, Bool, true, false, List, [], ◌∷◌, ◌++◌, append-nil, Option, Some, None, refl, sym, ◌∙◌, ap, subst, ◌≢◌, zero, suc, append_assoc, arith, ◌≤◌, ◌<◌, ◌-◌, drop}
pub use Rattle.std.specs.Prelude.{if◌then◌else◌, nat_eq, nat_lt, length, slice_get, is_some, ◌&&◌, ◌||◌, map, not, All, nat_le, take, get_or}
pub use Rattle.jn_base.specs.declared.names.ServerNo.{ServerNo}
pub use Rattle.jn_base.specs.declared.names.ClientNo.{ClientNo}
pub use Rattle.jn_base.specs.declared.names.Tid.{Tid}
pub use Rattle.jn_base.specs.declared.names.WorkId.{WorkId}
pub use Rattle.jn_base.specs.declared.names.Tickets.{Tickets}
pub use Rattle.jn_base.specs.declared.op.Answer.{Answer}
pub use Rattle.jn_base.specs.Names.{work_eq, tid_eq, request_of, server_eq, client_eq, request_eq, unit_eq, is_stop, operation_of, file_eq, block_eq}
pub use Rattle.jn_order.specs.Files.{Files, change, answer_to, AllFiles, or_else, zeros, there, files_after, all_files_after}
pub use Rattle.jn_records.specs.NetLists.{list_change, length_with, intention_change}
pub use Rattle.jn_locks.specs.declared.words.Mode.TheVariants.{Read, IntentionWrite}
pub use Rattle.jn_records.specs.declared.intention.Intention.{Intention}
pub use Rattle.jn_msgs.specs.declared.message.Message.{Message}
pub use Rattle.jn_msgs.specs.declared.message.Vote.{Vote}
pub use Rattle.jn_rows.specs.declared.worker.Work.{Work}
pub use Rattle.jn_rows.specs.declared.worker.Phase.{Phase}
pub use Rattle.jn_rows.specs.declared.worker.Phase.TheVariants.{Active, Broken, Prepared as Stored}
pub use Rattle.jn_rows.specs.declared.worker.ActiveWork.{ActiveWork}
pub use Rattle.jn_rows.specs.Stable.{is_going, stable, StableState, Pick, Prepared, Change, AddReady, MarkGoing, CarryOut, RemoveWork, AddFlag, DropFlag, at_work, gone_on, ready_work, made_by, carried_at, Left, FlagState, at_tid, made_all, left_of}
pub use Rattle.jn_rows.specs.Outcomes.{RowOutcome, Sent, ignored}
pub use Rattle.jn_rows.specs.Worker.{WorkerTable, WorkStorage, Wanted, Held, gives_way, work_at, work_of, without, new_work, name_from, open_row, conflict, commit_wants, wants_of, is_fit, past_limit, units_for, with_units, refusal_of, counted, done as performed-work, granted_row, performed, repeated, op_phase, op_row, vote_of, shortage, need_in, prepared_row, prepare_phase, prepare_row, commit_phase, drop_phase, drop_row, worker_row, going_work, intentions_of, carried_row, going_row, worker_step, vulnerable, timed_out, timeout_row, Asked, Here, worker_again, with_phase, after_grant, breaks_at, broken_by, note_of, break_notes, restored_work, restored_worker, collision, has_mode, locked, first_of_two, commit_holder}
pub use Rattle.jn_rows.specs.Coordinator.{coordinator_row, close_clients_row, is_work, CoordinatorTable, transaction_at, with_stage, all_in, besides, drops, commits, prepares, aborted_to, committed_to, closed, after_closing, begun_by, is_begun, coordinator_again, told_again, with_work, commit_row, changes_of_closing, all_thanked, seen_now, seen_in_flag, seen_in_flags, restored_transaction, restored_transactions, abort_row, forget_row, begin_again, begin_row, end_promised, end_stage, end_row, abort_stage, abort_request, not_known, told_stage, inquire_row, noted, counted_vote, vote_stage, vote_row, done_stage, done_row, thanks_stage, thanks_row}
pub use Rattle.jn_lock_rows.specs.Matching.{are_rising, is_after, is_before}
pub use Rattle.jn_lock_rows.proofs.Works.{at-more, at-less, work_same, work_is, found-name, at-phase, in_phase, at-grant, once_granted, found-behind, not-before, none-front}
pub use Rattle.jn_system.proofs.SmallSteps.Updates.{some_is, none_some, not_both, false_unless, some_none, clash, at_tid_cases, at_work_cases, some_of, none_of, at_work_other, at_tid_here, at_tid_other, at_work_here}
pub use Rattle.jn_system.specs.WholeSystem.World.{World, Memory, at_server, commits_in, has_line, opening, new_memory, changed, with_epoch, at_client, servers_from, AreFilesOf}
pub use Rattle.jn_system.specs.WholeSystem.Servers.{storage_of, of_worker, of_coordinator, of_timeout, lines_of, restored, server_again, line_of, named_now, Room, server_timeout, server_row}
pub use Rattle.jn_system.specs.WholeSystem.Steps.{Step, after, done, Tell, IsStep, commanded, sent_now, NextEvent, IsRun, run, took, StopDelivery, StopWork, StopRestart, Dismiss, CloseClients, IsIdle, restart_with, ends, AreNames, tid_before, stopped, works, taken_by, again, Again}
pub use Rattle.jn_system.specs.WholeSystem.LockFacts.{LockFacts, ServerFact, UpFact, IsSoundWork, TableFact}
pub use Rattle.jn_system.proofs.WholeSystem.Granted.{Regrants, Origin, Mine, Kept, Broke, granted, phase_changed}
pub use Rattle.jn_system.proofs.WholeSystem.Restored.{restored-is}
pub use Rattle.jn_system.proofs.WholeSystem.Tables.{of-found}
pub use Rattle.jn_system.proofs.WholeSystem.WorkerRows.{no-lock, going-is, no-conflict}
pub use Rattle.jn_system_order.proofs.Mirroring.Mirrored.{named_by, commits-more, lines-commit, DoesRow, mirrored, worker-does, All-grows, client-still}
pub use Rattle.jn_system_order.proofs.Mirroring.WorkerNotes.{worker-none, step-none, breaks-none}
pub use Rattle.jn_base.specs.declared.names.RequestNo.{RequestNo}
pub use Rattle.jn_system.proofs.WholeSystem.OneChange.{one-server, some-memory, one-client, none-memory, one-client as one-changes, one-found, memory-now, memory-gone}
pub use Rattle.jn_system.proofs.WholeSystem.StepCases.{ServerRow, of_message, of_work, of_closing, StepCase, client_row, row_done, row_stopped, gone_late, gone_down, come_up, found_anew, dismissed, quietly, step-case, ClientRow, by_command, by_ignoring, by_answering, by_telling, Quiet, event_begins, none_changes, is_refused, client_repeats, server_repeats, is_lost, FoundThen, by_narrowing, by_raising}
pub use Rattle.jn_system.proofs.WholeSystem.ServerRows.{row-either, row-of-step}
pub use Rattle.jn_system.proofs.WholeSystem.WorkerCases.{asked_for, asked_here, WorkerCase, replies_only, opens_anew, refuses_next, performs_next, prepares_it, drops_it, removes_it, Replies, is_open_already, votes_against, votes_broken, votes_lost, WorkerStep, is_over, its_wants, worker-case, worker-step-case, none_done, is_repeated, is_broken_for, is_closing_for, is_gone_for, its_answer, marks_it, carries_out, erases_rubbish}
pub use Rattle.std.specs.List.{list_any, list_all, fold, AllByRecursion}
pub use Rattle.jn_system.specs.SmallSteps.World.{World as Machine, Working, replay, Unknown, Commit, IsSerial}
pub use Rattle.jn_system.proofs.SmallSteps.Invariant.{Invariant, IsGiven, NamesFact, IsPart}
pub use Rattle.jn_system.specs.SmallSteps.Steps.{Atom, run as run_atoms, opening_world, End as Ends, Perform, Lose, Prepare, NoteReady, Make, Decide, RaiseEpoch, server_of, Crash, Narrow, Restart, CarryPart, Learn, NoteOver, Close, Count, Name, trace_of, end_it}
pub use Rattle.jn_system.specs.SmallSteps.Premises.{MayRun, MayCarryOut, MayRemove, MayMake, May}
pub use Rattle.jn_system.specs.SmallSteps.Messages.{IsWorkOf, Says, OutcomeSays}
pub use Rattle.jn_system.proofs.SmallSteps.MessageLemmas.{Grows, run_grows, says_still, grows}
pub use Rattle.jn_system.proofs.SmallSteps.Runs.{run_kept, opening_kept, step_kept}
pub use Rattle.jn_system_order.specs.Mirroring.Mirrors.{Mirrors, active_in, working_in, working_of, MovesTo, is_shown, IsTrue, IsCurrent, AreTransactions, IsAddressed, knowledge_of, knowledge_in, IsStage, AreOpen, commits_of, IsOutstanding, next_in, known_in}
pub use Rattle.jn_base.proofs.Tells.{work_tells, server_tells, client_tells, tid_tells, file_tells, block_tells}
pub use Rattle.jn_system_reports.specs.BetweenSteps.Sent.{WasSent, HasCommitLine}
pub use Rattle.jn_system_reports.specs.BetweenSteps.Parts.{IsNoPart, WasEnded}
pub use Rattle.jn_system_reports.specs.BetweenSteps.Drops.{IsOver, IsPast}
pub use Rattle.jn_base.specs.declared.names.Party.TheVariants.{Server, Client}
pub use Rattle.jn_base.specs.declared.op.Command.TheVariants.{Begin, Open, Do, End, Abort}
pub use Rattle.jn_report.specs.declared.line.Refusal.{Refusal}
pub use Rattle.jn_rows.specs.declared.client.Outstanding.{Outstanding}
pub use Rattle.jn_rows.specs.Client.{ClientTable, Refuses, names_of, if_idle, if_transaction, sends, again_row, Commanded, Sends, command_row, work_at as open_at, if_server, if_no_transaction, if_open, if_not_open, is_operation, is_end_or_abort, is_current, if_waits, idle, begun_row, opened_row, answer_line, outcome_row, take_row, sent_again, with_operation, is_begin, is_tid, over, decided_row, is_end, opens}
pub use Rattle.jn_system_order.proofs.Mirroring.ClientMoves.{quiet-line, stays-with}
pub use Rattle.jn_system_order.proofs.Mirroring.StepMoves.{step-moves, opening-mirrors, holds-of, committed-any}
pub use Rattle.jn_system_order.proofs.Ordering.Facts.{Facts, is_closing, Began, opening as began_by, IsRunning, openings-begun}
pub use Rattle.jn_system_order.proofs.Ordering.Runs.{step-facts, opening-facts, step-next}
pub use Rattle.jn_system_order.proofs.Ordering.ServerFacts.{still-facts}
pub use Rattle.jn_system_order.proofs.Ordering.ClientSteps.{parts_of, end-may, end-mirrors, end-facts, Next, EndsNow, work_in}
pub use Rattle.jn_report.specs.declared.line.Text.{Text}
pub use Rattle.jn_base.specs.declared.op.Op.{Op}
pub use Rattle.jn_schedule.specs.declared.Event.{Event}
pub use Rattle.jn_serial.specs.Lines.{event_at, history_of, says, lines_at, lines_before, count_lines, has_tid, says as says_it, says as says_of}
pub use Rattle.jn_serial.proofs.Growth.{event_at-next, AreWithin, AreWithin-wider, AreWithin-append, lines_at-earlier, lines_at-outside, lines_at-newest, IsWithin, follows-same}
pub use Rattle.jn_rows.specs.declared.client.OpenWork.{OpenWork}
pub use Rattle.jn_order.specs.Answers.{Answered, FilesAnswer}
pub use Rattle.jn_system.proofs.WholeSystem.Steps.{locks-keep, opening-keeps}
pub use Rattle.jn_system_order.proofs.Mirroring.Losing.{run-append, may-append}
pub use Rattle.jn_system_reports.specs.Reporting.Reported.{Act, Does, Refuses as Refused, Tells as Faults, Shows, Item, events_of, steps_in, steps_of, after_item, IsUnder, AreUnder, world_of, IsReported, Tells, told_by, told_in, told_under, at_event, lines_of as lines_of_items, may_act, Waiting, none_wait, one_more, armed, with_event, strike_all, AreStruck, FaultsWait, strikes, IsStruck, may_do, Does as Done, GoesOver, IsShow, IsShown, AreShown}
pub use Rattle.jn_system_reports.specs.Telling.Told.{at_place}
pub use Rattle.jn_order.proofs.AnswerLemmas.{answers-front}
pub use Rattle.jn_base.specs.declared.names.LockUnit.{LockUnit}
pub use Rattle.jn_system.specs.SmallSteps.Held.{HasRead, Writes, file_unit}
pub use Rattle.jn_system.proofs.SmallSteps.History.{run_told, opening_told, IsTold, in_order}
pub use Rattle.jn_system_order.proofs.Mirroring.ClientRows.{found-open, IsThanks, Takes, takes, are-counted}
pub use Rattle.jn_system_order.proofs.Ordering.Openings.{Opening, opening_in, openings, Has, has-either, openings-more, has-first, has-second}
pub use Rattle.jn_system_order.proofs.Ordering.ClientFacts.{all-have-theirs, CommandFacts, command-facts}
pub use Rattle.jn_system_reports.specs.BetweenSteps.Works.{IsFlagged, IsPrepared, IsCarriedOut, DoWorksStay, IsActive, AreAsPrepared, AreReadsKept, AreCarriedOut}
pub use Rattle.jn_report.specs.declared.line.Line.{Line}
pub use Rattle.jn_report.specs.Kinds.{commit_in, commit_in as committed_in, is_own, is_fault, begins, is_answer, goes_down, breaks, refuses_event, stops, refuses_fault, addressed, answer_in, is_locked, is_no_show}
pub use Rattle.jn_serial.specs.Order.{operations_of, replay_operations, is_call, OperationsAgreeFrom}
pub use Rattle.jn_system.specs.SmallSteps.Order.{IsInOrder, CommitsOnce, has_committed, HasTraces, IsInOrder as InOrder}
pub use Rattle.jn_base.specs.declared.names.Party.{Party}
pub use Rattle.jn_system.proofs.SmallSteps.NameLemmas.{fresh_work}
pub use Rattle.jn_base.specs.declared.op.Command.{Command}
pub use Rattle.jn_serial.proofs.LineByLine.{performed_in, answered, answered_by, owner_after, begins_for, is_its_client, told_from}
pub use Rattle.jn_msgs.specs.declared.message.Outcome.{Outcome}
pub use Rattle.jn_rows.specs.declared.client.Taken.{Taken}
pub use Rattle.jn_report.specs.declared.line.When.{When}
pub use Rattle.jn_report.specs.declared.line.When.TheVariants.{Event as AtEvent, End as AtEnd}
pub use Rattle.jn_serial.specs.Caused.{is_caused_by, is_caused, CausedFrom, Caused, any_event, lines_after, aborts, asks, joins, loses, count_events, arms_stop, gives_fault, is_accepted}
pub use Rattle.jn_system_reports.specs.Reporting.Armed.{ArmedFrom, AreArmed}
pub use Rattle.jn_system.specs.WholeSystem.Printing.{Printed, FileThere, PageStored, UnitLocked, print_unit, print_one, print_blocks, print_file, print_files}
pub use Rattle.jn_system.specs.WholeSystem.PrintedLines.{text_printed, IsPrinted, prints_of}
pub use Rattle.std.proofs.lemmas.Bool.Decides.{nat_tests}
pub use Rattle.jn_serial.specs.Begun.{last_begun, is_in, begun_then}
pub use Rattle.jn_serial.proofs.CausedGrowth.{begun_then-append, Caused-lines, needs_cause, NeedNoCause, CausedFrom-plain, lines_before-later, lines_before-whole}
pub use Rattle.jn_base.specs.declared.names.Cause.{Cause}
pub use Rattle.jn_base.specs.declared.names.Cause.TheVariants.{Full as FullAt, Requested, Broken as BrokenAt, Lost as LostAt}
pub use Rattle.jn_base.specs.declared.names.Resource.{Resource}
pub use Rattle.jn_msgs.specs.declared.message.Note.{Note}
pub use Rattle.jn_rows.specs.declared.coordinator.Transaction.{Transaction}
pub use Rattle.jn_rows.specs.declared.coordinator.Stage.{Stage}
pub use Rattle.jn_rows.specs.declared.coordinator.Committed.{Committed as Commitment}
pub use Rattle.jn_system.proofs.WholeSystem.CoordinatorCases.{IsListed, wants_to_commit, wants_to_abort, WantsOutcome, wants_outcome, votes_late, Unneeded, is_not_here, is_carried_out, has_aborted, Saying, says_nothing, says_begun, says_unknown, prepares_again, says_drop, Noting, work_is_done, client_thanks, CoordinatorCase, is_ignored_by, is_left_by, begins_anew, finds_no_room, starts_voting, counts_vote, is_committed_by, is_aborted_by, notes_commit, forgets_commit, forgets_abort, coordinator-case, says_committed, says_aborted, Committing, has_no_works, is_last_vote, Aborting, finds_no_record, stops_open, stops_voting, work_is_lost, work_is_broken, work_has_no_room}
pub use Rattle.jn_system_reports.specs.Reporting.Ending.{Comeback, Ending, restarts_from, steps_at_end, settles, IsEnding, told_by_steps, texts_from, at_end, lines_to_end, world_at_end, ArePrinted}
pub use Rattle.jn_serial.specs.Follows.{refuses_own, answers_command, can_have, is_read, Outstanding as Waited, is_last, fits, after_answer, nothing_asked, with_asked, AllFit, after_answers, after_event, own_in_place, is_command_of, AllOwnInPlace, FollowsEvent, after_one, FollowsFrom, IsOfEvent, AllOfEvents, Follows, fits_asked, answers_order}
pub use Rattle.jn_serial.proofs.Orders.{lines_before-append, lines_at-append, any-append}
pub use Rattle.jn_system_order.proofs.Mirroring.Closing.{still-says, same-server}
pub use Rattle.jn_system.specs.SmallSteps.Transactions.{Knows}
pub use Rattle.jn_system_order.proofs.Mirroring.StageMoves.{knows, stage-is, stage-known}
pub use Rattle.jn_base.specs.declared.names.OperationNo.{OperationNo}
pub use Rattle.jn_locks.specs.Locks.{is_unit, work_before}
pub use Rattle.std.proofs.Math.Seq.{drop-append_seam}
pub use Rattle.jn_serial.proofs.InTurn.{AreInTurn, AreAtEnd, turn-to-end, ops-in-turn}
pub use Rattle.jn_serial.specs.Told.{IsNamedWhere, NamesBefore, NamesOnce, IsNotNamedWhere, NamesNone, Told}
pub use Rattle.jn_system_order.specs.Ordering.Runs.{IsNamedBefore, AreNamed, IsDone}
pub use Rattle.jn_rows.specs.declared.coordinator.Voting.{Voting as Ballot}
pub use Rattle.jn_system.proofs.WholeSystem.Closes.{is_committed, Closes, Empty, Stays, Goes, Waits, Forgets, client-closes, outcomes-close, Stays as Remains}
pub use Rattle.std.proofs.Math.Path.{fun_ext}
pub use Rattle.std.proofs.lemmas.List.Elements.{All-head, All-tail, All-nil, All-cons, All-append}
pub use Rattle.jn_base.specs.declared.names.LockUnit.TheVariants.{File, Block}
pub use Rattle.jn_base.specs.declared.names.FileNo.{FileNo}
pub use Rattle.jn_serial.specs.Shown.{IsAsIn, AllAsIn, prints_file, ShowsFiles, OperationsShownSoFar, OperationsShown, accounts_file, accounts_block}
pub use Rattle.jn_system_reports.specs.Telling.Agreement.{AreAsTold}
pub use Rattle.jn_base.specs.declared.names.BlockNo.{BlockNo}
pub use Rattle.jn_system.specs.WholeSystem.Example.{the_server, the_transaction, the_work, the_file, start}
pub use Rattle.jn_schedule.specs.declared.Event.TheVariants.{Show, Command as CommandOf, Call as CallOf}
pub use Rattle.jn_replay.specs.declared.files.Performed.{Performed}
pub use Rattle.jn_replay.specs.Operations.{files_then, GivesAnswers}
pub use Rattle.jn_system.proofs.WholeSystem.Rows.{by-name}
pub use Rattle.jn_system.specs.SmallSteps.Traces.{effects, effect_of}
pub use Rattle.jn_system_reports.specs.Showing.Example.{a_commit_is_named, carried_out, shown, an_end}

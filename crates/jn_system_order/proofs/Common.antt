-- The names from below that these proofs cite, passed on from one place. Declares nothing.
pub use Rattle.std.proofs.Common.{◌≡◌, ◌≢◌, ◌⊎◌, inl, inr, Bool, true, false, List, [], ◌∷◌, ◌++◌, append-nil, Option, Some, None, refl, sym, ◌∙◌, ap, subst, suc, is_some, arith, zero, true≢false, ◌<◌, ◌≤◌, map}
pub use Rattle.std.specs.Prelude.{◌+◌, ◌&&◌, if◌then◌else◌, length, nat_lt, nat_eq, ℕ, take, slice_get, All, not, ◌||◌, get_or}
pub use Rattle.std.proofs.lemmas.List.Elements.{All-nil, All-cons, All-append, All-get_or, All-head, All-tail}
pub use Rattle.jn_base.specs.declared.names.ServerNo.{ServerNo}
pub use Rattle.jn_base.specs.declared.names.ClientNo.{ClientNo}
pub use Rattle.jn_base.specs.declared.names.Tid.{Tid}
pub use Rattle.jn_base.specs.declared.names.Party.TheVariants.{Client, Server}
pub use Rattle.jn_base.specs.Names.{server_eq, client_eq, tid_eq, work_eq, request_eq, request_of, operation_of, file_eq}
pub use Rattle.jn_base.proofs.Tells.{server_tells, tid_tells, work_tells, file_tells, client_tells}
pub use Rattle.jn_msgs.specs.declared.message.Message.{Message}
pub use Rattle.jn_rows.specs.declared.coordinator.Transaction.{Transaction}
pub use Rattle.jn_rows.specs.declared.coordinator.Stage.TheVariants.{Open, Voting, Committed, Aborted}
pub use Rattle.jn_rows.specs.Stable.{StableState, made_all, at_tid, Prepared, Pick, CarryOut, RemoveWork, is_going, made_by, at_work, stable, Left, left_of, carried_at, part_by, Change, DropFlag, part_of, MarkGoing, next_after, AddReady, AddFlag, ready_work, FlagState, whole_only}
pub use Rattle.jn_rows.specs.Outcomes.{RowOutcome, Sent}
pub use Rattle.jn_rows.specs.Coordinator.{CoordinatorTable, transaction_at, after_closing, changes_of_closing, seen_now, name_from, begin_again, begun_by, begin_row, is_begun, is_work, all_in, close_clients_row, besides, with_work, drops, commits, prepares, committed_to, aborted_to, staged, without, commit_row, abort_row, forget_row, not_known, end_promised, end_stage, end_row, abort_stage, abort_request, told_stage, inquire_row, counted_vote, vote_stage, vote_row, done_stage, done_row, thanks_stage, thanks_row, told_again, coordinator_again, restored_transaction, restored_transactions, with_stage, coordinator_row}
pub use Rattle.jn_system.specs.SmallSteps.World.{World as Machine, Begun, Knowledge, Unknown, Voting as Notes, Committed as Finishes, Working, replay}
pub use Rattle.jn_system.proofs.SmallSteps.Invariant.{Invariant, IsPrepared, PartFact, MayBeFound, HasFlag}
pub use Rattle.jn_system.specs.SmallSteps.Steps.{Atom, begin_it, run, Count, Make, NoteOver, always, CarryPart, Close, Learn, Decide, Lose, lose, crash, Perform, perform, Prepare, NoteReady, open_work, Name, name_it, found_of, Narrow, Restart, narrow, Crash, Crash as Crashes, Narrow as Narrows, RaiseEpoch, opening_world, End as Ends, end_it, run as run_atoms}
pub use Rattle.jn_system.specs.SmallSteps.Premises.{MayRun, MayBegin, MayCount, MayCarryOut, MayRemove, MayBeOver, MayGoOn, MayLearn, MayPerform, MayPrepare, MayName, MayRestart, May, MayFlag, MayEnd}
pub use Rattle.jn_system.specs.SmallSteps.Messages.{Says, IsWorkOf, AreWorksOf, IsPartOf, DropSays, VoteSays, OutcomeSays}
pub use Rattle.jn_system.proofs.SmallSteps.Runs.{run_kept, opening_kept}
pub use Rattle.jn_system.proofs.SmallSteps.NameLemmas.{fresh_tid}
pub use Rattle.jn_system.proofs.SmallSteps.Updates.{at_tid_here, not_both, at_tid_other, some_of, some_is, false_unless, at_tid_cases}
pub use Rattle.jn_system.specs.WholeSystem.World.{World, Memory, at_client, commits_in, at_server, with_epoch, has_line, opening, new_memory}
pub use Rattle.jn_system.specs.WholeSystem.Servers.{of_coordinator, Room, storage_of, of_worker, line_of, lines_of, server_again, restored, named_now, server_row, of_timeout, server_timeout}
pub use Rattle.jn_system.specs.WholeSystem.LockFacts.{UpFact, TableFact, IsSoundWork, IsSoundActive, StoredFact, LockFacts, ServerFact, IsSoundPrepared}
pub use Rattle.jn_system_order.specs.Mirroring.Mirrors.{Mirrors, IsTrue, IsAddressed, AreTransactions, commits_of, knowledge_of, working_of, next_in, is_shown, MovesTo, IsOutstanding, IsClient, AreOpen, IsCurrent, IsStage, IsTransaction, knowledge_in, working_in, active_in, known_in}
pub use Rattle.jn_system.proofs.WholeSystem.Closes.{Closes, client-closes, is_committed, Empty, Stays, Goes, Waits, Forgets, outcomes-close}
pub use Rattle.jn_base.specs.declared.names.RequestNo.{RequestNo}
pub use Rattle.std.proofs.lemmas.Bool.Decides.{nat_tests}
pub use Rattle.jn_base.specs.declared.names.BlockNo.{BlockNo}
pub use Rattle.jn_base.specs.declared.names.WorkId.{WorkId}
pub use Rattle.jn_base.specs.declared.names.LockUnit.{LockUnit}
pub use Rattle.jn_order.specs.Files.{change, or_else, Files, Change as FilesChange, answer_to, nothing, effect, file_of, is_did, AllFiles}
pub use Rattle.jn_order.specs.Changes.{or_also, and_then}
pub use Rattle.jn_records.specs.declared.intention.Intention.{Intention}
pub use Rattle.jn_records.specs.NetLists.{intention_change, list_change, InOrder, net_change, net_of}
pub use Rattle.jn_rows.specs.declared.worker.Work.{Work}
pub use Rattle.jn_rows.specs.Worker.{WorkerTable, work_at, carried_row, intentions_of, worker_step, Wanted, worker_again, wants_of, units_for, is_fit, after_grant, with_phase, granted_row, conflict, holds, commit_wants, prepared_row, new_work, restored_worker, worker_row, work_of, timed_out, vulnerable, counted, WorkStorage, breaks_at, note_of, break_notes, timeout_row, commit_holder}
pub use Rattle.jn_lock_rows.proofs.Works.{at-less, work_same, found-behind, not-before, at-more, at-phase, in_phase, work_is, found-name}
pub use Rattle.jn_system.proofs.SmallSteps.TraceLemmas.{take_zero}
pub use Rattle.jn_system.proofs.WholeSystem.WorkerRows.{going-is, no-lock, no-conflict}
pub use Rattle.jn_system.proofs.WholeSystem.Restored.{stored-fact, Entry, entry-of, restored-is}
pub use Rattle.jn_system.proofs.WholeSystem.WorkerCases.{WorkerStep, carries_out, is_over, erases_rubbish, worker-step-case, asked_for, asked_here, WorkerCase, none_done, replies_only, opens_anew, refuses_next, performs_next, prepares_it, marks_it, drops_it, removes_it, Replies, is_open_already, votes_against, votes_broken, votes_again, votes_lost, is_done_already, its_answer, its_wants, its_vote, is_ready, worker-case}
pub use Rattle.std.proofs.Math.Path.{fun_ext}
pub use Rattle.jn_rows.proofs.Left.{part-is, left-is, left-none}
pub use Rattle.jn_base.specs.declared.names.LockUnit.TheVariants.{File, Block}
pub use Rattle.jn_system.specs.WholeSystem.Steps.{Step, again, sent_now, done, stopped, AreNames, tid_before, restart_with, works, IsStep, after, commanded, Tell, Dismiss, IsRun}
pub use Rattle.jn_report.specs.declared.line.Text.{Text}
pub use Rattle.jn_rows.specs.declared.client.Outstanding.{Outstanding}
pub use Rattle.jn_rows.specs.declared.client.Taken.{Taken}
pub use Rattle.jn_rows.specs.Client.{ClientTable, take_row, is_end, sent_again, Commanded, Refuses, Sends, with_operation, names_of, if_server, if_idle, if_transaction, if_no_transaction, if_open, if_not_open, command_row, opens, is_tid, is_current, if_waits, idle, over, begun_row, opened_row, answer_line, decided_row, outcome_row, sends, is_begin, is_operation, is_end_or_abort}
pub use Rattle.jn_report.specs.Kinds.{commit_in as committed_in}
pub use Rattle.jn_system.proofs.WholeSystem.OneChange.{one-client, some-memory, none-memory, one-found, memory-now, memory-gone}
pub use Rattle.jn_system.proofs.WholeSystem.StepCases.{ClientRow, by_command, by_ignoring, by_answering, by_telling, ServerRow, of_message, of_work, of_closing, FoundThen, by_narrowing, by_raising, Quiet, event_begins, none_changes, is_refused, client_repeats, server_repeats, is_lost, StepCase, client_row, row_done, row_stopped, gone_late, gone_down, come_up, found_anew, dismissed, quietly, step-case}
pub use Rattle.jn_base.specs.declared.names.Party.{Party}
pub use Rattle.jn_base.specs.declared.op.Answer.{Answer}
pub use Rattle.jn_base.specs.declared.op.Command.{Command}
pub use Rattle.jn_msgs.specs.declared.message.Outcome.{Outcome}
pub use Rattle.jn_rows.specs.declared.client.OpenWork.{OpenWork}
pub use Rattle.jn_rows.specs.declared.coordinator.Stage.{Stage}
pub use Rattle.jn_rows.specs.declared.coordinator.Committed.{Committed as Commitment}
pub use Rattle.jn_system.specs.SmallSteps.Transactions.{AllOver, Knows, AllReady, AreParts}
pub use Rattle.jn_system.proofs.SmallSteps.MessageLemmas.{run_grows, says_still, still_true, grows}
pub use Rattle.jn_records.specs.declared.flag.Flag.{Flag}
pub use Rattle.jn_msgs.specs.declared.message.Vote.{Vote}
pub use Rattle.jn_msgs.specs.declared.message.Message.TheVariants.{Inquire}
pub use Rattle.jn_rows.specs.declared.worker.Phase.{Phase}
pub use Rattle.jn_system.proofs.WholeSystem.Granted.{Origin, Mine, Kept, Broke, Regrants, granted}
pub use Rattle.jn_msgs.specs.declared.message.Note.{Note}
pub use Rattle.jn_lock_rows.specs.Matching.{is_before, are_rising, commit_units}
pub use Rattle.jn_base.specs.declared.op.Op.{Op}
pub use Rattle.jn_locks.specs.declared.words.Mode.TheVariants.{Read, Commit}
pub use Rattle.jn_locks.specs.Locks.{is_unit}
pub use Rattle.jn_rows.specs.declared.worker.Phase.TheVariants.{Active, Broken, Prepared as Stored}
pub use Rattle.jn_rows.specs.declared.worker.ActiveWork.{ActiveWork}
pub use Rattle.jn_system.specs.SmallSteps.Held.{HoldsForCommit, HasRead, file_unit}
pub use Rattle.jn_system.proofs.WholeSystem.Rows.{done-keeps, prepared-keeps, by-name}
pub use Rattle.jn_system.proofs.WholeSystem.Units.{with_units-is, reads-file}
pub use Rattle.jn_base.specs.declared.names.OperationNo.{OperationNo}
pub use Rattle.std.specs.List.{list_any, list_all}
pub use Rattle.jn_system.proofs.SmallSteps.History.{run_told, opening_told, in_order}
pub use Rattle.jn_system.proofs.WholeSystem.Tables.{of-found}
pub use Rattle.jn_system.proofs.WholeSystem.ServerRows.{row-of-step}
pub use Rattle.jn_base.specs.declared.names.Tickets.{Tickets}
pub use Rattle.jn_system_order.specs.Ordering.Runs.{IsNamedBefore, AreNamed, IsMoves, IsDone, IsInOrder}
pub use Rattle.jn_system.proofs.WholeSystem.Steps.{locks-keep, opening-keeps, run-keeps}

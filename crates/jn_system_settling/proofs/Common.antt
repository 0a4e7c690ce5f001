-- The names from below that these proofs cite, passed on from one place. Declares nothing.
pub use Rattle.std.proofs.Common.{◌≡◌, ℕ, Bool, true, false, List, [], ◌∷◌, ◌++◌, refl, arith, inl, inr, ◌≤◌, ◌<◌, zero, suc, Option, Some, None, true≢false, sym, ◌∙◌, ap, subst, ◌⊎◌, length-append, append-nil, ◌≢◌, append_assoc, take, ◌*◌}
pub use Rattle.std.specs.Prelude.{◌&&◌, not, ◌+◌, if◌then◌else◌, slice_get, nat_eq, nat_lt, ◌||◌, length, map, All, is_some, drop}
pub use Rattle.jn_base.specs.declared.names.ClientNo.{ClientNo}
pub use Rattle.jn_base.specs.declared.names.Tid.{Tid}
pub use Rattle.jn_base.specs.declared.names.WorkId.{WorkId}
pub use Rattle.jn_base.specs.declared.names.Tickets.{Tickets}
pub use Rattle.jn_base.specs.Names.{tid_eq, client_eq, server_eq, request_eq, request_of, work_eq, operation_of}
pub use Rattle.jn_msgs.specs.declared.message.Message.{Message}
pub use Rattle.jn_rows.specs.Outcomes.{RowOutcome, Sent, sends as sends_row, ignored as ignored_row, quiet, ignored}
pub use Rattle.jn_rows.specs.Worker.{WorkerTable, WorkStorage, worker_row, work_of, new_work, open_row, op_row, op_phase, Asked as AskedOp, Here, work_at, Wanted, with_phase, without, break_notes, breaks_at, broken_by, note_of, after_grant, granted_row, repeated, refusal_of, wants_of, is_fit, commit_wants, conflict, vote_of, shortage, need_in, prepared_row, prepare_phase, prepare_row, commit_phase, drop_phase, drop_row, worker_step, going_work, going_row, carried_row, intentions_of, timed_out, timeout_row, vulnerable, written_unit, restored_work, restored_worker, Asked, worker_again, voted as voted_row, performed, by_number}
pub use Rattle.jn_rows.specs.Coordinator.{CoordinatorTable, besides, drops, commits, prepares, coordinator_row, transaction_at, abort_stage, abort_request, aborted_to, after_closing, changes_of_closing, begin_new, begin_again, begun_by, seen_now, name_from, close_clients_row, coordinator_again, is_work, inquire_row, told_stage, dropped, commit_row, abort_row, staged, all_in, with_work, committed_to, end_stage, end_promised, end_row, counted_vote, vote_stage, vote_row, with_stage, forget_row, closed, begin_row, done_stage, done_row, thanks_stage, thanks_row, told_again, is_committed, all_thanked, thanked, restored_transaction, restored_transactions, seen_in_flags, seen_in_flag, commits as commits_of, without as without_tid}
pub use Rattle.jn_system.proofs.WholeSystem.WorkerCases.{Replies, votes_against, votes_broken, votes_again, votes_lost, WorkerCase, replies_only, prepares_it, worker-case, asked_for, asked_here, marks_it, removes_it, its_wants, opens_anew, refuses_next, performs_next, drops_it, is_open_already, WorkerStep, carries_out, worker-step-case}
pub use Rattle.jn_system.proofs.WholeSystem.CoordinatorCases.{Saying, says_nothing, says_unknown, prepares_again, CoordinatorCase, is_left_by, starts_voting, is_committed_by, is_aborted_by, coordinator-case, transaction-named as found-name, transaction-named as tid-name, is_ignored_by, begins_anew, finds_no_room, counts_vote, notes_commit, forgets_commit, forgets_abort, IsListed, Committing, has_no_works, is_last_vote, says_begun}
pub use Rattle.jn_report.specs.declared.line.Text.{Text}
pub use Rattle.std.specs.List.{list_any, list_all, AllByRecursion}
unfoldable pub use Rattle.std.specs.List.{IsDistinct}
pub use Rattle.std.proofs.lemmas.Bool.Decides.{nat_tests}
pub use Rattle.jn_base.specs.declared.names.ServerNo.{ServerNo}
pub use Rattle.jn_base.specs.declared.names.Party.TheVariants.{Client, Server}
pub use Rattle.jn_base.specs.declared.op.Command.{Command}
pub use Rattle.jn_base.proofs.Tells.{client_tells, server_tells, tid_tells, work_tells}
pub use Rattle.jn_rows.specs.declared.worker.Work.{Work as WorkEntry, Work}
pub use Rattle.jn_rows.specs.declared.client.Taken.{Taken}
pub use Rattle.jn_rows.specs.declared.client.Taken.TheVariants.{Ignored}
pub use Rattle.jn_rows.specs.declared.client.Outstanding.{Outstanding}
pub use Rattle.jn_rows.specs.Stable.{Pick, stable, Left, StableState, Prepared, is_going, MarkGoing, at_work, gone_on, made_all, DropFlag, FlagState, RemoveWork, Change, AddReady, CarryOut, AddFlag, left_of, made_by, at_tid, is_ready}
pub use Rattle.jn_rows.specs.Client.{ClientTable, command_row, take_row, is_current, is_tid, opens, opened_row, if_waits, outcome_row, is_end_or_abort, over, sent_again, is_begin, names_of, begun_row, again_row, is_operation, is_end, told, work_at as open_at, idle, answer_line, if_server, if_idle, if_transaction, if_no_transaction, if_open, if_not_open, with_operation, sends as sends_command, Commanded, Refuses, Sends, new_table, decided_row, sends}
pub use Rattle.jn_rows.specs.ClientLaws.{after_command, are_apart, IsClient}
pub use Rattle.jn_system.specs.WholeSystem.World.{World, Memory, servers_from, clients_from, opening, at_server, own_texts, has_line, commits_in, at_client, new_memory, with_epoch}
pub use Rattle.jn_system.specs.WholeSystem.Servers.{Room, server_row, of_coordinator, server_again, storage_of, server_timeout, of_timeout, restored, line_of, lines_of, of_worker, of_step, is_busy, is_for_worker, server_step}
pub use Rattle.jn_system.specs.WholeSystem.Steps.{Step, Again, Deliver, Nudge, StopDelivery, StopWork, IsStep, after, handed, works, handing, working, Tell, sent_now, IsRun, run, taken_by, done, at_memory, work, nudge, took, commanded, NextEvent, Dismiss, Restart, Narrow, CloseClients, crash, restart, close_clients, Work as WorkStep, ends, stopped, AreNames, tid_before}
pub use Rattle.jn_system.specs.WholeSystem.LockFacts.{UpFact, ServerFact, LockFacts, TableFact, IsSoundWork}
pub use Rattle.jn_system.proofs.WholeSystem.Tables.{of-found}
pub use Rattle.jn_system.specs.WholeSystem.Course.{Course, go, go_on, numbered, without_number, still_waiting, opening_course}
pub use Rattle.jn_system.specs.WholeSystem.Settle.{Chance, first_busy, next_step, onward, until_rest, ask_again, settled, Chances}
pub use Rattle.jn_order.specs.Files.{AllFiles, change, answer_to, Files, there}
pub use Rattle.jn_base.specs.declared.names.Cause.TheVariants.{Requested, Full}
pub use Rattle.jn_msgs.specs.declared.message.Outcome.{Outcome}
pub use Rattle.jn_rows.specs.declared.coordinator.Transaction.{Transaction}
pub use Rattle.jn_rows.specs.declared.coordinator.Stage.{Stage}
pub use Rattle.jn_rows.specs.declared.coordinator.Stage.TheVariants.{Open, Voting, Committed, Aborted}
pub use Rattle.jn_system_order.proofs.Ordering.Openings.{Opening, openings, Has as HasOpening, openings-more}
pub use Rattle.jn_system_reports.proofs.Reporting.Reached.{Reached, next-reached, LineFact, named-is, in-all, opening-reached, Free, invariant}
pub use Rattle.jn_system.proofs.WholeSystem.OneChange.{one-client, one-server, some-memory, none-memory, memory-now, memory-gone}
pub use Rattle.jn_system.proofs.WholeSystem.StepCases.{ClientRow, by_command, by_ignoring, by_answering, by_telling, StepCase, client_row, dismissed, step-case, row_done, quietly, ServerRow, of_message, of_work, of_closing, Quiet, client_repeats, server_repeats, row_stopped, gone_late, gone_down, come_up, found_anew, found-now, found-then, event_begins, none_changes, is_refused, is_lost, FoundThen, by_narrowing, by_raising}
pub use Rattle.jn_base.specs.declared.op.Op.{Op}
pub use Rattle.jn_system_settling.specs.AtRest.Settled.{AreUp, AreAnswered, entry_in, live_at, holds_undecided, tells_outcome, AreDecided, IsSettled, LeavesBetween, is_undecided, is_held, tells_waiting, EndsWait, AreForgotten}
pub use Rattle.std.proofs.lemmas.Option.{slice_get_within}
pub use Rattle.jn_base.specs.declared.names.RequestNo.{RequestNo}
pub use Rattle.jn_system.proofs.WholeSystem.Grows.{Grows, grows}
pub use Rattle.jn_rows.specs.declared.worker.Phase.{Phase}
pub use Rattle.jn_rows.specs.declared.worker.Phase.TheVariants.{Active, Broken, Prepared as Stored}
pub use Rattle.jn_system_order.specs.Mirroring.Mirrors.{IsAddressed, active_in, working_of, working_in, IsTrue, knowledge_in, AreTransactions, IsStage, IsOutstanding, IsCurrent, IsTransaction, known_in, knowledge_of, Mirrors}
pub use Rattle.jn_system_order.proofs.Mirroring.StepMoves.{holds-of}
pub use Rattle.jn_system.proofs.WholeSystem.ServerRows.{row-of-step, row-either}
pub use Rattle.jn_system_settling.specs.Settling.Rests.{ComesNext, AreNext, asked, in_two, chances_of, IsHalt, EachComes, IsBounded, asked as asked_again, EachInTurn, NothingIsLeft, ComeToRest, both_parts}
pub use Rattle.jn_system_reports.proofs.Telling.Acting.{IsSilent, AreSilent, step-stays, acting_at, acting_of, acting_in}
pub use Rattle.jn_base.specs.declared.names.LockUnit.{LockUnit}
pub use Rattle.jn_base.specs.declared.op.Answer.{Answer}
pub use Rattle.jn_records.specs.NetLists.{list_change, intention_change}
pub use Rattle.jn_records.specs.declared.intention.Intention.{Intention}
pub use Rattle.jn_msgs.specs.declared.message.Vote.{Vote}
pub use Rattle.jn_msgs.specs.declared.message.Note.{Note}
pub use Rattle.jn_rows.specs.declared.worker.ActiveWork.{ActiveWork}
pub use Rattle.jn_lock_rows.specs.Matching.{are_rising, is_after}
pub use Rattle.jn_lock_rows.proofs.Works.{in_phase, at-phase, at-grant, once_granted, at-less, at-more, not-before}
pub use Rattle.jn_system_reports.proofs.Reporting.Lists.{In, in-first, in-second, each-in, get-in, Each}
pub use Rattle.jn_base.specs.declared.op.Answer.TheVariants.{Did, Broken as BrokenAnswer, Lost as LostAnswer, Closing}
pub use Rattle.jn_system.specs.WholeSystem.Example.{much, the_client, the_server, the_transaction, delivered, the_work}
pub use Rattle.jn_system.specs.SmallSteps.World.{World as Machine, Knowledge, Working}
pub use Rattle.jn_system.proofs.SmallSteps.Updates.{not_both, clash, at_work_cases, none_unless, none_of, false_unless, some_of, at_work_here, some_is}
pub use Rattle.jn_system.proofs.WholeSystem.CoordinatorRows.{flags-all, coordinator-aside, are_of_flags, close-aside, flags-keep}
pub use Rattle.jn_base.specs.declared.op.Command.TheVariants.{Begin, Open as OpenAt, Do, End, Abort}
pub use Rattle.jn_system_order.proofs.Ordering.Facts.{is_closing, Facts}
pub use Rattle.jn_system_settling.specs.Settling.Bounds.{IsAtRest, NothingGoes, Ends, deliveries, IsSettle, one_if_delivery, IsCourse}
pub use Rattle.jn_base.specs.declared.names.Cause.{Cause}
pub use Rattle.jn_system.specs.SmallSteps.Messages.{Says, IsWorkOf}
pub use Rattle.jn_system.specs.SmallSteps.Transactions.{Knows}
pub use Rattle.jn_rows.specs.declared.coordinator.Voting.{Voting as Ballot}
pub use Rattle.jn_rows.specs.declared.coordinator.Committed.{Committed as Commitment}
pub use Rattle.jn_system_order.proofs.Mirroring.Transactions.{in_stage, at-stage, none-staged, none-less, found-is}
pub use Rattle.jn_msgs.specs.Ranges.{is_few, are_near, is_small}
pub use Rattle.jn_system.specs.WholeSystem.Near.{is_small_stage}
pub use Rattle.jn_row_ranges.specs.Sizes.{committed_at, are_small_stages, AreFlagsOf, AreOrderly}
pub use Rattle.jn_system_settling.specs.Settling.Sizes.{TableSizes, ServerSizes, Sizes, IsSmall, sends_small, ClientSizes, AreSmallFlags, AreAtMost64, StoredSizes}
pub use Rattle.jn_system.proofs.WholeSystem.WorkerRows.{going-is, worker-keeps, step-keeps}
pub use Rattle.jn_base.specs.declared.names.OperationNo.{OperationNo}
pub use Rattle.jn_system_reports.specs.BetweenSteps.Works.{IsActive}
pub use Rattle.jn_rows.specs.declared.client.OpenWork.{OpenWork}
pub use Rattle.jn_system.specs.SmallSteps.Steps.{run as run_atoms, opening_world, Atom, Perform, Lose, Prepare, Crash, new_work as new_working, after as after_atom}
pub use Rattle.jn_system.specs.WholeSystem.Numbers.{numberless, plain_client, plain_world}
pub use Rattle.jn_system.proofs.WholeSystem.Closes.{outcomes-close, Closes, Empty, Stays, Goes, Waits, Forgets, client-closes}
pub use Rattle.jn_row_ranges.proofs.WorkerFits.{keep_flags, worker-fits, step-fits, weighs-some, length-phase}
pub use Rattle.jn_base.specs.declared.names.Party.{Party}
pub use Rattle.jn_system_settling.specs.Settling.Weights.{burden, weight_at, weigh, goings_at, sum_over, going_works}
pub use Rattle.jn_system.proofs.SmallSteps.Invariant.{Invariant, NamesFact, MayBeFound}
pub use Rattle.jn_system.specs.SmallSteps.Premises.{May, MayRun}
pub use Rattle.jn_system.proofs.SmallSteps.Runs.{step_kept, run_kept, opening_kept}
pub use Rattle.jn_system_order.proofs.Ordering.ClientSteps.{Next}
pub use Rattle.jn_system_order.proofs.Ordering.Runs.{step-next, moves-in-order}
pub use Rattle.jn_system.proofs.WholeSystem.Steps.{locks-keep, opening-keeps}
pub use Rattle.std.proofs.Math.Seq.{drop-append_seam}
pub use Rattle.jn_row_ranges.specs.Weighing.{weigh_all, goings}
pub use Rattle.jn_row_ranges.proofs.CoordinatorFits.{weigh-commits, weigh-all-more, besides-few, few-of, CoordinatorFits, named_at, committed-named, flags_fit, coordinator-fits, close-fits}
pub use Rattle.jn_msgs.specs.Weights.{weight}
pub use Rattle.jn_locks.specs.Locks.{work_before}
pub use Rattle.jn_system_settling.specs.Settling.Events.{line, AreSteps, Event, Does, Settles, Told, after_events}

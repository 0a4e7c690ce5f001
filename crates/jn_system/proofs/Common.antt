-- The names from below that these proofs cite, passed on from one place. Declares nothing.
pub use Rattle.std.proofs.Common.{◌≡◌, ◌≢◌, ◌⊎◌, inl, inr, ℕ, Bool, true, false, List, take, Option, Some, None, is_some, refl, sym, ◌∙◌, ap, subst, arith, [], ◌∷◌, ◌++◌, ◌+◌, ◌≤◌, ◌<◌, zero, suc, append-nil, true≢false, drop}
pub use Rattle.jn_base.specs.declared.names.ServerNo.{ServerNo}
pub use Rattle.jn_base.specs.declared.names.LockUnit.{LockUnit}
pub use Rattle.jn_base.specs.declared.names.WorkId.{WorkId}
pub use Rattle.jn_base.specs.Names.{work_eq, server_eq, tid_eq, unit_eq, file_eq, block_eq, client_eq}
pub use Rattle.jn_base.proofs.Tells.{work_tells, server_tells, tid_tells, client_tells}
pub use Rattle.jn_order.specs.Files.{Files, or_else, change, no_files, AllFiles, answer_to, file_of, nothing, effect, is_did, files_after, zeros}
pub use Rattle.jn_records.specs.declared.intention.Intention.{Intention}
pub use Rattle.jn_records.specs.NetLists.{intention_change, list_change, change_by, InOrder, First, Kept, MadeFresh, TakenAway, CutFrom, as_first, entry, stays}
pub use Rattle.jn_rows.specs.Stable.{StableState, Prepared, Pick, MarkGoing, CarryOut, RemoveWork, made_by, gone_on, carried_at, FlagState, AddReady, AddFlag, DropFlag, at_work, ready_work, flag_state, at_tid, Change, stable, made_all, Left, is_going, next_after, left_of}
pub use Rattle.jn_locks.specs.Locks.{is_unit, together, GoTogether, unit_before}
unfoldable pub use Rattle.jn_locks.specs.Locks.{work_before}
pub use Rattle.jn_lock_rows.specs.Matching.{commit_units, are_rising, is_after, is_before}
pub use Rattle.jn_system.specs.SmallSteps.Held.{HoldsForCommit, Writes, HasRead, ReadsFiles, file_unit}
pub use Rattle.jn_system.specs.SmallSteps.World.{World, Working, Knowledge, Unknown, Begun, Voting, Committed, replay, IsSerial}
pub use Rattle.jn_system.specs.SmallSteps.Steps.{count_to, found_of, restart, put, lose, Atom, after, run, Prepare, Make, Name, Decide, Narrow, RaiseEpoch, Crash, Restart, server_of, always, name_it, CarryPart, Perform, End, perform, end_it, trace_of, opening_world, begin_it, learn, note_ready, note_over, abort, close, Begin, Open, NoteReady, NoteOver, Abort, Close, open_work, Lose, Learn, Count}
pub use Rattle.jn_system.specs.SmallSteps.Premises.{MayGoOn, MayCarryOut, MayRemove, MayCount, MayRestart, MayPrepare, MayFlag, MayRun, MayMake, May, MayPerform, MayEnd, MayLearn, MayBeOver, MayAbort, MayBegin, MayOpen, MayName}
pub use Rattle.std.specs.Prelude.{if◌then◌else◌, ◌||◌, not, ◌&&◌, slice_get, nat_lt, nat_eq, length, filter}
pub use Rattle.jn_base.specs.declared.names.Tid.{Tid}
pub use Rattle.jn_system.specs.SmallSteps.Transactions.{AllOver, Knows, AllReady, AreParts}
pub use Rattle.jn_records.specs.declared.flag.Flag.{Flag}
pub use Rattle.jn_system.specs.SmallSteps.Traces.{asked, effects, asks, effect_of, asks_block}
pub use Rattle.jn_order.specs.Answers.{FilesAnswer, Answered}
pub use Rattle.jn_system.specs.WholeSystem.World.{changed, with_epoch, at_server, Memory, servers_from, at_client, opening}
pub use Rattle.jn_order.specs.Changes.{and_then, or_also}
pub use Rattle.jn_rows.specs.Coordinator.{is_work, all_in, closed, thanked, thanked_changes, after_closing, changes_of_closing, all_thanked, flags_of_thanked, CoordinatorTable, transaction_at, with_work, commit_row, forget_row, begin_again, begun_by, seen_now, end_promised, end_stage, end_row, abort_stage, abort_request, told_stage, inquire_row, counted_vote, vote_stage, vote_row, done_stage, done_row, thanks_stage, thanks_row, coordinator_row, abort_row, aborted_to, besides, commits, committed_to, drops, prepares, staged, close_clients_row}
pub use Rattle.jn_base.specs.declared.names.LockUnit.TheVariants.{File, Block}
pub use Rattle.jn_base.specs.declared.names.FileNo.{FileNo}
pub use Rattle.jn_base.specs.declared.names.BlockNo.{BlockNo}
pub use Rattle.jn_rows.specs.Worker.{written_unit, going_work, going_row, carried_row, intentions_of, WorkerTable, Wanted, Held, has_mode, units_for, holds, gives_way, collides_at, collision, holder_at, held_by, conflict, breaks_at, work_at, broken_by, after_grant, with_phase, name_from, restored_work, restored_worker, with_units, wants_of, commit_wants, is_fit, worker_row, worker_step, timeout_row, work_of, without, new_work, with_unit, WorkStorage, open_row, Asked, Here, granted_row, repeated, op_phase, op_row, refusal_of, counted, vote_of, shortage, need_in, prepared_row, prepare_phase, prepare_row, commit_phase, commit_row as work_commit_row, drop_phase, drop_row, first_of_two, locked, vulnerable, timed_out}
pub use Rattle.jn_system.specs.SmallSteps.Order.{has_committed, CommitsOnce, HasTraces, IsDone, IsInOrder}
pub use Rattle.jn_msgs.specs.declared.message.Message.{Message}
pub use Rattle.jn_msgs.specs.declared.message.Vote.{Vote}
pub use Rattle.jn_msgs.specs.declared.message.Outcome.{Outcome}
pub use Rattle.std.proofs.lemmas.Bool.Decides.{nat_tests}
pub use Rattle.jn_base.specs.declared.op.Op.{Op}
pub use Rattle.jn_base.specs.declared.op.Answer.{Answer}
pub use Rattle.jn_base.specs.declared.op.Answer.TheVariants.{Read as Found, Broken as BrokenAnswer, Lost as LostAnswer, Closing, NoFile}
pub use Rattle.jn_rows.specs.Outcomes.{RowOutcome, Sent, quiet, ignored, sends}
pub use Rattle.jn_system.specs.WholeSystem.Servers.{Room, storage_of, server_step, of_worker, of_step, is_busy, server_again, of_coordinator, server_row, is_for_worker, server_timeout, of_timeout, restored}
pub use Rattle.jn_system.specs.WholeSystem.Steps.{done, work, works, Step, sent_now, NextEvent, Tell, Again, Deliver, Nudge, Timeout, StopDelivery, StopWork, StopRestart, Dismiss, CloseClients, AreNames, tid_before, IsStep, commanded, took, ends, at_memory, handed, nudge, timeout, crash, narrow, stop_restart, close_clients, are_rising as names_rise, stopped, restart_with, IsRun}
pub use Rattle.jn_report.specs.declared.line.Text.{Text}
pub use Rattle.jn_rows.specs.declared.worker.Work.{Work as WorkEntry, Work}
pub use Rattle.std.proofs.Math.Path.{fun_ext}
pub use Rattle.jn_locks.specs.declared.words.Mode.{Mode}
pub use Rattle.jn_locks.specs.declared.words.Mode.TheVariants.{Read, IntentionWrite, Commit}
pub use Rattle.jn_locks.proofs.Orders.{unit_tells, work_before-transitive}
pub use Rattle.jn_rows.specs.declared.worker.Phase.{Phase}
pub use Rattle.jn_base.specs.declared.names.ClientNo.{ClientNo}
pub use Rattle.jn_rows.specs.declared.coordinator.Transaction.{Transaction}
pub use Rattle.jn_rows.specs.declared.coordinator.Stage.{Stage}
pub use Rattle.jn_rows.specs.declared.coordinator.Committed.{Committed as Commitment}
pub use Rattle.jn_base.specs.declared.names.RequestNo.{RequestNo}
pub use Rattle.jn_base.specs.declared.names.Tickets.{Tickets}
pub use Rattle.jn_base.specs.declared.names.Party.TheVariants.{Client, Server}
pub use Rattle.jn_msgs.specs.declared.message.Note.{Note}
pub use Rattle.jn_rows.specs.declared.worker.Phase.TheVariants.{Broken, Active, Prepared as Stored}
pub use Rattle.jn_lock_rows.proofs.Works.{work_is, work_same, found-name, in_phase, at-phase, rising-phase, once_granted, at-grant, rising-grant, at-more, rising-more, at-less, rising-less, none-front, found-behind, not-before}
pub use Rattle.jn_rows.specs.Client.{ClientTable, again_row, Commanded, Refuses, Sends, command_row, take_row, sent_again, if_waits, if_idle, if_transaction, if_no_transaction, if_open, if_not_open, is_current, begun_row, opened_row, outcome_row, over}
pub use Rattle.jn_system.specs.WholeSystem.LockFacts.{IsSoundWork, TableFact, IsSoundPrepared, ReadFiles, StoredFact, stored_phase, IsSoundActive, UpFact, ServerFact, LockFacts}
pub use Rattle.jn_base.specs.declared.op.Command.{Command}
pub use Rattle.jn_rows.specs.declared.client.Taken.{Taken}
pub use Rattle.std.specs.List.{list_any, list_all, AllByRecursion}
pub use Rattle.jn_rows.specs.declared.worker.PreparedWork.{PreparedWork}
pub use Rattle.jn_records.specs.NetEdits.{intention_for, list_after, with_intention, cut_again, front}
pub use Rattle.jn_rows.specs.declared.worker.ActiveWork.{ActiveWork}

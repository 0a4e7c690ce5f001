-- The names from below that these proofs cite, passed on from one place. Declares nothing.
pub use Rattle.std.proofs.Common.{◌≡◌, ◌≤◌, ◌<◌, ℕ, List, length, Option, Some, None, refl, ap, subst, arith, ◌∙◌, sym, true≢false, true, Result, zero, suc, Bool, false, [], ◌∷◌, slice_get, map, Ok, Err, ◌≢◌, drop, ◌++◌, Vec, ◌+◌, inl, inr, drop-cons, get_or, append-nil, ◌-◌, rules, lit<}
pub use Rattle.jn_base.specs.declared.names.ServerNo.{ServerNo}
pub use Rattle.jn_host.specs.Outside.{Contents}
pub use Rattle.jn_schedule.specs.declared.Event.{Event}
pub use Rattle.jn_schedule.specs.Grammar.{IsSchedule, word_lines}
pub use Rattle.jn_image_files.specs.Kept.{Has, image_name, IsSaved}
pub use Rattle.jn_options.specs.declared.asked.Geometry.{Geometry}
pub use Rattle.jn_options.specs.declared.asked.Opening.TheVariants.{New, Images}
pub use Rattle.jn_options.specs.declared.asked.Options.{Options}
pub use Rattle.jn_machine.specs.Chances.{Setup}
pub use Rattle.jn_machine.specs.Devices.{Devices}
pub use Rattle.jn_options.specs.declared.asked.Command.{Command}
pub use Rattle.jn_options.specs.declared.asked.Command.TheVariants.{Run, Trial, Node}
pub use Rattle.jn_node_run.specs.Outcome.{NodeEnds, node_done, node_not_loaded, node_refused, node_refusal_not_written, node_not_read, node_not_written, node_no_epoch, node_no_epoch_left, node_passed_limit, node_frame, node_unsettled, node_not_saved, node_no_memory, node_no_memory_inside}
pub use Rattle.jn_options.specs.declared.asked.Opening.{Opening}
pub use Rattle.jn_schedule.specs.Faults.{IsFirstFault}
pub use Rattle.jn_writing.specs.Outside.{Outside, SourceState, SinkState, KeeperState, NoneFails, sink_state, Writes, KeeperFails, source_state, outside, keeper_state, FailsToWrite}
pub use Rattle.jn_run.specs.Outcome.{IsCutShort, IsWholeReport, Keeps, KeepsFirst, OutcomeOf, ReadsSchedule, RefusedImage, RefusedSchedule, RunEnds, TrialEnds, WordsEnd, words_refused, words_not_written, words_no_memory, done, not_read, too_many_bytes, too_many_events, schedule_refused, schedule_not_written, not_loaded, image_refused, image_not_written, at_limit, not_written, not_saved, no_memory, no_memory_inside, no_memory_saving, trial_done, trial_not_written, trial_at_limit, trial_no_memory, geometry_counts, AreNew, BeginsWith, Opens, IsUntouched, Accepted, AreKept, IsRefusedImage, LeavesFiles, most_events, Ran, Reads, refused_line, IsPart, BeginsFromImages, HasTooManyBytes, trial_options, RanTrial, TrialToLimit}
pub use Rattle.jn_serving.specs.Input.{IsText, most_bytes}
pub use Rattle.jn_status.specs.declared.status.Status.{Status}
pub use Rattle.std.specs.Prelude.{is_ok, nat_lt, ◌*◌, option_map, take, IfSome}
pub use Rattle.jn_report.specs.declared.line.Line.{Line}
pub use Rattle.jn_writing.specs.Reporting.{Reporting, Reports, Joins}
pub use Rattle.jn_run.specs.Running.{ReportedLast, course_of, AreLeft, RunsFrom, TookWhole, IsStore, Course, HasTold, StandsBefore, TookLimited, TookPart, ToldTo, Reaches, Reported, lines_kept, is_limit}
pub use Rattle.std.proofs.lemmas.Option.{slice_get_past, slice_get-map}
pub use Rattle.jn_device.specs.Device.{DeviceState}
pub use Rattle.jn_disks.specs.Disks.{IsNewStore, IsNewDisk, image_of, files_in, HasNewDevice}
pub use Rattle.jn_page_state.specs.Images.{IsFresh, IsImage}
pub use Rattle.jn_image.proofs.SoundPages.{sound_pages}
pub use Rattle.jn_image_files.specs.Opened.{IsStoreOf, AreStoresOf as AreStoresOfImages, AreWithin, IsOpened, AreClosed, found_at}
pub use Rattle.jn_options.specs.Words.{IsOpening, command_of}
pub use Rattle.jn_order.specs.Files.{Files, AllFiles, no_files}
pub use Rattle.jn_records.specs.Sound.{HasRoot}
pub use Rattle.jn_records.specs.StablePages.{Counts, root_by, page_count}
pub use Rattle.jn_recovery.specs.declared.counts.PageCounts.{PageCounts}
pub use Rattle.jn_recovery.specs.Counts.{counts_by}
pub use Rattle.jn_rows.specs.Stable.{StableState, Pick, stable}
pub use Rattle.jn_store.specs.Pairs.{pairs_view}
pub use Rattle.jn_store.specs.Store.{StoreView}
pub use Rattle.jn_machine.specs.Whole.{closed_world, AreImages, IsFresh as IsFreshDevice, IsWhole as IsWholeRun, IsLimited, IsPartOfRun, before, IsWritten}
pub use Rattle.jn_run.specs.Opening.{AreDisks, AreOpened, IsDisk}
pub use Rattle.jn_events.specs.Written.{AreStoresOf, StartsAt, Closes, IsClosed}
pub use Rattle.std.specs.List.{AllByRecursion}
pub use Rattle.jn_schedule.specs.Ranges.{EventInRange}
pub use Rattle.jn_machine.specs.Runs.{Moment, Leads, MayLead, DoesStep}
pub use Rattle.jn_run.specs.declared.running.RunFault.{RunFault}
pub use Rattle.jn_run.specs.Parts.{EndsOn}
pub use Rattle.std.specs.declared.alloc.Global.{Global}
pub use Rattle.std.specs.Io.KnownBytes.{prepend_known}
pub use Rattle.jn_memdisk.specs.declared.disk.MemDisk.{MemDisk}
pub use Rattle.jn_events.specs.Stores.{AreStores}
pub use Rattle.std.proofs.lemmas.List.{length-drop, length-take, take-append-drop, length-append, length-map}
pub use Rattle.jn_base.specs.Counts.{Rose}
pub use Rattle.std.proofs.lemmas.Grind.{common_steps}
pub use Rattle.std.proofs.lemmas.Result.{err_from_is_err_and}
pub use Rattle.jn_world.specs.Standing.{IsWorld}

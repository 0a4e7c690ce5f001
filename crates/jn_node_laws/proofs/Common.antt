-- The names from below that these proofs cite, passed on from one place. Declares nothing.
pub use Rattle.std.proofs.Common.{◌≡◌, ◌≢◌, ℕ, ◌<◌, true, false, List, [], take, Option, Some, None, is_some, refl, sym, ◌∙◌, ap, subst, arith, true≢false, ⊎_elim, ◌+◌, ◌≤◌, ◌∷◌, length, ◌⊎◌, inl, inr, ◌++◌, drop, length-append, Bool, ◌*◌}
pub use Rattle.std.proofs.lemmas.Option.{same_Some, none-some, slice_get_within}
pub use Rattle.jn_base.specs.declared.names.ServerNo.{ServerNo}
pub use Rattle.jn_host.specs.Outside.{Contents}
pub use Rattle.jn_image.specs.Form.{image_bytes, image_counts}
pub use Rattle.jn_image_files.specs.Kept.{Has, image_name, IsSoundImage}
pub use Rattle.jn_image_files.proofs.Exclusive.{accepted_is_not_refused, one_cause, one_image}
pub use Rattle.jn_rows.specs.Stable.{StableState, Pick, Prepared, made_all, CarryOut, is_going, AddFlag, AddReady, Change, DropFlag, MarkGoing, RemoveWork, made_by, at_work, gone_on, ready_work}
pub use Rattle.jn_rows.specs.Outcomes.{Sent, RowOutcome, quiet}
pub use Rattle.jn_serving.specs.Input.{frames_of, held_of, most_bytes, Gave, IsAtEnd, IsText, MeetsFault, inside, at_end}
pub use Rattle.jn_store.specs.Pairs.{pairs_view}
pub use Rattle.jn_wire.specs.declared.frame.Framed.{Framed}
pub use Rattle.jn_wire.specs.Unframing.{Unframed, nothing_held, Held, after_byte, holds, in_front, joined, unframed, unframed_by, is_whole, waiting}
pub use Rattle.jn_writing.specs.Outside.{NoneFails, Outside, SinkState, Writes, WritesFront, SourceState}
pub use Rattle.jn_node.specs.Serving.{sent_bytes, to_itself, to_others, is_own, step_of, row_for, Begins, Desk, IsTaken, NoFrame, Nudges, OneMore, Rests, ServesFrame, ServesFrames, Settles, Takes, TakesOwn, TimesOut, Works, posted}
pub use Rattle.std.specs.Io.KnownBytes.{append_known}
pub use Rattle.jn_image_files.specs.declared.refusal.Cause.{Cause}
pub use Rattle.jn_image_files.specs.Examined.{IsRefused}
pub use Rattle.jn_image_files.specs.Texts.{refusal_text}
pub use Rattle.jn_options.specs.declared.asked.Node.{Node}
pub use Rattle.jn_status.specs.declared.status.Status.{Status}
pub use Rattle.jn_node_run.specs.Outcome.{IsFound, NodeEnds, ServedFront, ServedWhole, epoch_found, state_then, node_done, node_not_loaded, node_refused, node_refusal_not_written, node_not_read, node_not_written, node_no_epoch, node_no_epoch_left, node_passed_limit, node_frame, node_unsettled, node_not_saved, node_no_memory, node_no_memory_inside, Served}
pub use Rattle.jn_records.specs.Pages.{last_epoch}
pub use Rattle.jn_node_laws.specs.Ends.{NodesAreCutShort, NodesComplete, NodesEndAsGiven, NodesEndInOneWay, NodesEndOnce, OneEndIsGiven, Tell, is_own_end, KeepsBytes, SomeEndIsGiven, FoundIsGiven, BooksLeadOnce, FramesLead, ServedAsBooksLead}
pub use Rattle.jn_node_laws.specs.Given.{EndsAsGiven, EndsBy, EndsWhole, HasNoFrame, IsGiven, PassesLimit, as_given, cut_short, given_frames, given_no_epoch, given_refused, has_no_epoch, has_no_frame, has_waiting, is_done, is_too_long, Leads, is_at_fault, is_cut_off}
pub use Rattle.jn_node_laws.specs.Books.{Books, BooksServeAll, first_books, AreListed, ServeNone, ServeOneMore, BooksServe, BooksSettle, ServeMessage, ServeNudge, ServeTimeout, SettleByOwn, SettleByWork, SettleHere, row_by, room_by, step_by, taken_by, worked_by, pages_used, records_used}
pub use Rattle.jn_serving.proofs.Written.{writes-nothing}
pub use Rattle.jn_device.specs.Device.{DeviceState}
pub use Rattle.jn_disks.specs.Disks.{HasPages, files_in, AreSound, image_of}
pub use Rattle.std.specs.Prelude.{◌^◌, ◌-◌, IfSome, Result, Ok, Err, if◌then◌else◌, zero, suc, ◌&&◌, nat_lt, slice_get, ◌||◌, not, nat_eq, ◌/◌, count_by, option_and_then, option_map, slice_index}
pub use Rattle.std.proofs.lemmas.Bool.{cases_lt}
pub use Rattle.std.proofs.lemmas.List.{take_all, append-nil, append_assoc, take-append-le, take-append-drop, get_or_past}
pub use Rattle.jn_image.specs.Unsound.{seen, IsFirstFault, ToAddresses, ToFiles, ToHeads, ToMaps, ToPages, ToPairs, ToPool, ToRoot}
pub use Rattle.jn_image.specs.declared.image.Image.{Image}
pub use Rattle.jn_memdisk.specs.Pages.{half_at, page_state}
pub use Rattle.jn_wire.specs.declared.fault.WireFault.{WireFault}
pub use Rattle.jn_base.specs.declared.names.WorkId.{WorkId}
pub use Rattle.jn_base.specs.declared.names.Tid.{Tid}
pub use Rattle.jn_base.specs.Names.{work_eq, tid_eq, file_eq, unit_eq, block_eq}
pub use Rattle.jn_base.proofs.Tells.{work_tells, tid_tells, file_tells}
pub use Rattle.jn_storage.specs.Listing.{IsListing, is_in, are_different, total}
pub use Rattle.jn_records.specs.StablePages.{Counts, Pages, page_count, address_by, block_behind, block_in, files_of_pages, head_of}
pub use Rattle.std.proofs.Math.Seq.{take-append_seam, take-append-add}
pub use Rattle.jn_page_state.specs.Pages.{found_on, half_of, pages_by, heads_on, pool_on}
pub use Rattle.jn_node.specs.Running.{Running, IsOpen, state_of, beside_at, room_on, IsMoment, IsMade}
pub use Rattle.jn_node_laws.specs.Lockstep.{AreAlike, ImagesFixServers, AreNamed, IsNamedIn, FramesFixWhatIsSent}
pub use Rattle.jn_order.specs.Files.{Files, change, or_else, there}
pub use Rattle.jn_page_state.specs.Images.{IsFresh, only_files, IsStoreOf}
pub use Rattle.jn_store.specs.Store.{StoreView}
pub use Rattle.std.proofs.lemmas.Bool.Decides.{nat_tests}
pub use Rattle.std.specs.List.{AllByRecursion, list_any}
pub use Rattle.jn_msgs.specs.declared.message.Message.{Message}
pub use Rattle.jn_system.proofs.WholeSystem.CoordinatorRows.{epoch-all, Aside, coordinator-aside, flags-all}
pub use Rattle.jn_rows.specs.Worker.{going_row, going_work, WorkerTable, timed_out, timeout_row, work_of, worker_row, vulnerable, WorkStorage, carried_row, intentions_of, Wanted, after_grant, breaks_at, broken_by, commit_wants, counted, done, name_from, new_work, with_phase, without, work_at}
pub use Rattle.jn_rows.specs.declared.worker.Work.{Work}
pub use Rattle.jn_rows.specs.Coordinator.{CoordinatorTable, coordinator_row, promised}
pub use Rattle.jn_system.specs.WholeSystem.Servers.{Room, of_coordinator, of_step, of_timeout, of_worker, server_again, server_row, server_step, server_timeout, storage_of, restored}
pub use Rattle.jn_system.specs.WholeSystem.World.{Memory, with_epoch}
pub use Rattle.jn_base.specs.declared.names.Tickets.{Tickets}
pub use Rattle.jn_storage.specs.Orderly.{list_of, file_there}
pub use Rattle.jn_system.proofs.WholeSystem.ServerRows.{row-either, row-of-step}
pub use Rattle.jn_system.proofs.WholeSystem.WorkerCases.{WorkerCase, WorkerStep, carries_out, erases_rubbish, is_over, marks_it, prepares_it, removes_it, worker-case, worker-step-case, opens_anew, refuses_next, performs_next, drops_it, its_answer, its_wants}
pub use Rattle.jn_wire.specs.Taking.{MayCome}
pub use Rattle.jn_wire.specs.declared.frame.Body.{Body}
pub use Rattle.jn_worker.specs.Leaving.{Beside, left_over, left_by}
pub use Rattle.jn_storage.proofs.Listings.{Tells, but, listing-less, total-but}
pub use Rattle.jn_base.specs.declared.names.BlockNo.{BlockNo}
pub use Rattle.jn_base.specs.declared.names.FileNo.{FileNo}
pub use Rattle.jn_base.specs.declared.names.LockUnit.{LockUnit}
pub use Rattle.jn_base.specs.declared.names.LockUnit.TheVariants.{File, Block}
pub use Rattle.jn_base.specs.Limits.{head_blocks, most_blocks}
pub use Rattle.jn_locks.proofs.Orders.{unit_tells}
pub use Rattle.jn_records.specs.MapPlaces.{has_map_after, is_in_range, places_after, range_of, maps_in, names_map}
pub use Rattle.jn_recovery.proofs.TableCounted.{map_tells, map_of_file}
pub use Rattle.jn_server.specs.Handling.{left_by_work}
pub use Rattle.jn_storage.specs.Storage.{has_map, is_stored, map_eq}
pub use Rattle.jn_server.specs.Standing.{beside_on, standing_pages, promised_heads, has_rubbish}

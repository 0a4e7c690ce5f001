-- The names from below that these proofs cite, passed on from one place. Declares nothing.
pub use Rattle.std.proofs.Common.{◌≡◌, ◌≤◌, ◌+◌, ℕ, Bool, true, false, List, length, Option, Result, Ok, Err, refl, sym, ap, subst, ◌∙◌, arith, true≢false, ◌≢◌, Some, None}
pub use Rattle.std.specs.Prelude.{◌↔◌, IsFalse, is_ok, is_some}
pub use Rattle.jn_image_files.specs.Kept.{Has, image_name}
pub use Rattle.jn_image_files.specs.Opened.{AreWithin, IsClosed}
pub use Rattle.jn_node.specs.declared.fault.NodeFault.{NodeFault}
pub use Rattle.jn_node_run.specs.Outcome.{EndsSettled, IsFound, NodeEnds, RefusedOwn, ServedWhole, ServedFront, epoch_found, node_done, node_not_loaded, node_refused, node_refusal_not_written, node_not_read, node_not_written, node_no_epoch, node_no_epoch_left, node_passed_limit, node_frame, node_unsettled, node_not_saved, node_no_memory, node_no_memory_inside, KeepsOwn}
pub use Rattle.jn_records.specs.Pages.{last_epoch}
pub use Rattle.jn_node_run.specs.Parts.{ServerKept, DiskKept, status_of, status_then, IsOwnStore}
pub use Rattle.jn_options.specs.declared.asked.Node.{Node}
pub use Rattle.jn_records.specs.StablePages.{Counts}
pub use Rattle.jn_device.specs.Device.{DeviceState}
pub use Rattle.jn_serving.specs.Streams.{Start, Streamed, StreamedFront, StreamsTo, start_of}
pub use Rattle.jn_status.specs.declared.status.Status.{Status}
pub use Rattle.jn_store.specs.Pairs.{pairs_view}
pub use Rattle.jn_writing.specs.Outside.{FailsToWrite, KeeperState, Outside, SinkState, SourceState, Writes, WritesFront, KeeperFails, keeper_state, sink_state, source_state, outside}
pub use Rattle.jn_host.specs.Outside.{Contents, kept_at, found_bytes}
pub use Rattle.jn_image_files.specs.Saved.{SavesOne}
pub use Rattle.jn_recovery.specs.Counts.{counts_by}
pub use Rattle.jn_node.specs.Nodes.{running_at}

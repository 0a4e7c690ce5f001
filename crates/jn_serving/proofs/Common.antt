-- The names from below that these proofs cite, passed on from one place. Declares nothing.
pub use Rattle.std.proofs.Common.{◌≡◌, ◌≤◌, ℕ, zero, suc, ◌+◌, ◌-◌, Bool, List, [], ◌∷◌, ◌++◌, length, take, refl, sym, ◌∙◌, ap, arith, append_assoc, Option, Some, Result, Ok, Err, if◌then◌else◌, ◌<◌, min, drop, subst, append-nil, length-append, get_or, true≢false}
pub use Rattle.std.specs.Prelude.{None, true, false, is_ok, is_some, option_map, IfSome, OnOk, IsErr, IsErrAnd}
pub use Rattle.std.proofs.Math.Seq.{take-append-add, take-append_seam, drop-append_seam, take-length}
pub use Rattle.std.proofs.lemmas.List.{take_all, take-append-le, take_more, length-take-le}
pub use Rattle.jn_base.specs.declared.names.ServerNo.{ServerNo}
pub use Rattle.jn_wire.specs.declared.frame.Framed.{Framed}
pub use Rattle.jn_wire.specs.declared.fault.WireFault.{WireFault}
pub use Rattle.jn_wire.specs.Unframing.{Held, Unframed, after_byte, holds, in_front, is_whole, joined, met, nothing_held, unframed, unframed_by, waiting}
pub use Rattle.jn_serving.specs.Input.{frames_of, held_of, most_bytes, Gave, IsText, MeetsFault, inside, at_end, most_piece}
pub use Rattle.jn_serving.specs.Pieces.{fitting, Came, ReadsPiece, ServesRead, done_of}
pub use Rattle.std.specs.Io.KnownBytes.{prepend_known, append_known}
pub use Rattle.jn_base.specs.Counts.{Rose}
pub use Rattle.jn_node.specs.Running.{Running}
pub use Rattle.jn_records.specs.StablePages.{Counts}
pub use Rattle.jn_wire.specs.Stream.{Stream, kept_by, kept_error, with_held}
pub use Rattle.jn_writing.specs.Outside.{SourceState, SinkState, Writes, WritesFront, FailsToWrite, sink_state, source_state}
pub use Rattle.jn_serving.specs.Streams.{EndsStream, ServesFirst, ServesPiece, ServesTo, Start, StreamedFront, StreamsTo, start_of, ServesAll, ServesOne}
pub use Rattle.jn_serving.specs.declared.fault.StreamFault.{StreamFault}
pub use Rattle.jn_node.specs.Calls.{TakesFrame, IsSameNode}
pub use Rattle.jn_node.specs.Nodes.{IsNode, counts_at, running_at}
pub use Rattle.jn_node.proofs.Following.{bytes-both, serves-both, serves-more, same-then}
pub use Rattle.jn_store.specs.Store.{StoreView}
pub use Rattle.jn_serving.specs.declared.fault.AnswerFault.{AnswerFault}
pub use Rattle.jn_recovery.specs.Counts.{counts_by}

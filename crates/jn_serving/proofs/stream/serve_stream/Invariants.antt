use Rattle.jn_serving.proofs.Common.{◌≡◌, ◌≤◌, ◌+◌, ◌-◌, min, length, List, ℕ, IsSameNode, IsNode, counts_at, running_at, most_bytes, most_piece, start_of, sink_state, source_state}
use Rattle.jn_serving.proofs.Reading.{HasRead}
use Rattle.jn_serving.proofs.stream.serve_stream.Given as goal

-- so many bytes were read, and what they bring was served
abbrev pub invariant-loop-count : goal.invariant-loop-count
invariant-loop-count g l = record {
  room : length l.piece ≡ most_piece;
  most : l.count ≤ most_bytes + 1;
  node : IsNode (λ s. g.S.StableStore.view s) l.node;
  same : IsSameNode l.fn.node l.node;
  next : l.node.running.tickets.next ≤ l.count;
  place : l.unframer.held.at + length l.unframer.held.bytes ≡ min l.count most_bytes;
  read : (read : List ℕ) × HasRead (start_of l.fn.server (counts_at l.fn.node) (running_at (λ s. g.S.StableStore.view s) l.fn.node) (source_state g.R.Source.left g.R.Source.faults l.fn.source)
      (sink_state g.K.Sink.taken g.K.Sink.faults l.fn.sink))
      read l.count l.unframer (running_at (λ s. g.S.StableStore.view s) l.node) (source_state g.R.Source.left g.R.Source.faults l.source) (sink_state g.K.Sink.taken g.K.Sink.faults l.sink);
}

abbrev pub decreases-loop-count : goal.decreases-loop-count
decreases-loop-count g l = 4194305 - l.count

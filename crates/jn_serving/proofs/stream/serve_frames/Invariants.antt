use Rattle.jn_serving.proofs.Common.{◌≤◌, ◌+◌, take, IsSameNode, IsNode, counts_at, running_at, ServesTo, Writes, sink_state}
use Rattle.jn_serving.proofs.stream.serve_frames.Given as goal

-- those so far were served
abbrev pub invariant-loop-framed : goal.invariant-loop-framed
invariant-loop-framed g l = record {
  node : IsNode (λ s. g.S.StableStore.view s) l.node;
  same : IsSameNode l.fn.node l.node;
  next : l.node.running.tickets.next ≤ l.fn.node.running.tickets.next + l.framed-index;
  serves : ServesTo l.fn.node.server (counts_at l.fn.node) (running_at (λ s. g.S.StableStore.view s) l.fn.node) (sink_state g.K.Sink.taken g.K.Sink.faults l.fn.sink)
      (take l.framed-index l.frames) Writes
      (running_at (λ s. g.S.StableStore.view s) l.node) (sink_state g.K.Sink.taken g.K.Sink.faults l.sink);
}

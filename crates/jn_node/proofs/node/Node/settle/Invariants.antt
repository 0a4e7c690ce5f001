use Rattle.std.proofs.Common.{◌≡◌}
use Rattle.jn_node.specs.Calls.{GoesOn, IsSameNode}
use Rattle.jn_node.specs.Nodes.{IsAtWork, left_to_take}
use Rattle.jn_node.proofs.node.Node.settle.Given as goal

abbrev pub invariant-loop : goal.invariant-loop
invariant-loop g l = record {
  runs : IsAtWork (λ s. g.S.StableStore.view s) l.self;
  goes : GoesOn (λ s. g.S.StableStore.view s) l.initial.self l.self;
  tickets : l.self.running.tickets ≡ l.initial.self.running.tickets;
  same : IsSameNode l.initial.self l.self;
}

-- each turn leaves less to take and to carry out
abbrev pub decreases-loop : goal.decreases-loop
decreases-loop g l = left_to_take (λ s. g.S.StableStore.view s) l.self

use Rattle.std.proofs.Common.{◌≡◌, ◌≤◌}
use Rattle.jn_server.specs.Remaining.{steps_left}
use Rattle.jn_node.specs.Calls.{GoesOn, IsSameNode}
use Rattle.jn_node.specs.Nodes.{IsAtWork, left_to_take, view_at}
use Rattle.jn_node.proofs.node.Node.carry_out.Given as goal

abbrev pub invariant-loop : goal.invariant-loop
invariant-loop g l = record {
  runs : IsAtWork (λ s. g.S.StableStore.view s) l.self;
  goes : GoesOn (λ s. g.S.StableStore.view s) l.initial.self l.self;
  left : left_to_take (λ s. g.S.StableStore.view s) l.self ≤ left_to_take (λ s. g.S.StableStore.view s) l.initial.self;
  tickets : l.self.running.tickets ≡ l.initial.self.running.tickets;
  same : IsSameNode l.initial.self l.self;
}

-- each step leaves fewer to make
abbrev pub decreases-loop : goal.decreases-loop
decreases-loop g l = steps_left (view_at (λ s. g.S.StableStore.view s) l.self)

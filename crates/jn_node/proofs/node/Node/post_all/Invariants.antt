use Rattle.std.proofs.Common.{◌≡◌}
use Rattle.jn_node.specs.Calls.{PostsAll}
use Rattle.jn_node.proofs.node.Node.post_all.Given as goal

abbrev pub invariant-loop-to : goal.invariant-loop-to
invariant-loop-to g l = record {
  others : l.self ≡ record l.initial.self { own = l.self.own; answers = l.self.answers };
  posts : PostsAll l.initial.self l.yielded l.self;
}

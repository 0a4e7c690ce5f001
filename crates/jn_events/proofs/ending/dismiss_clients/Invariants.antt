use Rattle.jn_events.proofs.Closing.{over_first}
use Rattle.jn_events.proofs.Common.{IsWorld, ◌≡◌, vec_len}
use Rattle.jn_events.proofs.ending.dismiss_clients.Given as goal

abbrev pub invariant-loop-c : goal.invariant-loop-c
invariant-loop-c g l = record {
  world : IsWorld (λ s. g.S.StableStore.view s) l.world;
  as_many : vec_len l.world.clients ≡ 8;
  others : l.world ≡ record l.initial.world { clients = l.world.clients };
  over : l.world.clients.items ≡ over_first l.c l.initial.world.clients.items;
}

use Rattle.jn_events.proofs.Common.{ServerNo, DoesTasks, ClosesClients, End, AreUpAndCalm, IsWorld, standing_of, ◌≡◌, ℕ, Ok, vec_len}
use Rattle.jn_events.proofs.Calls.{at_servers}
use Rattle.jn_events.proofs.ending.close_all_clients.Given as goal

abbrev pub invariant-loop-s : goal.invariant-loop-s
invariant-loop-s g l = record {
  world : IsWorld (λ s. g.S.StableStore.view s) l.world;
  calm : AreUpAndCalm (λ s. g.S.StableStore.view s) l.world.places.items;
  as_many : vec_len l.world.places ≡ vec_len l.initial.world.places;
  clients : l.world.clients ≡ l.initial.world.clients;
  does : DoesTasks {A = ℕ} (λ s. g.S.StableStore.view s) (λ s. g.S.Powered.device s) (at_servers (λ (q : ServerNo). ClosesClients q) l.s) End (standing_of l.initial.world) (Ok 0) (standing_of l.world) l.initial.lines.items l.lines.items;
}

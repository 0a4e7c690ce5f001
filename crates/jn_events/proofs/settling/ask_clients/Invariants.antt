use Rattle.jn_events.proofs.Common.{ClientNo, DoesTasks, Acts, Again, StayUp, IsWorld, standing_of, ℕ, Ok}
use Rattle.jn_events.proofs.Calls.{at_clients}
use Rattle.jn_events.proofs.settling.ask_clients.Given as goal

abbrev pub invariant-loop-c : goal.invariant-loop-c
invariant-loop-c g l = record {
  world : IsWorld (λ s. g.S.StableStore.view s) l.world;
  calm : StayUp (λ s. g.S.StableStore.view s) l.initial.world.places.items l.world.places.items;
  does : DoesTasks {A = ℕ} (λ s. g.S.StableStore.view s) (λ s. g.S.Powered.device s) (at_clients (λ (c : ClientNo). Acts (Again c)) l.c) l.when (standing_of l.initial.world) (Ok 0) (standing_of l.world) l.initial.lines.items l.lines.items;
}

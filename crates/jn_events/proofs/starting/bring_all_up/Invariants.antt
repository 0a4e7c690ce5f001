use Rattle.jn_events.proofs.Common.{ServerNo, DoesTasks, ComesUp, IsWorld, standing_of, ◌≡◌, ℕ, Ok, vec_len}
use Rattle.jn_events.proofs.Calls.{at_servers}
use Rattle.jn_events.proofs.Calm.{RisenTo}
use Rattle.jn_events.proofs.starting.bring_all_up.Given as goal

abbrev pub invariant-loop-s : goal.invariant-loop-s
invariant-loop-s g l = record {
  world : IsWorld (λ s. g.S.StableStore.view s) l.world;
  risen : RisenTo (λ s. g.S.StableStore.view s) l.s l.initial.world.places.items l.world.places.items;
  as_many : vec_len l.world.places ≡ vec_len l.initial.world.places;
  clients : l.world.clients ≡ l.initial.world.clients;
  does : DoesTasks {A = ℕ} (λ s. g.S.StableStore.view s) (λ s. g.S.Powered.device s) (at_servers (λ (q : ServerNo). ComesUp q) l.s) l.when (standing_of l.initial.world) (Ok 0) (standing_of l.world) l.initial.lines.items l.lines.items;
}

use Rattle.jn_events.proofs.Common.{KeepsOn, StayUp, handed, IsWorld, standing_of, ℕ, Ok, ◌-◌}
use Rattle.jn_events.proofs.settling.come_to_rest.Given as goal

abbrev pub invariant-loop : goal.invariant-loop
invariant-loop g l = record {
  world : IsWorld (λ s. g.S.StableStore.view s) l.world;
  calm : StayUp (λ s. g.S.StableStore.view s) l.initial.world.places.items l.world.places.items;
  turns : KeepsOn {A = ℕ} (λ s. g.S.StableStore.view s) (λ s. g.S.Powered.device s) l.when (standing_of l.initial.world) (Ok 0) (standing_of l.world) l.initial.lines.items l.lines.items;
}

-- each turn hands a message over
abbrev pub decreases-loop : goal.decreases-loop
decreases-loop g l = 1000000 - handed l.world.net.sent

use Rattle.jn_events.proofs.Common.{KeepsOn, StayUp, handed, steps_of_all, IsWorld, standing_of, ◌≡◌, ℕ, Ok}
use Rattle.jn_events.proofs.settling.carry_out.Given as goal

abbrev pub invariant-loop : goal.invariant-loop
invariant-loop g l = record {
  world : IsWorld (λ s. g.S.StableStore.view s) l.world;
  calm : StayUp (λ s. g.S.StableStore.view s) l.initial.world.places.items l.world.places.items;
  turns : KeepsOn {A = ℕ} (λ s. g.S.StableStore.view s) (λ s. g.S.Powered.device s) l.when (standing_of l.initial.world) (Ok 0) (standing_of l.world) l.initial.lines.items l.lines.items;
  hands : handed l.world.net.sent ≡ handed l.initial.world.net.sent;
}

-- each step leaves fewer to make
abbrev pub decreases-loop : goal.decreases-loop
decreases-loop g l = steps_of_all (λ s. g.S.StableStore.view s) l.world.places.items

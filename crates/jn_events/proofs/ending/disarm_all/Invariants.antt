use Rattle.jn_events.proofs.Finishing.{DisarmedTo}
use Rattle.jn_events.proofs.Common.{IsWorld, ◌≡◌, vec_len}
use Rattle.jn_events.proofs.ending.disarm_all.Given as goal

abbrev pub invariant-loop-s : goal.invariant-loop-s
invariant-loop-s g l = record {
  world : IsWorld (λ s. g.S.StableStore.view s) l.world;
  as_many : vec_len l.world.places ≡ vec_len l.initial.world.places;
  others : l.world ≡ record l.initial.world { places = l.world.places };
  disarmed : DisarmedTo (λ s. g.S.StableStore.view s) (λ s. g.S.Powered.device s) l.s l.initial.world.places.items l.world.places.items;
}

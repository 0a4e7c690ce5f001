use Rattle.jn_events.proofs.Common.{ServerNo, DoesTasks, Acts, Place, End, Scrub, AreUpAndCalm, AreClean, HoldsImageAt, IsWorld, standing_of, ◌≡◌, ◌<◌, ℕ, Some, Ok, vec_len, slice_get}
use Rattle.jn_events.proofs.Calls.{at_servers}
use Rattle.jn_events.proofs.ending.scrub_all.Given as goal

abbrev pub invariant-loop-s : goal.invariant-loop-s
invariant-loop-s g l = record {
  world : IsWorld (λ s. g.S.StableStore.view s) l.world;
  calm : AreUpAndCalm (λ s. g.S.StableStore.view s) l.world.places.items;
  clean : AreClean (λ s. g.S.StableStore.view s) l.world.places.items;
  images : (n : ℕ) (p : Place g.row.S.Denot) → n < l.s → slice_get l.world.places.items n ≡ Some p → HoldsImageAt (λ s. g.S.StableStore.view s) n p;
  as_many : vec_len l.world.places ≡ vec_len l.initial.world.places;
  does : DoesTasks {A = ℕ} (λ s. g.S.StableStore.view s) (λ s. g.S.Powered.device s) (at_servers (λ (q : ServerNo). Acts (Scrub q)) l.s) End (standing_of l.initial.world) (Ok 0) (standing_of l.world) l.initial.lines.items l.lines.items;
}

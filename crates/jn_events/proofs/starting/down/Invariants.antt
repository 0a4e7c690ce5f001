use Rattle.jn_events.proofs.Pushed.{StandFor}
use Rattle.jn_events.proofs.Common.{ArePlaces, ◌≡◌, length}
use Rattle.jn_events.proofs.starting.down.Given as goal

abbrev pub invariant-loop-store : goal.invariant-loop-store
invariant-loop-store g l = record { places : ArePlaces (λ s. g.S.StableStore.view s) 0 0 l.places.items; many : length l.places.items ≡ length l.yielded; stand : StandFor l.yielded l.places.items }

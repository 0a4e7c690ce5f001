use Rattle.jn_events.proofs.Common.{AreTheirs, AreClosed, ◌≡◌, length}
use Rattle.jn_events.proofs.ending.into_stores.Given as goal

abbrev pub invariant-loop-place : goal.invariant-loop-place
invariant-loop-place g l = record { closed : AreClosed (λ s. g.S.StableStore.view s) 0 l.stores.items; many : length l.stores.items ≡ length l.yielded; theirs : AreTheirs l.yielded l.stores.items }

use Rattle.jn_locks.proofs.Common.{◌≡◌, drop, at, collisions_at}
use Rattle.jn_locks.proofs.held.Held.is_alone_at.Given as goal

abbrev pub invariant-loop-holder : goal.invariant-loop-holder
invariant-loop-holder l =
    let hs = at l.self.units l.want.unit in
    collisions_at l.work l.want (drop l.holder-index hs) ≡ collisions_at l.work l.want hs

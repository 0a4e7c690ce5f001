use Rattle.jn_locks.proofs.Common.{◌≡◌, ◌++◌, drop, at, units_of, intentions}
use Rattle.jn_locks.proofs.held.Held.commit_wants.Given as goal

abbrev pub invariant-loop-unit : goal.invariant-loop-unit
invariant-loop-unit l =
    let us = units_of l.self.works l.work in
    l.wants.items ++ intentions (at l.self.units) l.work (drop l.unit-index us) ≡ intentions (at l.self.units) l.work us

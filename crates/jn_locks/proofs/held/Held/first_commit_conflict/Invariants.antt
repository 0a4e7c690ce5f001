use Rattle.jn_locks.proofs.Common.{◌≡◌, drop, None, table_of, at, units_of, least_conflict, collisions, intentions}
use Rattle.jn_locks.proofs.held.Held.first_commit_conflict.Given as goal

abbrev pub invariant-loop-unit : goal.invariant-loop-unit
invariant-loop-unit l =
    let us = units_of l.self.works l.work in
    least_conflict (table_of l.self) l.best (collisions (at l.self.units) l.work (intentions (at l.self.units) l.work (drop l.unit-index us)))
    ≡ least_conflict (table_of l.self) None (collisions (at l.self.units) l.work (intentions (at l.self.units) l.work us))

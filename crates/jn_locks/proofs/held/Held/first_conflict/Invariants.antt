use Rattle.jn_locks.proofs.Common.{◌≡◌, drop, None, table_of, at, least_conflict, collisions}
use Rattle.jn_locks.proofs.held.Held.first_conflict.Given as goal

abbrev pub invariant-loop-want : goal.invariant-loop-want
invariant-loop-want l =
    least_conflict (table_of l.self) l.best (collisions (at l.self.units) l.work (drop l.want-index l.wants)) ≡ least_conflict (table_of l.self) None (collisions (at l.self.units) l.work l.wants)

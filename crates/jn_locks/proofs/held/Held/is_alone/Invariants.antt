use Rattle.jn_locks.proofs.Common.{◌≡◌, drop, at, collisions}
use Rattle.jn_locks.proofs.held.Held.is_alone.Given as goal

abbrev pub invariant-loop-want : goal.invariant-loop-want
invariant-loop-want l = collisions (at l.self.units) l.work (drop l.want-index l.wants) ≡ collisions (at l.self.units) l.work l.wants

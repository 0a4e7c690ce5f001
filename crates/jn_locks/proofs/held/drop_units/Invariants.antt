use Rattle.jn_locks.proofs.Common.{◌≡◌, drop, LockUnit, at}
use Rattle.jn_locks.proofs.Steps.{dropped_in}
use Rattle.jn_locks.proofs.held.drop_units.Given as goal

abbrev pub invariant-loop-unit : goal.invariant-loop-unit
invariant-loop-unit l = (u : LockUnit) → dropped_in (at l.units) l.work (drop l.unit-index l.list) u ≡ dropped_in (at l.fn.units) l.work l.list u

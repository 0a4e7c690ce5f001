use Rattle.std.proofs.Common.{◌≡◌, drop}
use Rattle.jn_locks.specs.Locks.{is_unit}
use Rattle.jn_works.proofs.works.is_unit.Given as goal

abbrev pub invariant-loop-other : goal.invariant-loop-other
invariant-loop-other l = is_unit (drop l.other-index l.units) l.unit ≡ is_unit l.units l.unit

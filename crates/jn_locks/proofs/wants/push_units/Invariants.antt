use Rattle.jn_locks.proofs.Common.{◌≡◌, drop, ◌||◌, ◌&&◌, LockUnit, Mode, wanted, is_unit, mode_eq}
use Rattle.jn_locks.proofs.wants.push_units.Given as goal

abbrev pub invariant-loop-unit : goal.invariant-loop-unit
invariant-loop-unit l =
    (u : LockUnit) (m : Mode) → (wanted l.wants.items u m || (is_unit (drop l.unit-index l.units) u && mode_eq l.mode m)) ≡ (wanted l.fn.wants.items u m || (is_unit l.units u && mode_eq l.mode m))

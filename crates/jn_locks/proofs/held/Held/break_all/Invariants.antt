use Rattle.jn_locks.proofs.Common.{◌≡◌, drop, false, None, if◌then◌else◌, WorkId, LockUnit, Mode, is_broken, table_of, IsSoundTable}
use Rattle.jn_locks.proofs.held.Held.break_all.Given as goal

abbrev pub invariant-loop-b : goal.invariant-loop-b
invariant-loop-b l =
    ((V : WorkId) (u : LockUnit) (m : Mode) → (if is_broken (drop l.b-index l.broken) V then false else (table_of l.self).holds V u m) ≡ (if is_broken l.broken V then false else (table_of l.fn.self).holds V u m))
    × ((V : WorkId) → (if is_broken (drop l.b-index l.broken) V then None else (table_of l.self).standing V) ≡ (if is_broken l.broken V then None else (table_of l.fn.self).standing V))
    × IsSoundTable l.self

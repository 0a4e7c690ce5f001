use Rattle.jn_locks.proofs.Common.{◌≡◌, true, drop, WorkId, LockUnit, Mode, is_among, is_wanted_unit, at, table_of, IsSoundTable}
use Rattle.jn_locks.proofs.Steps.{turned_in}
use Rattle.jn_locks.proofs.held.Held.turn.Given as goal

abbrev pub invariant-loop-want : goal.invariant-loop-want
invariant-loop-want l =
    ((V : WorkId) (u : LockUnit) (m : Mode) → turned_in (table_of l.self).holds l.work (drop l.want-index l.wants) V u m ≡ turned_in (table_of l.fn.self).holds l.work l.wants V u m)
    × (l.self.works ≡ l.fn.self.works)
    × IsSoundTable l.self
    × ((u : LockUnit) → is_wanted_unit (drop l.want-index l.wants) u ≡ true → is_among (at l.self.units u) l.work ≡ true)

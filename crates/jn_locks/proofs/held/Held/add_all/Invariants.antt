use Rattle.jn_locks.proofs.Common.{◌≡◌, ◌≤◌, true, drop, length, ◌||◌, ◌&&◌, WorkId, LockUnit, work_eq, Mode, wanted, is_among, is_wanted_unit, at, has_room_at, room_of, table_of, IsSoundTable}
use Rattle.jn_locks.proofs.held.Held.add_all.Given as goal

abbrev pub invariant-loop-want : goal.invariant-loop-want
invariant-loop-want l =
    ((V : WorkId) (u : LockUnit) (m : Mode) → ((table_of l.self).holds V u m || (work_eq l.work V && wanted (drop l.want-index l.wants) u m)) ≡ ((table_of l.fn.self).holds V u m || (work_eq l.work V && wanted l.wants u m)))
    × ((V : WorkId) → (table_of l.self).standing V ≡ (table_of l.fn.self).standing V)
    × IsSoundTable l.self
    × ((u : LockUnit) → is_wanted_unit (drop l.want-index l.wants) u ≡ true → (is_among (at l.self.units u) l.work || has_room_at l.self.units u) ≡ true)
    × (length (drop l.want-index l.wants) ≤ room_of l.self.works l.work)

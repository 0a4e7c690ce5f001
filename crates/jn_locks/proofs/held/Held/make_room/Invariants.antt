use Rattle.jn_locks.proofs.Common.{◌≡◌, true, drop, ◌||◌, LockUnit, is_wanted_unit, at, has_room_at}
use Rattle.jn_locks.proofs.held.Held.make_room.Given as goal

abbrev pub invariant-loop-want : goal.invariant-loop-want
invariant-loop-want l =
    ((u : LockUnit) → at l.self.units u ≡ at l.fn.self.units u) × (l.self.works ≡ l.fn.self.works)
    × ((u : LockUnit) → is_wanted_unit l.wants u ≡ true → (has_room_at l.self.units u || is_wanted_unit (drop l.want-index l.wants) u) ≡ true)

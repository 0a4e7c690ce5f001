use Rattle.jn_locks.proofs.Common.{◌≡◌, drop, [], table_of, at, all_broken, makes_way, collisions}
use Rattle.jn_locks.proofs.held.Held.broken.Given as goal

abbrev pub invariant-loop-want : goal.invariant-loop-want
invariant-loop-want l =
    all_broken (makes_way (table_of l.self)) l.broken.items (collisions (at l.self.units) l.work (drop l.want-index l.wants)) ≡ all_broken (makes_way (table_of l.self)) [] (collisions (at l.self.units) l.work l.wants)

use Rattle.jn_locks.proofs.Common.{◌≡◌, drop, table_of, at, all_broken, makes_way, collisions_at}
use Rattle.jn_locks.proofs.held.Held.add_broken_at.Given as goal

abbrev pub invariant-loop-holder : goal.invariant-loop-holder
invariant-loop-holder l =
    let hs = at l.self.units l.want.unit in
    all_broken (makes_way (table_of l.self)) l.broken.items (collisions_at l.work l.want (drop l.holder-index hs)) ≡ all_broken (makes_way (table_of l.self)) l.fn.broken.items (collisions_at l.work l.want hs)

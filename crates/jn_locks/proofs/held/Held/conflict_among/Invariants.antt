use Rattle.jn_locks.proofs.Common.{◌≡◌, drop, table_of, least_conflict, collisions_at}
use Rattle.jn_locks.proofs.held.Held.conflict_among.Given as goal

abbrev pub invariant-loop-holder : goal.invariant-loop-holder
invariant-loop-holder l =
    least_conflict (table_of l.self) l.best (collisions_at l.work l.want (drop l.holder-index l.holders)) ≡ least_conflict (table_of l.self) l.fn.best (collisions_at l.work l.want l.holders)

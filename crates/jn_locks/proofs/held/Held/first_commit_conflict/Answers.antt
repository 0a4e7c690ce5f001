use Rattle.jn_locks.proofs.Common.{◌≡◌, ◌+◌, List, drop, ◌∙◌, subst, arith, LockUnit, at, table_of, least_conflict, collisions, intentions}
use Rattle.jn_locks.proofs.Conflicts.{intention_step}
use Rattle.jn_locks.proofs.held.Held.first_commit_conflict.Goals as goal

pub loop-unit-preserved : goal.loop-unit-preserved
loop-unit-preserved c =
    let h = c.args.self.now in
    subst (λ (us : List LockUnit). least_conflict (table_of h) c.commit_conflict_at-best.result (collisions (at h.units) c.args.work (intentions (at h.units) c.args.work (drop (c.loop-unit.unit-index + 1) us)))
    ≡ least_conflict (table_of h) c.loop-unit.best (collisions (at h.units) c.args.work (intentions (at h.units) c.args.work (drop c.loop-unit.unit-index us)))) c.units-unit-items.ensures
    (intention_step h c.args.work _ _ c.units-unit-items.result.now c.loop-unit.unit-index _ (omega arith) c.commit_conflict_at-best.ensures) ∙ c.loop-unit.invariant

use Rattle.std.proofs.Common.{◌∙◌, arith}
use Rattle.jn_locks.proofs.Conflicts.{conflict_step}
use Rattle.jn_locks.proofs.held.Held.first_conflict.Goals as goal

pub loop-want-preserved : goal.loop-want-preserved
loop-want-preserved c = conflict_step c.args.self.now c.args.work _ _ c.args.wants.now c.loop-want.want-index _ (omega arith) c.conflict_at-best.ensures ∙ c.loop-want.invariant

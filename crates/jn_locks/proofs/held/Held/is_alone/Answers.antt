use Rattle.std.proofs.Common.{rules, ◌∙◌, arith}
use Rattle.jn_locks.proofs.Conflicts.{alone_step}
use Rattle.jn_locks.proofs.held.Held.is_alone.Goals as goal

pub loop-want-preserved : goal.loop-want-preserved
loop-want-preserved c = alone_step c.args.self.now c.args.work c.args.wants.now c.loop-want.want-index _ (omega arith) (c.is_alone_at.ensures (search rules)) ∙ c.loop-want.invariant

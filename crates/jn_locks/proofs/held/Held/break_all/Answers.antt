use Rattle.std.proofs.Common.{◌∙◌, arith, false, None}
use Rattle.jn_locks.proofs.Steps.{break_more}
use Rattle.jn_locks.proofs.held.Held.break_all.Goals as goal

pub loop-b-preserved : goal.loop-b-preserved
loop-b-preserved c = (
  λ V u m. break_more false c.args.broken.now c.loop-b.b-index _ V _ _ (omega arith) (c.release.ensures.released.locks V u m) ∙ c.loop-b.invariant.0 V u m,
  λ V. break_more None c.args.broken.now c.loop-b.b-index _ V _ _ (omega arith) (c.release.ensures.released.standing V) ∙ c.loop-b.invariant.1 V,
  c.release.ensures.sound_after,
)

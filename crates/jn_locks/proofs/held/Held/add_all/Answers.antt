use Rattle.std.proofs.Common.{◌+◌, ◌∙◌, arith, length-drop}
use Rattle.jn_locks.proofs.Steps.{one_more, wanted_later, no_want}
use Rattle.jn_locks.proofs.held.Held.add_all.Goals as goal

pub loop-want-preserved : goal.loop-want-preserved
loop-want-preserved c = (
  λ V u m. one_more c.args.wants.now c.loop-want.want-index no_want c.args.work V u m _ _ _ (omega arith) (c.add.ensures.holds V u m) (c.loop-want.invariant.0 V u m),
  λ V. c.add.ensures.standing V ∙ c.loop-want.invariant.1 V,
  c.add.ensures.sound_after,
  λ u k. c.add.ensures.still u (c.loop-want.invariant.3 u (wanted_later c.args.wants.now c.loop-want.want-index no_want u (omega arith) k)),
  omega (arith, length-drop c.loop-want.want-index c.args.wants.now, length-drop (c.loop-want.want-index + 1) c.args.wants.now, c.loop-want.invariant.4, c.add.ensures.room),
)

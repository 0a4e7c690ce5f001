use Rattle.jn_locks.proofs.Common.{List, ap, ◌∙◌, arith, Want, wanted}
use Rattle.jn_locks.proofs.Steps.{wanted-append, unit_more}
use Rattle.jn_locks.proofs.wants.push_units.Goals as goal

pub loop-unit-preserved : goal.loop-unit-preserved
loop-unit-preserved c u m = unit_more c.args.units.now c.loop-unit.unit-index _ u _ _ _ _ (omega arith) (ap (λ (ws : List Want). wanted ws u m) c.in_ok-push.ensures.items ∙ wanted-append c.loop-unit.wants.items _ u m) (c.loop-unit.invariant u m)

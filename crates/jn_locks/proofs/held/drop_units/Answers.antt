use Rattle.jn_locks.proofs.Common.{◌∙◌, arith, at}
use Rattle.jn_locks.proofs.Steps.{drop_more}
use Rattle.jn_locks.proofs.held.drop_units.Goals as goal

pub loop-unit-preserved : goal.loop-unit-preserved
loop-unit-preserved c u = drop_more c.args.list.now c.loop-unit.unit-index _ c.args.work (at c.loop-unit.units) (at c.drop_work.new.self) (omega arith) c.drop_work.ensures u ∙ c.loop-unit.invariant u

use Rattle.std.proofs.Common.{rules}
use Rattle.jn_coord.proofs.Rows.{settled, forgotten, not-forgotten}
use Rattle.jn_coord.proofs.coordinator.Coordinator.settle.Goals as goal

pub returns-then-not-is_over : goal.returns-then-not-is_over
returns-then-not-is_over g c = λ k before. settled _ _ _ c.args.tid k c.args.d before c.requires.fits c.requires.same (search rules) c.set_stage.ensures

pub returns-then-is_err : goal.returns-then-is_err
returns-then-is_err g c = λ k before. not-forgotten _ _ _ c.args.tid k c.args.d before _ (search rules) c.drop_flag.ensures.dropped (search rules)

pub returns : goal.returns
returns g c = λ k before. forgotten _ _ _ _ c.args.tid k c.args.d before _ c.requires.fits c.requires.same (search rules) c.drop_flag.ensures.dropped (search rules) c.remove.ensures

use Rattle.jn_machine.proofs.Common.{refl, counted_twice, counted_none}
use Rattle.jn_machine.proofs.Refuted.{miscounted}
use Rattle.jn_machine.proofs.wrong.another_count_is_no_report.Goals as goal

pub returns-clause-more : goal.returns-clause-more
returns-clause-more c = miscounted counted_twice refl

pub returns-clause-fewer : goal.returns-clause-fewer
returns-clause-fewer c = miscounted counted_none refl

use Rattle.jn_machine.proofs.Common.{refl, out_of_order, shown_too_soon}
use Rattle.jn_machine.proofs.Refuted.{disordered}
use Rattle.jn_machine.proofs.wrong.lines_out_of_order_are_no_report.Goals as goal

pub returns-clause-answers : goal.returns-clause-answers
returns-clause-answers c = disordered out_of_order refl

pub returns-clause-shows : goal.returns-clause-shows
returns-clause-shows c = disordered shown_too_soon refl

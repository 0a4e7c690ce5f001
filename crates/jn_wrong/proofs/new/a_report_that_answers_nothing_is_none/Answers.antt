use Rattle.jn_wrong.proofs.Differing.{unanswered}
use Rattle.jn_wrong.proofs.new.a_report_that_answers_nothing_is_none.Goals as goal

pub returns : goal.returns
returns c = unanswered

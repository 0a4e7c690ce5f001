use Rattle.jn_wrong.proofs.Shown.{at-end, in-schedule}
use Rattle.jn_wrong.proofs.telling.a_show_prints_what_is_there_once.Goals as goal

pub returns-clause-in_the_schedule : goal.returns-clause-in_the_schedule
returns-clause-in_the_schedule c = in-schedule

pub returns-clause-at_the_end : goal.returns-clause-at_the_end
returns-clause-at_the_end c = at-end

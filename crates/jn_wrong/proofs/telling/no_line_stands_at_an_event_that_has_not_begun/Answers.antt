use Rattle.jn_wrong.proofs.Numbers.{have-begun, of-schedule}
use Rattle.jn_wrong.proofs.telling.no_line_stands_at_an_event_that_has_not_begun.Goals as goal

pub returns-clause-begun : goal.returns-clause-begun
returns-clause-begun c = have-begun

pub returns-clause-of_the_schedule : goal.returns-clause-of_the_schedule
returns-clause-of_the_schedule c = of-schedule

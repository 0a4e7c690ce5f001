use Rattle.jn_wrong.proofs.Scrubbed.{scrubbed-in-schedule, scrubbed-at-end}
use Rattle.jn_wrong.proofs.telling.a_scrub_leaves_no_old_half.Goals as goal

pub returns-clause-in_the_schedule : goal.returns-clause-in_the_schedule
returns-clause-in_the_schedule c = scrubbed-in-schedule

pub returns-clause-at_the_end : goal.returns-clause-at_the_end
returns-clause-at_the_end c = scrubbed-at-end

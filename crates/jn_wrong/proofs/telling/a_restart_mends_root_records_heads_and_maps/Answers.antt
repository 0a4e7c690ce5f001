use Rattle.jn_wrong.proofs.Mended.{mended-in-schedule, mended-at-start-and-end}
use Rattle.jn_wrong.proofs.telling.a_restart_mends_root_records_heads_and_maps.Goals as goal

pub returns-clause-in_the_schedule : goal.returns-clause-in_the_schedule
returns-clause-in_the_schedule c = mended-in-schedule

pub returns-clause-at_start_and_end : goal.returns-clause-at_start_and_end
returns-clause-at_start_and_end c = mended-at-start-and-end

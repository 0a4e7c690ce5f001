use Rattle.std.proofs.Common.{refl}
use Rattle.jn_headline.proofs.cut_reports.a_run_is_cut_off.Goals as goal

pub returns-clause-run : goal.returns-clause-run
returns-clause-run c = record { under = tt; steps = tt; shows = tt; faults = tt }

pub returns-clause-cut : goal.returns-clause-cut
returns-clause-cut c = record { steps = (tt, (tt, tt)); of_end = refl; printed = refl }

pub returns-clause-lines : goal.returns-clause-lines
returns-clause-lines c = refl

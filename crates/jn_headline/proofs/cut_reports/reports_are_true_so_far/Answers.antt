use Rattle.jn_headline.proofs.CutReports.Cut.{cut-true, run-true, next-true}
use Rattle.jn_headline.proofs.cut_reports.reports_are_true_so_far.Goals as goal

pub returns-clause-within_its_events : goal.returns-clause-within_its_events
returns-clause-within_its_events c = run-true

pub returns-clause-at_its_last_event : goal.returns-clause-at_its_last_event
returns-clause-at_its_last_event c = next-true

pub returns-clause-within_its_end : goal.returns-clause-within_its_end
returns-clause-within_its_end c = cut-true

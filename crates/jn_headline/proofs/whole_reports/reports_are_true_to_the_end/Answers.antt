use Rattle.jn_headline.proofs.Common.{opening, world_of, run-follows, end-causes, end-told, follows-to-end, counted-follows}
use Rattle.jn_headline.proofs.WholeReports.Outcomes.{told-to-end}
use Rattle.jn_headline.proofs.whole_reports.reports_are_true_to_the_end.Goals as goal

pub returns-clause-told : goal.returns-clause-told
returns-clause-told c = λ servers files epochs items e h. told-to-end files epochs servers items e h.reported h.ending

pub returns-clause-follows : goal.returns-clause-follows
returns-clause-follows c = λ servers files epochs items e h. counted-follows _ _ (follows-to-end _ _ _ (end-told servers e (world_of items (opening servers files epochs)) h.ending.settling) (run-follows files epochs servers items h.reported))

pub returns-clause-caused : goal.returns-clause-caused
returns-clause-caused c = λ servers files epochs items e h. end-causes files epochs servers items e h.reported h.ending

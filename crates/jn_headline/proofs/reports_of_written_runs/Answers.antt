use Rattle.jn_headline.proofs.Joined.{whole-report, part-report, limited-report}
use Rattle.jn_headline.proofs.reports_of_written_runs.Goals as goal

pub returns-clause-whole : goal.returns-clause-whole
returns-clause-whole c = λ x schedule images closing lines few ranges h. whole-report x schedule images few ranges closing lines h

pub returns-clause-so_far : goal.returns-clause-so_far
returns-clause-so_far c = λ x schedule images lines few ranges h. part-report x schedule images few ranges lines h

pub returns-clause-limited : goal.returns-clause-limited
returns-clause-limited c = λ x schedule images lines few ranges h. limited-report x schedule images few ranges lines h

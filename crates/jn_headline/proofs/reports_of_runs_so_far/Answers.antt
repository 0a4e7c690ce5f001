use Rattle.jn_headline.proofs.Headline.{run-so-far, end-so-far, part-so-far}
use Rattle.jn_headline.proofs.reports_of_runs_so_far.Goals as goal

pub returns-clause-in_its_schedule : goal.returns-clause-in_its_schedule
returns-clause-in_its_schedule c = part-so-far

pub returns-clause-in_its_end : goal.returns-clause-in_its_end
returns-clause-in_its_end c = end-so-far

pub returns-clause-to_its_end : goal.returns-clause-to_its_end
returns-clause-to_its_end c = λ x schedule files now few of r. run-so-far x schedule files now few of r

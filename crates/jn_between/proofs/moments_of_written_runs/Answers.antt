use Rattle.jn_between.proofs.Moments.{always, between-events}
use Rattle.jn_between.proofs.Ended.{at-the-end}
use Rattle.jn_between.proofs.moments_of_written_runs.Goals as goal

pub returns-clause-always : goal.returns-clause-always
returns-clause-always c = λ x schedule images m few ranges h. always x schedule images m few ranges h

pub returns-clause-between : goal.returns-clause-between
returns-clause-between c = λ x schedule rest images m few ranges h stage tasks. between-events x schedule images m few ranges h rest stage tasks

pub returns-clause-at_the_end : goal.returns-clause-at_the_end
returns-clause-at_the_end c = λ x schedule images m few ranges h stage tasks. at-the-end x schedule images m few ranges h stage tasks

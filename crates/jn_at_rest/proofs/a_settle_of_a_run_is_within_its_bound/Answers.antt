use Rattle.jn_at_rest.proofs.Within.{within-tasks, within-met, within-begun}
use Rattle.jn_at_rest.proofs.a_settle_of_a_run_is_within_its_bound.Goals as goal

pub returns-clause-tasks : goal.returns-clause-tasks
returns-clause-tasks c = λ x schedule images a b behind few run s. within-tasks x behind b few schedule images a run s

pub returns-clause-meets : goal.returns-clause-meets
returns-clause-meets c = λ x schedule images a b behind few run s. within-met x behind b few schedule images a run s

pub returns-clause-begins : goal.returns-clause-begins
returns-clause-begins c = λ x schedule images a b behind few run s. within-begun x behind b few schedule images a run s

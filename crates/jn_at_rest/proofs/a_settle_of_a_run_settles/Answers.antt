use Rattle.jn_at_rest.proofs.Whole.{settles, settles-met, settles-begun}
use Rattle.jn_at_rest.proofs.a_settle_of_a_run_settles.Goals as goal

pub returns-clause-tasks : goal.returns-clause-tasks
returns-clause-tasks c = λ x schedule images a b behind few run s up. settles x behind b few schedule images a run s up

pub returns-clause-meets : goal.returns-clause-meets
returns-clause-meets c = λ x schedule images a b behind few run s up. settles-met x behind b few schedule images a run s up

pub returns-clause-begins : goal.returns-clause-begins
returns-clause-begins c = λ x schedule images a b behind few run s up. settles-begun x behind b few schedule images a run s up

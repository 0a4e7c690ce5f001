use Rattle.jn_calls.proofs.Fewer.{falls, few, read-few, write-few, names-few}
use Rattle.jn_calls.proofs.laws.a_turn_leaves_fewer.Goals as goal

pub returns-clause-falls : goal.returns-clause-falls
returns-clause-falls c = λ state answer. falls state answer

pub returns-clause-few : goal.returns-clause-few
returns-clause-few c = λ call os reply h. few call os reply h

pub returns-clause-reads : goal.returns-clause-reads
returns-clause-reads c = λ f offset count l. read-few f offset count l

pub returns-clause-writes : goal.returns-clause-writes
returns-clause-writes c = λ f offset bytes. write-few f offset bytes

pub returns-clause-names : goal.returns-clause-names
returns-clause-names c = λ command. names-few command

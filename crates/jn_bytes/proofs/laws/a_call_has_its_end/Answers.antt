use Rattle.jn_bytes.proofs.Ending.{falls, ends, few, read-most, write-most}
use Rattle.jn_bytes.proofs.laws.a_call_has_its_end.Goals as goal

pub returns-clause-ends : goal.returns-clause-ends
returns-clause-ends c = λ call answers h. ends call answers h

pub returns-clause-few : goal.returns-clause-few
returns-clause-few c = λ call os reply h. few call os reply h

pub returns-clause-falls : goal.returns-clause-falls
returns-clause-falls c = λ call stage answer. falls call stage answer

pub returns-clause-reads : goal.returns-clause-reads
returns-clause-reads c = λ f offset count l. read-most f offset count l

pub returns-clause-writes : goal.returns-clause-writes
returns-clause-writes c = λ f offset bytes. write-most f offset bytes

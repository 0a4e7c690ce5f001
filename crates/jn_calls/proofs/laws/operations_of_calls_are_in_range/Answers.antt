use Rattle.jn_calls.proofs.Fitting.{begins, stays}
use Rattle.jn_calls.proofs.laws.operations_of_calls_are_in_range.Goals as goal

pub returns-clause-begins : goal.returns-clause-begins
returns-clause-begins c = λ call h. begins call h

pub returns-clause-goes_on : goal.returns-clause-goes_on
returns-clause-goes_on c = λ state answer h. stays state answer h

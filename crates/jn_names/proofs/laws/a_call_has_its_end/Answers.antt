use Rattle.jn_names.proofs.Ending.{ends, few, falls}
use Rattle.jn_names.proofs.laws.a_call_has_its_end.Goals as goal

pub returns-clause-ends : goal.returns-clause-ends
returns-clause-ends c = λ command answers h. ends command answers h

pub returns-clause-few : goal.returns-clause-few
returns-clause-few c = λ command os reply h. few command os reply h

pub returns-clause-falls : goal.returns-clause-falls
returns-clause-falls c = λ command stage answer. falls command stage answer

use Rattle.std.proofs.Common.{refl}
use Rattle.jn_callers.proofs.examples.a_call_takes_its_answers.Goals as goal

pub returns-clause-is_one : goal.returns-clause-is_one
returns-clause-is_one c = record { table = record { works = refl; waits = refl }; doing = refl; spoiled = refl }

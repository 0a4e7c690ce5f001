use Rattle.jn_callers.proofs.Kept.{no-call, none-spoiled}
use Rattle.jn_callers.proofs.laws.a_call_ends_with_its_transaction.Goals as goal

pub returns-clause-call : goal.returns-clause-call
returns-clause-call c = λ caller h e. no-call caller h e

pub returns-clause-spoiled : goal.returns-clause-spoiled
returns-clause-spoiled c = λ caller h e. none-spoiled caller h e

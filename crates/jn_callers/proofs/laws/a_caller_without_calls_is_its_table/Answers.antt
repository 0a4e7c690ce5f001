use Rattle.jn_callers.proofs.Plain.{plain-order, plain-message}
use Rattle.jn_callers.proofs.laws.a_caller_without_calls_is_its_table.Goals as goal

pub returns-clause-orders : goal.returns-clause-orders
returns-clause-orders c = λ t j command. plain-order t j command

pub returns-clause-messages : goal.returns-clause-messages
returns-clause-messages c = λ t m. plain-message t m

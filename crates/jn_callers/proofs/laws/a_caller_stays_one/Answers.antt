use Rattle.std.proofs.Common.{refl}
use Rattle.jn_callers.proofs.Kept.{order-keeps, message-keeps}
use Rattle.jn_callers.proofs.laws.a_caller_stays_one.Goals as goal

pub returns-clause-first : goal.returns-clause-first
returns-clause-first c = λ client servers. record { table = record { works = refl; waits = refl }; doing = refl; spoiled = refl }

pub returns-clause-orders : goal.returns-clause-orders
returns-clause-orders c = λ caller j order h. order-keeps caller j order h

pub returns-clause-messages : goal.returns-clause-messages
returns-clause-messages c = λ caller m h. message-keeps caller m h

use Rattle.jn_callers.proofs.Sending.{order-sent, order-refused}
use Rattle.jn_callers.proofs.laws.an_order_is_its_command.Goals as goal

pub returns-clause-sent : goal.returns-clause-sent
returns-clause-sent c = λ caller j order now to m h. order-sent caller j order now to m h

pub returns-clause-refused : goal.returns-clause-refused
returns-clause-refused c = λ caller j order refusal h. order-refused caller j order refusal h

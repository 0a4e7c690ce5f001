use Rattle.jn_judged.proofs.Example.{order-broken}
use Rattle.jn_judged.proofs.examples.an_answer_that_the_order_does_not_give_is_at_fault.Goals as goal

pub returns : goal.returns
returns c = order-broken

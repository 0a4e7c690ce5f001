use Rattle.jn_judged.proofs.Example.{answered-twice}
use Rattle.jn_judged.proofs.examples.a_second_answer_is_at_fault.Goals as goal

pub returns : goal.returns
returns c = answered-twice

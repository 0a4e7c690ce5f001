use Rattle.jn_callers.proofs.Fewer.{asks-fewer}
use Rattle.jn_callers.proofs.laws.a_caller_asks_fewer.Goals as goal

pub returns : goal.returns
returns c = λ caller m. asks-fewer caller m

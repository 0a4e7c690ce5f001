use Rattle.jn_system.proofs.WholeSystem.Numbers.{steps-alike, may-alike}
use Rattle.jn_system.proofs.protocol.numbers_change_nothing.Goals as goal

pub returns-clause-may : goal.returns-clause-may
returns-clause-may c = may-alike

pub returns-clause-same : goal.returns-clause-same
returns-clause-same c = steps-alike

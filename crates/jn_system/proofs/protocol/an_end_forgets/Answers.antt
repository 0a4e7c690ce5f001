use Rattle.std.proofs.Common.{refl}
use Rattle.jn_system.proofs.protocol.an_end_forgets.Goals as goal

pub returns-clause-steps : goal.returns-clause-steps
returns-clause-steps c = (tt, (λ d. (refl, refl), (tt, tt)))

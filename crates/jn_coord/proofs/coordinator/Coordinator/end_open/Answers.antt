use Rattle.jn_coord.proofs.Common.{refl, longer_same}
use Rattle.jn_coord.proofs.coordinator.Coordinator.end_open.Goals as goal

pub returns-in-Err-Memory : goal.returns-in-Err-Memory
returns-in-Err-Memory g c = λ x at. (refl, c.in-Err-Memory.ensures.promised.kept refl, longer_same _ _ refl)

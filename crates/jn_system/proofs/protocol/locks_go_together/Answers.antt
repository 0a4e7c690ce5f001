use Rattle.jn_system.proofs.Common.{opening}
use Rattle.jn_system.proofs.WholeSystem.Steps.{run-keeps, opening-keeps}
use Rattle.jn_system.proofs.protocol.locks_go_together.Goals as goal

pub returns : goal.returns
returns c = λ servers files epochs steps i. run-keeps steps (opening servers files epochs) i (opening-keeps servers files epochs)

use Rattle.jn_system_settling.proofs.Settling.Settling.{run-sizes}
use Rattle.jn_system_settling.proofs.courses.tables_stay_small.Goals as goal

pub returns : goal.returns
returns c = λ servers files epochs steps few is. run-sizes servers few files epochs steps is

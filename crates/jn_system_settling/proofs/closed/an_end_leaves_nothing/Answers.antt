use Rattle.jn_system_settling.proofs.Closing.Ends.{end-leaves-nothing}
use Rattle.jn_system_settling.proofs.closed.an_end_leaves_nothing.Goals as goal

pub returns : goal.returns
returns c = λ servers files epochs steps few is starts comes. end-leaves-nothing servers few files epochs steps is starts comes

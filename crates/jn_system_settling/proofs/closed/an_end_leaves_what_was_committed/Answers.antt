use Rattle.jn_system_settling.proofs.Closing.Ends.{end-leaves-committed}
use Rattle.jn_system_settling.proofs.closed.an_end_leaves_what_was_committed.Goals as goal

pub returns : goal.returns
returns c = λ servers files epochs steps few is starts comes. end-leaves-committed servers few files epochs steps is starts comes

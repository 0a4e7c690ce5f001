use Rattle.jn_laws.proofs.Last.{last-ready}
use Rattle.jn_laws.proofs.messages.the_last_ready_names_its_commit.Goals as goal

pub returns : goal.returns
returns c = last-ready

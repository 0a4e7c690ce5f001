use Rattle.jn_wrong.proofs.Differing.{for-two, aborted-another, committed-another, other-server}
use Rattle.jn_wrong.proofs.new.an_answer_for_another_is_none.Goals as goal

pub returns-clause-begun : goal.returns-clause-begun
returns-clause-begun c = for-two

pub returns-clause-aborted : goal.returns-clause-aborted
returns-clause-aborted c = aborted-another

pub returns-clause-committed : goal.returns-clause-committed
returns-clause-committed c = committed-another

pub returns-clause-opened : goal.returns-clause-opened
returns-clause-opened c = other-server

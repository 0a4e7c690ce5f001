use Rattle.jn_aside.proofs.Plain.{plain-append, plain-none}
use Rattle.jn_aside.proofs.parts_are_plain.Goals as goal

pub returns-clause-joined : goal.returns-clause-joined
returns-clause-joined c = plain-append

pub returns-clause-aside : goal.returns-clause-aside
returns-clause-aside c = plain-none

use Rattle.jn_judged.proofs.Example.{counted-wrongly}
use Rattle.jn_judged.proofs.Example.{not-there}
use Rattle.jn_judged.proofs.Example.{left-out}
use Rattle.jn_judged.proofs.examples.what_is_shown_wrongly_is_at_fault.Goals as goal

pub returns-clause-left_out : goal.returns-clause-left_out
returns-clause-left_out c = left-out

pub returns-clause-not_there : goal.returns-clause-not_there
returns-clause-not_there c = not-there

pub returns-clause-counted : goal.returns-clause-counted
returns-clause-counted c = counted-wrongly

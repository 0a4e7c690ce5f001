use Rattle.jn_callers.proofs.Kept.{call-waits, call-sends}
use Rattle.jn_callers.proofs.laws.a_call_goes_on.Goals as goal

pub returns-clause-waits : goal.returns-clause-waits
returns-clause-waits c = λ caller d h e. call-waits caller d h e

pub returns-clause-sends : goal.returns-clause-sends
returns-clause-sends c = λ caller d j op h e. call-sends caller d j op h e

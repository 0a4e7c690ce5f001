use Rattle.jn_laws.proofs.Answering.{answered, row-done, told-stale, told-stopped, too-long}
use Rattle.jn_laws.proofs.messages.a_message_has_its_answer_in_its_event.Goals as goal

pub returns-clause-answer : goal.returns-clause-answer
returns-clause-answer c = answered

pub returns-clause-row : goal.returns-clause-row
returns-clause-row c = row-done

pub returns-clause-stale : goal.returns-clause-stale
returns-clause-stale c = told-stale

pub returns-clause-stopped : goal.returns-clause-stopped
returns-clause-stopped c = told-stopped

pub returns-clause-too_long : goal.returns-clause-too_long
returns-clause-too_long c = too-long

use Rattle.jn_at_rest.proofs.Behind.{behind-event, behind-end}
use Rattle.jn_at_rest.proofs.no_rest_is_left_after_a_settle.Goals as goal

pub returns-clause-of_event : goal.returns-clause-of_event
returns-clause-of_event c = behind-event

pub returns-clause-of_end : goal.returns-clause-of_end
returns-clause-of_end c = behind-end

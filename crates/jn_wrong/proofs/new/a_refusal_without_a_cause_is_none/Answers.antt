use Rattle.jn_wrong.proofs.Differing.{by-client, as-event, shown-more}
use Rattle.jn_wrong.proofs.Common.{RefusedEvent}
use Rattle.jn_wrong.proofs.new.a_refusal_without_a_cause_is_none.Goals as goal

pub returns-clause-by_its_client : goal.returns-clause-by_its_client
returns-clause-by_its_client c = by-client

pub returns-clause-as_an_event : goal.returns-clause-as_an_event
returns-clause-as_an_event c = as-event

pub returns-clause-of_a_show : goal.returns-clause-of_a_show
returns-clause-of_a_show c refusal = shown-more (RefusedEvent refusal)

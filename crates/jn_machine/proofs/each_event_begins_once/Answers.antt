use Rattle.jn_machine.proofs.Counted.{events-counted}
use Rattle.jn_machine.proofs.each_event_begins_once.Goals as goal

pub returns : goal.returns
returns c x schedule files epochs t m not = events-counted x schedule files epochs t m not

use Rattle.jn_wrong.proofs.Differing.{other-downs, other-ups}
use Rattle.jn_wrong.proofs.new.an_end_in_another_order_is_none.Goals as goal

pub returns-clause-down : goal.returns-clause-down
returns-clause-down c = other-downs

pub returns-clause-up : goal.returns-clause-up
returns-clause-up c = other-ups

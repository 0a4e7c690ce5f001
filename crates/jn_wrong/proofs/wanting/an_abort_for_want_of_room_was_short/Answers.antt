use Rattle.jn_wrong.proofs.Short.{was-short}
use Rattle.jn_wrong.proofs.wanting.an_abort_for_want_of_room_was_short.Goals as goal

pub returns : goal.returns
returns c = was-short
